-- The definitions at worked examples.
use Rattle.std.proofs.Common.{◌≡◌, ℕ, List, [], ◌∷◌, codes, refl}
use Rattle.std.specs.Fmt.{digits}
use Rattle.std.specs.Str.Lines.{lines}
use Rattle.cov_base.specs.declared.event.Event.{Event}
use Rattle.cov_base.specs.declared.event.Event.TheVariants as event
use Rattle.cov_base.specs.declared.event.Vector.{Vector}
use Rattle.cov_base.specs.declared.level.Level.TheVariants as level
use Rattle.cov_base.specs.declared.obligations.DecEntry.{DecEntry}
use Rattle.cov_base.specs.declared.obligations.Obligations.{Obligations}
use Rattle.cov_base.specs.declared.obligations.Region.{Region}
use Rattle.cov_base.specs.declared.obligations.SourceFile.{SourceFile}
use Rattle.cov_base.specs.declared.obligations.StmtEntry.{StmtEntry}
use Rattle.cov_base.specs.Expression.{expression_of}
use Rattle.xcov_report.specs.Listing.{xcov_text}
use Rattle.xcov_report.specs.Obliged.{all_stretches}
use Rattle.xcov_report.specs.Text.{number_text}
use Rattle.xcov_report.specs.Told.{mark_at}

-- ---- lines

line_ends : lines (codes "a\r\n\nb\r\rc\r") ≡ codes "a" ∷ [] ∷ codes "b\r\rc\r" ∷ []
line_ends = refl

no_line_behind_the_last_end : lines (codes "a\n") ≡ codes "a" ∷ []
no_line_behind_the_last_end = refl

no_line : lines [] ≡ []
no_line = refl

six_places : number_text 42 ≡ codes "    42"
unfolding digits
six_places = refl

more_places : number_text 1234567 ≡ codes "1234567"
unfolding digits
more_places = refl

-- ---- a program whose last statement stands behind its return

abbrev statement : ℕ → StmtEntry
statement line = record { file = 0; line = line; column = 4 }

abbrev start : ℕ → Event
start n = event.Start (record { 0 = n }) (record { 0 = 0 })

abbrev due : List StmtEntry → List DecEntry → List Region → Obligations
due statements decisions regions =
    record { statements = statements; decisions = decisions; regions = regions; instances = []; exceptions = [] }

abbrev file : List ℕ → SourceFile
file bytes = record { name = codes "p.adb"; bytes = bytes }

behind_a_return : xcov_text level.Stmt (due (statement 2 ∷ statement 3 ∷ statement 4 ∷ []) [] []) 1 (start 0 ∷ start 1 ∷ [])
    (file (codes "begin\n   Put (1);\n   return;\n   Put (2);\nend P;\n") ∷ [])
    ≡ codes "gnatcov xcov\nlevel: stmt\ntraces: 1\nfile: p.adb\n     1 .: begin\n     2 +:    Put (1);\n     3 +:    return;\n     4 -:    Put (2);\n     5 .: end P;\n"
unfolding digits
behind_a_return = refl

-- two statements on a line, one of them behind the return
two_on_a_line : mark_at (all_stretches level.Stmt (due (statement 2 ∷ statement 2 ∷ []) [] []) (start 0 ∷ [])) 0 2 ≡ 33
two_on_a_line = refl

-- ---- regions

abbrev region : (from to : ℕ) → Region
region from to = record { file = 0; from_line = from; from_column = 4; to_line = to; to_column = 4; why = codes "dead" }

abbrev in_region : (from to line : ℕ) → ℕ
in_region from to line =
    mark_at (all_stretches level.Stmt (due (statement 4 ∷ statement 7 ∷ []) [] (region from to ∷ [])) (start 0 ∷ [])) 0 line

round_the_dead : in_region 6 8 4 ∷ in_region 6 8 5 ∷ in_region 6 8 6 ∷ in_region 6 8 7 ∷ in_region 6 8 8 ∷ in_region 6 8 9 ∷ [] ≡ codes "+.***."
round_the_dead = refl

round_the_covered : in_region 3 5 2 ∷ in_region 3 5 3 ∷ in_region 3 5 4 ∷ in_region 3 5 5 ∷ in_region 3 5 6 ∷ in_region 3 5 7 ∷ [] ≡ codes ".###.-"
round_the_covered = refl

-- ---- the decision `A and then B`, with its second condition on a line of its own

abbrev conjunction : DecEntry
conjunction = record {
  statement = record { 0 = 0 };
  file = 0;
  line = 2;
  column = 7;
  letter = record { 0 = 73 };
  expression = record { postfix = 0 ∷ 1 ∷ 33 ∷ [] };
  conditions = record { line = 2; column = 7 } ∷ record { line = 3; column = 7 } ∷ [];
}

abbrev done : Vector → Event
done v = event.Done (record { 0 = 0 }) (record { 0 = 0 }) v

-- F- and TT
abbrev f_dash : Vector
f_dash = record { seen = 1; value = 0 }

abbrev t_t : Vector
t_t = record { seen = 3; value = 3 }

abbrev decided : List Event → (line : ℕ) → ℕ
decided events line = mark_at (all_stretches level.Mcdc (due (statement 1 ∷ []) (conjunction ∷ []) []) events) 0 line

a_condition_without_a_pair : decided (start 0 ∷ done f_dash ∷ done t_t ∷ []) 2 ∷ decided (start 0 ∷ done f_dash ∷ done t_t ∷ []) 3 ∷ [] ≡ codes "+-"
unfolding expression_of
a_condition_without_a_pair = refl

no_evaluation : decided [] 1 ∷ decided [] 2 ∷ decided [] 3 ∷ [] ≡ codes "---"
unfolding expression_of
no_evaluation = refl

-- below the levels that ask for pairs conditions are no obligations
below_the_pairs : mark_at (all_stretches level.Decision (due (statement 1 ∷ []) (conjunction ∷ []) []) (start 0 ∷ done t_t ∷ [])) 0 3 ≡ 46
unfolding expression_of
below_the_pairs = refl
