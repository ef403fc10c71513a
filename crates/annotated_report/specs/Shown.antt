-- The pairs of vectors that a report shows, as lines.
use Rattle.std.specs.Prelude.{ℕ, zero, suc, ◌+◌, List, [], ◌∷◌, ◌++◌, codes, Option, Some, None, length, ◌==◌, if◌then◌else◌}
use Rattle.cov_base.specs.declared.event.Event.{Event}
use Rattle.cov_base.specs.declared.event.Vector.{Vector}
use Rattle.cov_base.specs.declared.level.Level.{Level}
use Rattle.cov_base.specs.declared.obligations.DecEntry.{DecEntry}
use Rattle.cov_base.specs.declared.obligations.Place.{Place}
use Rattle.cov_base.specs.Expr.{size}
use Rattle.cov_base.specs.Marks.{Marks, marks, rank}
use Rattle.decision_meaning.specs.Pair.{Pair}
use Rattle.annotated_report.specs.declared.finding.Key.{Key}
use Rattle.annotated_report.specs.declared.finding.PairLine.{PairLine}
use Rattle.annotated_report.specs.Findings.{asks_pairs, expr_of, condition_key}
use Rattle.annotated_report.specs.LeastPair.{shown_pair}
use Rattle.annotated_report.specs.Numbered.{each_numbered}
use Rattle.annotated_report.specs.Order.{in_order}
use Rattle.annotated_report.specs.Verdicts.{vectors_of}

-- the letter of a mark, by its place in the order F, T, -
abbrev pub letter_of : ℕ → ℕ
letter_of place = if place == 0 then 70 else if place == 1 then 84 else 45

-- the marks of so many conditions from c on
abbrev pub vector_from : ℕ → ℕ → Marks → List ℕ
vector_from c zero v = []
vector_from c (suc left) v = letter_of (rank v c) ∷ vector_from (suc c) left v

-- a vector of so many conditions
abbrev pub vector_text : ℕ → Vector → List ℕ
vector_text conditions v = vector_from 0 conditions (marks v)

-- a pair of vectors
abbrev pub pair_text : ℕ → Pair → List ℕ
pair_text conditions pair = vector_text conditions pair.first ++ (codes " " ++ vector_text conditions pair.second)

-- the line of a condition that a pair shows to matter
abbrev pub pair_line : ℕ → Key → Option Pair → List PairLine
pair_line conditions key None = []
pair_line conditions key (Some pair) = record { key = key; text = pair_text conditions pair } ∷ []

-- the line of a condition of a decision
abbrev pub line_of_condition : Level → List Vector → ℕ → DecEntry → ℕ → Place → List PairLine
line_of_condition level vectors d entry c place =
    pair_line (size (expr_of entry)) (condition_key d entry c place) (shown_pair level (expr_of entry) vectors c)

-- those of a decision's conditions
abbrev pub paired : Level → List Vector → ℕ → DecEntry → List PairLine
paired level vectors d entry = each_numbered (line_of_condition level vectors d entry) 0 entry.conditions

-- those that a level asks for
abbrev pub asked_pairs : Level → List Vector → ℕ → DecEntry → List PairLine
asked_pairs level vectors d entry = if asks_pairs level then paired level vectors d entry else []

-- those of all decisions
abbrev pub all_paired : Level → (vectors : ℕ → List Vector) → List DecEntry → List PairLine
all_paired level vectors decisions = each_numbered (λ d entry. asked_pairs level (vectors d) d entry) 0 decisions

-- the same in order
abbrev pub pair_lines : Level → List DecEntry → List Event → List PairLine
pair_lines level decisions events = in_order (λ line. line.key) (all_paired level (vectors_of events) decisions)

-- how many conditions there are
abbrev pub condition_count : List DecEntry → ℕ
condition_count [] = 0
condition_count (entry ∷ entries) = length entry.conditions + condition_count entries
