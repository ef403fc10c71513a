-- What obligations and regions tell of their lines.
use Rattle.std.specs.Prelude.{ℕ, List, [], ◌∷◌, ◌++◌, Bool, false, ◌&&◌, ◌==◌, nat_le, Option, Some, None, is_some, not, if◌then◌else◌}
use Rattle.std.specs.List.{filter, list_any}
use Rattle.cov_base.specs.declared.event.Event.{Event}
use Rattle.cov_base.specs.declared.event.Vector.{Vector}
use Rattle.cov_base.specs.declared.level.Level.{Level}
use Rattle.cov_base.specs.declared.obligations.DecEntry.{DecEntry}
use Rattle.cov_base.specs.declared.obligations.Obligations.{Obligations}
use Rattle.cov_base.specs.declared.obligations.Place.{Place}
use Rattle.cov_base.specs.declared.obligations.Region.{Region}
use Rattle.cov_base.specs.declared.obligations.StmtEntry.{StmtEntry}
use Rattle.exemptions.specs.Regions.{is_inside}
use Rattle.annotated_report.specs.declared.finding.Finding.{Finding}
use Rattle.annotated_report.specs.Findings.{asks_outcomes, asks_pairs, expr_of, findings}
use Rattle.annotated_report.specs.LeastPair.{shown_pair}
use Rattle.annotated_report.specs.Numbered.{each_numbered}
use Rattle.annotated_report.specs.Verdicts.{is_started, vectors_of, is_covered}
use Rattle.xcov_report.specs.declared.told.Stretch.{Stretch}
use Rattle.xcov_report.specs.declared.told.Told.TheVariants as told

-- what an obligation tells of the line on which it stands
abbrev pub of_line : (file line : ℕ) → (is_satisfied : Bool) → Stretch
of_line file line is_satisfied =
    record { file = file; from = line; to = line; told = if is_satisfied then told.Satisfied else told.Lacking }

-- a statement is satisfied that was started
abbrev pub statement_stretches : (started : ℕ → Bool) → List StmtEntry → List Stretch
statement_stretches started statements =
    each_numbered (λ n entry. of_line entry.file entry.line (started n) ∷ []) 0 statements

-- a condition is satisfied that has a pair of the level's kind
abbrev pub condition_stretches : Level → List Vector → DecEntry → ℕ → Place → List Stretch
condition_stretches level vectors entry c place =
    of_line entry.file place.line (is_some (shown_pair level (expr_of entry) vectors c)) ∷ []

abbrev pub conditions_stretches : Level → List Vector → DecEntry → List Stretch
conditions_stretches level vectors entry = each_numbered (condition_stretches level vectors entry) 0 entry.conditions

-- a decision is satisfied that is covered; its conditions are told where the level asks for pairs
abbrev pub decision_stretches : Level → List Vector → DecEntry → List Stretch
decision_stretches level vectors entry =
    of_line entry.file entry.line (is_covered (expr_of entry) vectors)
    ∷ (if asks_pairs level then conditions_stretches level vectors entry else [])

abbrev pub decisions_stretches : Level → (vectors : ℕ → List Vector) → List DecEntry → List Stretch
decisions_stretches level vectors decisions =
    each_numbered (λ d entry. decision_stretches level (vectors d) entry) 0 decisions

-- the obligations of a level, by what events cover
abbrev pub obligation_stretches : Level → Obligations → List Event → List Stretch
obligation_stretches level obligations events =
    statement_stretches (is_started events) obligations.statements
    ++ (if asks_outcomes level then decisions_stretches level (vectors_of events) obligations.decisions else [])

-- what a region tells of its lines, from that of its On pragma to that of its Off
abbrev pub of_region : (is_exempted : Bool) → Region → Stretch
of_region is_exempted region =
    record {
      file = region.file;
      from = region.from_line;
      to = region.to_line;
      told = if is_exempted then told.Exempted else told.Region;
    }

-- the regions: the findings that stand in one are exempted there, and the later regions are asked for the others alone
abbrev pub region_stretches : List Region → List Finding → List Stretch
region_stretches [] found = []
region_stretches (region ∷ regions) found =
    of_region (list_any (λ f. is_inside f.key.pos region) found) region
    ∷ region_stretches regions (filter (λ f. not (is_inside f.key.pos region)) found)

-- all that is told of lines
abbrev pub all_stretches : Level → Obligations → List Event → List Stretch
all_stretches level obligations events =
    obligation_stretches level obligations events
    ++ region_stretches obligations.regions (findings level obligations events)

-- whether a line is of a region, if there is one
abbrev pub is_of_some : (file line : ℕ) → Option Region → Bool
is_of_some file line None = false
is_of_some file line (Some region) =
    (region.file == file) && (nat_le region.from_line line && nat_le line region.to_line)
