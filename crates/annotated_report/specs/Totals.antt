-- The totals of a report by themselves.
use Rattle.std.specs.Prelude.{ℕ, List, [], ◌++◌, length, codes, if◌then◌else◌}
use Rattle.cov_base.specs.declared.event.Event.{Event}
use Rattle.cov_base.specs.declared.level.Level.{Level}
use Rattle.cov_base.specs.declared.obligations.Obligations.{Obligations}
use Rattle.annotated_report.specs.Findings.{asks_outcomes, asks_pairs, started_count, covered_count}
use Rattle.annotated_report.specs.Report.{total_text}
use Rattle.annotated_report.specs.Shown.{pair_lines, condition_count}
use Rattle.annotated_report.specs.Verdicts.{is_started, vectors_of}

-- the totals of conditions, where a level asks for them
abbrev pub conditions_total : Level → (shown all : ℕ) → List ℕ
conditions_total level shown all = if asks_pairs level then total_text (codes "conditions: ") shown all else []

-- the totals of a level over all obligations: so many statements, decisions and conditions are covered
abbrev pub counted_totals : Level → Obligations → (statements decisions conditions : ℕ) → List ℕ
counted_totals level obligations statements decisions conditions =
    total_text (codes "statements: ") statements (length obligations.statements)
    ++ ((if asks_outcomes level then total_text (codes "decisions: ") decisions (length obligations.decisions) else [])
    ++ conditions_total level conditions (condition_count obligations.decisions))

-- those that events give: the counts are those of the report
abbrev pub totals_alone : Level → Obligations → List Event → List ℕ
totals_alone level obligations events =
    counted_totals level obligations (started_count (is_started events) obligations.statements)
    (covered_count (vectors_of events) obligations.decisions) (length (pair_lines level obligations.decisions events))
