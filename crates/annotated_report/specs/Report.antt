-- The text of a report.
use Rattle.std.specs.Prelude.{ℕ, List, [], ◌++◌, length, codes, not, if◌then◌else◌}
use Rattle.std.specs.Fmt.{decimal}
use Rattle.std.specs.List.{filter, flat_map}
use Rattle.cov_base.specs.declared.event.Event.{Event}
use Rattle.cov_base.specs.declared.level.Level.{Level}
use Rattle.cov_base.specs.declared.obligations.Obligations.{Obligations}
use Rattle.cov_base.specs.declared.obligations.Region.{Region}
use Rattle.exemptions.specs.Regions.{is_exempt}
use Rattle.annotated_report.specs.declared.finding.Finding.{Finding}
use Rattle.annotated_report.specs.declared.finding.PairLine.{PairLine}
use Rattle.annotated_report.specs.Findings.{asks_outcomes, asks_pairs, findings, started_count, covered_count}
use Rattle.annotated_report.specs.Lines.{violation_line, exempted_line, shown_line}
use Rattle.annotated_report.specs.Shown.{pair_lines, condition_count}
use Rattle.annotated_report.specs.Verdicts.{is_started, vectors_of}
use Rattle.annotated_report.specs.Words.{level_word}

-- the first lines
abbrev pub head_text : Level → ℕ → List ℕ
head_text level traces =
    codes "gnatcov report\nlevel: " ++ (level_word level ++ (codes "\ntraces: " ++ (decimal traces ++ codes "\n")))

-- a title, how many lines there are, and the lines
abbrev pub section_text : {X : Type 0} → (title : List ℕ) → (X → List ℕ) → List X → List ℕ
section_text title line items = (title ++ (decimal (length items) ++ codes "\n")) ++ flat_map line items

-- the findings that no region holds, and those that one does
abbrev pub violations_text : (names : List (List ℕ)) → List Region → List Finding → List ℕ
violations_text names regions found =
    section_text (codes "violations: ") (violation_line names) (filter (λ f. not (is_exempt regions f.key.pos)) found)
    ++ section_text (codes "exempted: ") (exempted_line names regions) (filter (λ f. is_exempt regions f.key.pos) found)

-- how many obligations of a kind are covered, of all
abbrev pub total_text : (title : List ℕ) → (covered all : ℕ) → List ℕ
total_text title covered all = title ++ (decimal covered ++ (codes " of " ++ (decimal all ++ codes "\n")))

-- the totals of conditions, and the pairs
abbrev pub pairs_text : (names : List (List ℕ)) → (conditions : ℕ) → List PairLine → List ℕ
pairs_text names conditions lines =
    total_text (codes "conditions: ") (length lines) conditions ++ section_text (codes "pairs: ") (shown_line names) lines

-- the totals of a level over all obligations, exempt or not, and the pairs: so many statements and decisions are covered, and these pairs shown
abbrev pub judged_totals : Level → Obligations → (names : List (List ℕ)) → (statements decisions : ℕ) → List PairLine → List ℕ
judged_totals level obligations names statements decisions pairs =
    total_text (codes "statements: ") statements (length obligations.statements)
    ++ ((if asks_outcomes level then total_text (codes "decisions: ") decisions (length obligations.decisions) else [])
    ++ (if asks_pairs level then pairs_text names (condition_count obligations.decisions) pairs else []))

-- those that events give
abbrev pub totals_text : Level → Obligations → List Event → (names : List (List ℕ)) → List ℕ
totals_text level obligations events names =
    judged_totals level obligations names (started_count (is_started events) obligations.statements)
    (covered_count (vectors_of events) obligations.decisions) (pair_lines level obligations.decisions events)

-- the report at a level on obligations, of so many traces with these events, over files of these names
abbrev pub report_text : Level → Obligations → (traces : ℕ) → List Event → (names : List (List ℕ)) → List ℕ
report_text level obligations traces events names =
    head_text level traces
    ++ (violations_text names obligations.regions (findings level obligations events)
    ++ totals_text level obligations events names)
