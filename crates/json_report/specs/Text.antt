-- The report as JSON.
use Rattle.std.specs.Prelude.{ℕ, List, ◌++◌, map, codes}
use Rattle.serde_json.specs.Data.{Data, string, object, no_members, member}
use Rattle.serde_json.specs.Written.{compact_text}
use Rattle.cov_base.specs.declared.event.Event.{Event}
use Rattle.cov_base.specs.declared.level.Level.{Level}
use Rattle.cov_base.specs.declared.obligations.Obligations.{Obligations}
use Rattle.annotated_report.specs.Findings.{findings}
use Rattle.annotated_report.specs.Verdicts.{is_started, vectors_of}
use Rattle.annotated_report.specs.Words.{level_word}
use Rattle.json_report.specs.Objects.{counted, listed, asked_decisions, region_objects, statement_objects}

-- a report with these decisions, regions and statements
abbrev pub told_report : Level → (traces : ℕ) → (names : List (List ℕ))
    → (decisions regions statements : List Data) → Data
told_report level traces names decisions regions statements =
    object (listed (codes "decisions") decisions (listed (codes "files") (map string names)
    (member (codes "level") (string (level_word level)) (listed (codes "regions") regions
    (listed (codes "statements") statements (counted (codes "traces") traces no_members))))))

-- the report at a level on obligations, of so many traces with these events, over files of these names
abbrev pub json_object : Level → Obligations → (traces : ℕ) → List Event → (names : List (List ℕ)) → Data
json_object level obligations traces events names =
    told_report level traces names (asked_decisions level (vectors_of events) obligations.decisions)
    (region_objects (findings level obligations events) obligations.regions)
    (statement_objects (is_started events) obligations.statements)

-- an object as one line with no space in it
abbrev pub text_of : Data → List ℕ
text_of told = compact_text told ++ codes "\n"

abbrev pub json_text : Level → Obligations → (traces : ℕ) → List Event → (names : List (List ℕ)) → List ℕ
json_text level obligations traces events names = text_of (json_object level obligations traces events names)
