-- What is told of each obligation and region, as objects whose keys are in the order of their bytes.
use Rattle.std.specs.Prelude.{ℕ, List, [], ◌∷◌, map, length, codes, not, Bool, true, false, is_some, Option, Some, None, if◌then◌else◌, encode_utf8}
use Rattle.std.specs.List.{filter}
use Rattle.serde_json.specs.Data.{Data, null, boolean, number, string, array, object, unsigned, Members, no_members, member}
use Rattle.serde_json.specs.View.{items_of}
use Rattle.cov_base.specs.declared.event.Vector.{Vector}
use Rattle.cov_base.specs.declared.level.Level.{Level}
use Rattle.cov_base.specs.declared.obligations.DecEntry.{DecEntry}
use Rattle.cov_base.specs.declared.obligations.Place.{Place}
use Rattle.cov_base.specs.declared.obligations.Region.{Region}
use Rattle.cov_base.specs.declared.obligations.StmtEntry.{StmtEntry}
use Rattle.cov_base.specs.Expr.{Expr, size}
use Rattle.decision_meaning.specs.Pair.{Pair}
use Rattle.exemptions.specs.Regions.{is_exempt}
use Rattle.annotated_report.specs.declared.finding.Finding.{Finding}
use Rattle.annotated_report.specs.Findings.{asks_outcomes, asks_pairs, expr_of}
use Rattle.annotated_report.specs.LeastPair.{shown_pair}
use Rattle.annotated_report.specs.Numbered.{each_numbered}
use Rattle.annotated_report.specs.Shown.{vector_text}
use Rattle.annotated_report.specs.Verdicts.{gives}
use Rattle.json_report.specs.Distinct.{distinct}

-- a member that is a number
abbrev pub counted : (key : List ℕ) → ℕ → Members → Members
counted key n others = member key (number (unsigned n)) others

-- a member that is a truth value
abbrev pub told : (key : List ℕ) → Bool → Members → Members
told key b others = member key (boolean b) others

-- a member that is a list
abbrev pub listed : (key : List ℕ) → List Data → Members → Members
listed key items others = member key (array (items_of items)) others

-- ---- statements

abbrev pub statement_object : (covered : Bool) → StmtEntry → Data
statement_object covered entry =
    object (counted (codes "column") entry.column (told (codes "covered") covered
    (counted (codes "file") entry.file (counted (codes "line") entry.line no_members))))

abbrev pub statement_objects : (started : ℕ → Bool) → List StmtEntry → List Data
statement_objects started entries = each_numbered (λ n entry. statement_object (started n) entry ∷ []) 0 entries

-- ---- regions

abbrev pub region_object : (violations : ℕ) → Region → Data
region_object violations region =
    object (counted (codes "file") region.file (counted (codes "from") region.from_line
    (counted (codes "to") region.to_line (counted (codes "violations") violations
    (member (codes "why") (string region.why) no_members)))))

-- the findings that a region holds, and those that it doesn't hold
abbrev pub held_by : Region → List Finding → List Finding
held_by region found = filter (λ f. is_exempt (region ∷ []) f.key.pos) found

abbrev pub not_held_by : Region → List Finding → List Finding
not_held_by region found = filter (λ f. not (is_exempt (region ∷ []) f.key.pos)) found

-- each region counts the findings that it holds and none of the regions before it
abbrev pub region_objects : List Finding → List Region → List Data
region_objects found [] = []
region_objects found (region ∷ regions) =
    region_object (length (held_by region found)) region ∷ region_objects (not_held_by region found) regions

-- ---- conditions

-- the texts of the two vectors, or null where no pair is shown
abbrev pub pair_value : (conditions : ℕ) → Option Pair → Data
pair_value conditions None = null
pair_value conditions (Some pair) =
    array (items_of (string (vector_text conditions pair.first) ∷ string (vector_text conditions pair.second) ∷ []))

abbrev pub condition_object : (conditions : ℕ) → Place → Option Pair → Data
condition_object conditions place pair =
    object (counted (codes "column") place.column (told (codes "covered") (is_some pair)
    (counted (codes "line") place.line (member (codes "pair") (pair_value conditions pair) no_members))))

abbrev pub condition_objects : Level → Expr → List Vector → List Place → List Data
condition_objects level e vectors places =
    each_numbered (λ c place. condition_object (size e) place (shown_pair level e vectors c) ∷ []) 0 places

-- those that a level asks for
abbrev pub asked_conditions : Level → Expr → List Vector → List Place → List Data
asked_conditions level e vectors places = if asks_pairs level then condition_objects level e vectors places else []

-- ---- decisions

-- the texts of the vectors that differ, in their order
abbrev pub vector_values : (conditions : ℕ) → List Vector → List Data
vector_values conditions vectors = map (λ v. string (vector_text conditions v)) (distinct conditions vectors)

-- a decision with these outcomes, conditions and vectors
abbrev pub told_decision : DecEntry → (given_false given_true : Bool) → (conditions vectors : List Data) → Data
told_decision entry given_false given_true conditions vectors =
    object (counted (codes "column") entry.column (listed (codes "conditions") conditions
    (told (codes "false") given_false (counted (codes "file") entry.file
    (member (codes "letter") (string (encode_utf8 entry.letter.0)) (counted (codes "line") entry.line
    (told (codes "true") given_true (listed (codes "vectors") vectors no_members))))))))

abbrev pub decision_object : Level → List Vector → DecEntry → Data
decision_object level vectors entry =
    told_decision entry (gives (expr_of entry) false vectors) (gives (expr_of entry) true vectors)
    (asked_conditions level (expr_of entry) vectors entry.conditions) (vector_values (size (expr_of entry)) vectors)

abbrev pub decision_objects : Level → (vectors : ℕ → List Vector) → List DecEntry → List Data
decision_objects level vectors entries =
    each_numbered (λ d entry. decision_object level (vectors d) entry ∷ []) 0 entries

-- those that a level asks for
abbrev pub asked_decisions : Level → (vectors : ℕ → List Vector) → List DecEntry → List Data
asked_decisions level vectors entries = if asks_outcomes level then decision_objects level vectors entries else []
