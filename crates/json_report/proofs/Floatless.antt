-- A report has no number with a fraction.
use Rattle.std.proofs.Common.{◌≡◌, ℕ, ◌+◌, List, [], ◌∷◌, map, Bool, true, false, Option, Some, None, refl, if◌then◌else◌}
use Rattle.serde_json.specs.Data.{Data, string}
use Rattle.serde_json.specs.View.{items_of}
use Rattle.serde_json.specs.Written.{has_float, items_have_float}
use Rattle.cov_base.specs.declared.event.Event.{Event}
use Rattle.cov_base.specs.declared.event.Vector.{Vector}
use Rattle.cov_base.specs.declared.level.Level.{Level}
use Rattle.cov_base.specs.declared.obligations.DecEntry.{DecEntry}
use Rattle.cov_base.specs.declared.obligations.Obligations.{Obligations}
use Rattle.cov_base.specs.declared.obligations.Place.{Place}
use Rattle.cov_base.specs.declared.obligations.Region.{Region}
use Rattle.cov_base.specs.declared.obligations.StmtEntry.{StmtEntry}
use Rattle.cov_base.specs.Expr.{Expr, size}
use Rattle.decision_meaning.specs.Pair.{Pair}
use Rattle.annotated_report.specs.declared.finding.Finding.{Finding}
use Rattle.annotated_report.specs.Findings.{asks_outcomes, asks_pairs, expr_of, findings}
use Rattle.annotated_report.specs.LeastPair.{shown_pair}
use Rattle.annotated_report.specs.Numbered.{each_numbered}
use Rattle.annotated_report.specs.Shown.{vector_text}
use Rattle.annotated_report.specs.Verdicts.{is_started, vectors_of}
use Rattle.json_report.specs.Distinct.{distinct}
use Rattle.json_report.specs.Objects.{statement_object, region_objects, not_held_by, pair_value, condition_object, condition_objects, asked_conditions, decision_object, decision_objects, asked_decisions}
use Rattle.json_report.specs.Text.{json_object}

-- no item of a list has one
abbrev AreFree : List Data → Type 0
AreFree items = items_have_float (items_of items) ≡ false

strings_free : {X : Type 0} (text : X → List ℕ) (xs : List X) → AreFree (map (λ x. string (text x)) xs)
strings_free text [] = refl
strings_free text (x ∷ xs) = strings_free text xs

numbered_free : {X : Type 0} (f : ℕ → X → Data) → ((n : ℕ) (x : X) → has_float (f n x) ≡ false) → (n : ℕ) (xs : List X)
    → AreFree (each_numbered (λ n x. f n x ∷ []) n xs)
numbered_free f each n [] = refl
numbered_free f each n (x ∷ xs) = rw (each n x) (numbered_free f each (n + 1) xs)

asked_free : (asked : Bool) (items : List Data) → AreFree items → AreFree (if asked then items else [])
asked_free true items free = free
asked_free false items free = refl

regions_free : (found : List Finding) (regions : List Region) → AreFree (region_objects found regions)
regions_free found [] = refl
regions_free found (region ∷ regions) = regions_free (not_held_by region found) regions

pair_free : (conditions : ℕ) (pair : Option Pair) → has_float (pair_value conditions pair) ≡ false
pair_free conditions None = refl
pair_free conditions (Some pair) = refl

condition_free : (conditions : ℕ) (place : Place) (pair : Option Pair) → has_float (condition_object conditions place pair) ≡ false
condition_free conditions place pair = rw (pair_free conditions pair) refl

conditions_free : (level : Level) (e : Expr) (vectors : List Vector) (places : List Place) → AreFree (asked_conditions level e vectors places)
conditions_free level e vectors places =
    asked_free (asks_pairs level) (condition_objects level e vectors places)
    (numbered_free (λ c place. condition_object (size e) place (shown_pair level e vectors c))
    (λ c place. condition_free (size e) place (shown_pair level e vectors c)) 0 places)

decision_free : (level : Level) (vectors : List Vector) (entry : DecEntry) → has_float (decision_object level vectors entry) ≡ false
decision_free level vectors entry =
    rw (
      conditions_free level (expr_of entry) vectors entry.conditions,
      strings_free (vector_text (size (expr_of entry))) (distinct (size (expr_of entry)) vectors),
    ) refl

decisions_free : (level : Level) (vectors : ℕ → List Vector) (entries : List DecEntry) → AreFree (asked_decisions level vectors entries)
decisions_free level vectors entries =
    asked_free (asks_outcomes level) (decision_objects level vectors entries)
    (numbered_free (λ d entry. decision_object level (vectors d) entry) (λ d entry. decision_free level (vectors d) entry) 0 entries)

statements_free : (started : ℕ → Bool) (entries : List StmtEntry) → AreFree (each_numbered (λ n entry. statement_object (started n) entry ∷ []) 0 entries)
statements_free started entries = numbered_free (λ n entry. statement_object (started n) entry) (λ n entry. refl) 0 entries

pub report_free : (level : Level) (obligations : Obligations) (traces : ℕ) (events : List Event) (names : List (List ℕ))
    → has_float (json_object level obligations traces events names) ≡ false
report_free level obligations traces events names =
    rw (
      decisions_free level (vectors_of events) obligations.decisions,
      strings_free (λ (name : List ℕ). name) names,
      regions_free (findings level obligations events) obligations.regions,
      statements_free (is_started events) obligations.statements,
    ) refl
