-- What is told of a condition is one, whichever least pair was found.
use Rattle.std.proofs.Common.{◌≡◌, ℕ, Bool, true, false, List, [], ◌∷◌, Option, Some, None, refl, sym, ap, ◌∙◌}
use Rattle.serde_json.specs.Data.{Data, null, string, array, object, no_members, member}
use Rattle.serde_json.specs.View.{items_of}
use Rattle.std.specs.Prelude.{codes}
use Rattle.cov_base.specs.declared.event.Vector.{Vector}
use Rattle.cov_base.specs.declared.level.Level.{Level}
use Rattle.cov_base.specs.declared.obligations.DecEntry.{DecEntry}
use Rattle.cov_base.specs.declared.obligations.Place.{Place}
use Rattle.cov_base.specs.Expr.{Expr, size}
use Rattle.decision_meaning.specs.Pair.{Pair, IsLeastPair}
use Rattle.annotated_report.specs.LeastPair.{kind_of, shown_pair}
use Rattle.annotated_report.proofs.LeastPairs.{least_pair_is, same_shown_texts, option_texts}
use Rattle.json_report.specs.Objects.{counted, told, condition_object, told_decision}

-- a condition with these texts of a pair
abbrev texts_value : Option (List ℕ × List ℕ) → Data
texts_value None = null
texts_value (Some texts) = array (items_of (string texts.0 ∷ string texts.1 ∷ []))

abbrev is_told : Option (List ℕ × List ℕ) → Bool
is_told None = false
is_told (Some texts) = true

abbrev told_object : Place → Option (List ℕ × List ℕ) → Data
told_object place texts =
    object (counted (codes "column") place.column (told (codes "covered") (is_told texts)
    (counted (codes "line") place.line (member (codes "pair") (texts_value texts) no_members))))

told_is : (n : ℕ) (place : Place) (pair : Option Pair) → told_object place (option_texts n pair) ≡ condition_object n place pair
told_is n place None = refl
told_is n place (Some pair) = refl

pub same_object : (n : ℕ) (place : Place) (a b : Option Pair) → option_texts n a ≡ option_texts n b → condition_object n place a ≡ condition_object n place b
same_object n place a b same = sym (told_is n place a) ∙ ap (told_object place) same ∙ told_is n place b

pub object_is : (level : Level) (e : Expr) (vectors : List Vector) (c conditions : ℕ) (place : Place) (answer : Option Pair)
    → IsLeastPair (size e) (kind_of level e c) vectors answer → conditions ≡ size e
    → condition_object conditions place answer ≡ condition_object (size e) place (shown_pair level e vectors c)
object_is level e vectors c conditions place answer least count =
    ap (λ n. condition_object n place answer) count
    ∙ same_object (size e) place answer (shown_pair level e vectors c)
    (same_shown_texts (size e) (kind_of level e c) vectors answer (shown_pair level e vectors c) least (least_pair_is (size e) (kind_of level e c) vectors))

-- a decision with the same outcomes, conditions and vectors is told alike
pub same_told : (entry : DecEntry) (never not_given once given : Bool) (conditions places vectors texts : List Data)
    → never ≡ not_given → once ≡ given → conditions ≡ places → vectors ≡ texts
    → told_decision entry never once conditions vectors ≡ told_decision entry not_given given places texts
same_told entry never not_given once given conditions places vectors texts a b c d =
    ap (λ x. told_decision entry x once conditions vectors) a ∙ ap (λ x. told_decision entry not_given x conditions vectors) b
    ∙ ap (λ x. told_decision entry not_given given x vectors) c ∙ ap (λ x. told_decision entry not_given given places x) d
