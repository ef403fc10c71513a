-- Names at the end of a region, and the types that a region shows by their marks.
use Rattle.std.proofs.Common.{◌≡◌, ℕ, Bool, true, false, if◌then◌else◌, List, [], ◌∷◌, ◌++◌, Some, None, IfOk, Ok, sym, ap, ◌∙◌, refl}
use Rattle.std.specs.Prelude.{is_none}
use Rattle.cov_base.specs.Lists.{Everywhere}
use Rattle.ada_syntax.specs.declared.name.Identifier.{Identifier}
use Rattle.ada_meaning.specs.Types.{Range}
use Rattle.ada_rules.specs.Plan.{rule}
use Rattle.ada_rules.specs.Types.{Identity, AdaType, AdaSubtype, of_type, type_in}
use Rattle.ada_rules.specs.Entities.{key, same_name, Entity, hidden, mark, Region, entity_of, is_new, redefined}
use Rattle.ada_rules.specs.Environment.{with_name, hide}
use Rattle.legal_laws.proofs.Passing.{if_test, answered, ruled_so, every_so}
use Rattle.legal_programs.proofs.KeptNames.{Has}
use Rattle.legal_programs.proofs.MainUnit.{name_same}
use Rattle.legal_programs.proofs.Passed.{passed_rule, passed_test}

pub redefined_there : (name : List ℕ) (x y : Entity) (region : Region) → entity_of name region ≡ Some x → entity_of name (redefined name y region) ≡ Some y
redefined_there name x y [] h = absurd (none_is_some h)
  where
    none_is_some : None ≡ Some x → ⊥
    none_is_some e = cc
redefined_there name x y (e ∷ es) h = by_name (same_name name e.0) refl h (redefined_there name x y es)
  where
    by_name : (b : Bool) → same_name name e.0 ≡ b → (if b then Some e.1 else entity_of name es) ≡ Some x → (entity_of name es ≡ Some x → entity_of name (redefined name y es) ≡ Some y)
        → entity_of name (if b then (e.0, y) ∷ es else e ∷ redefined name y es) ≡ Some y
    by_name true f g rest = ap (λ c. if c then Some y else entity_of name es) f
    by_name false f g rest = ap (λ c. if c then Some e.1 else entity_of name (redefined name y es)) f ∙ rest g

pub at_end : (name : List ℕ) (x : Entity) (region : Region) → is_none (entity_of name region) ≡ true → entity_of name (region ++ (name, x) ∷ []) ≡ Some x
at_end name x [] h = ap (λ b. if b then Some x else None) (name_same name)
at_end name x (e ∷ es) h = by_name (same_name name e.0) h (at_end name x es)
  where
    by_name : (b : Bool) → is_none (if b then Some e.1 else entity_of name es) ≡ true → (is_none (entity_of name es) ≡ true → entity_of name (es ++ (name, x) ∷ []) ≡ Some x)
        → (if b then Some e.1 else entity_of name (es ++ (name, x) ∷ [])) ≡ Some x
    by_name true g rest = absurd (cc g)
    by_name false g rest = rest g

pub hidden_there : (region : Region) (i : Identifier) (after : Region) → (hide region i).answer ≡ Ok after → entity_of (key i) after ≡ Some hidden
hidden_there region i after h =
    let test = passed_test (is_new region i) (region ++ (key i, hidden) ∷ []) after (passed_rule i.pos (with_name region i hidden) after h) in
    ap (entity_of (key i)) (sym test.1) ∙ at_end (key i) hidden region test.0

-- a name that is hidden is there
pub hides_there : (region : Region) (i : Identifier) → IfOk (hide region i).answer (Has (key i) hidden)
hides_there region i =
    answered (Has (key i) hidden) i.pos (rule (with_name region i hidden)).outcome
    (ruled_so (Has (key i) hidden) (with_name region i hidden)
    (if_test (Has (key i) hidden) (is_new region i) (Some (region ++ (key i, hidden) ∷ [])) (λ e. at_end (key i) hidden region e)))

-- a type that some name of a region is a mark of, with a range
pub record IsShownIn (u : AdaType) (region : Region) : Type 0 where
  pub name : List ℕ
  pub identity : Identity
  pub range : Range
  pub has : Has name (mark identity (of_type u range)) region

pub shown_as : (t : AdaSubtype) (name : List ℕ) (i : Identity) (region : Region) → Has name (mark i t) region → IsShownIn (type_in t) region
shown_as (of_type u r) name i region h = record { name = name; identity = i; range = r; has = h }

-- what keeps names shows types still
pub shown_still : (r s : Region) → ((m : List ℕ) (kept : Entity) → Has m kept r → Has m kept s) → (u : AdaType) → IsShownIn u r → IsShownIn u s
shown_still r s keeps u h = record {
  name = h.name;
  identity = h.identity;
  range = h.range;
  has = keeps h.name (mark h.identity (of_type u h.range)) h.has;
}

pub all_shown_still : (r s : Region) → ((m : List ℕ) (kept : Entity) → Has m kept r → Has m kept s) → (us : List AdaType)
    → Everywhere (λ u. IsShownIn u r) us → Everywhere (λ u. IsShownIn u s) us
all_shown_still r s keeps us all = every_so (λ u. IsShownIn u r) (λ u. IsShownIn u s) us (shown_still r s keeps) all
