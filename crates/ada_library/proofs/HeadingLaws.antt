-- The headings of units, one after the other.
use Rattle.std.proofs.Common.{◌≡◌, ℕ, ◌+◌, Bool, true, false, ◌||◌, List, ◌∷◌, codes, Option, Some, None, if◌then◌else◌, Result, Ok, Err, IfOk, refl, sym, ap, ◌∙◌, subst}
use Rattle.cov_base.specs.declared.position.Pos.{Pos}
use Rattle.cov_base.specs.declared.failure.Failure.{Failure}
use Rattle.ada_syntax.specs.declared.name.Identifier.{Identifier}
use Rattle.ada_syntax.specs.declared.unit.LibraryItem.{LibraryItem}
use Rattle.ada_syntax.specs.declared.unit.Unit.{Unit as LibraryUnit}
use Rattle.ada_rules.specs.Plan.{Judgement, Plan, ◌>>=◌, rule, ruled, outcome_after, answer_at}
use Rattle.ada_rules.specs.Entities.{key, same_name}
use Rattle.ada_rules.specs.Denoted.{nowhere}
use Rattle.ada_rules.specs.Library.{Library, unit_named, clause_names, is_test_io, may_name, all_named_in_with, is_declared_well, heading}
use Rattle.ada_rules.specs.Units.{all_headings}
use Rattle.ada_entities.specs.declared.fault.Refusal.{Refusal}
use Rattle.ada_entities.specs.Answers.{Refuses, refused_at, no_memory}
use Rattle.ada_library.specs.declared.library.Library.{Library as CodeLibrary}
use Rattle.ada_library.specs.LibraryView.{IsNamed}
use Rattle.ada_library.specs.Headings.{MayName, IsKnown}

-- the whole is refused where its part is
in_part : {A B : Type 0} (p : Pos) (part : Result A Pos) (k : A → Plan B) (f : Failure Refusal) → Refuses part f
    → Refuses (answer_at p (outcome_after part k)) f
in_part p part k f (refused_at h) = refused_at (ap (λ r. answer_at p (outcome_after r k)) h)
in_part p part k f no_memory = no_memory

pub refused_as : {A : Type 0} (r s : Result A Pos) (f : Failure Refusal) → r ≡ s → Refuses s f → Refuses r f
refused_as r s f e h = subst (λ x. Refuses x f) (sym e) h

abbrev well : Bool → Option (Unit {0})
well b = if b then Some tt else None

abbrev and_rest : Judgement Unit → Unit {0} → Plan Unit
and_rest j x = j >>= (λ xs. rule (Some tt))

rest_alone : (p : Pos) (r : Result Unit Pos) → answer_at p (outcome_after r (λ x. rule (well true))) ≡ r
rest_alone p (Ok x) = refl
rest_alone p (Err q) = refl

-- a name in a `with` clause
module _ (l : Library) (n : ℕ) (u : LibraryUnit) (i : Identifier) (is : List Identifier) where
  abbrev pub is_known : Bool
  is_known = is_test_io i || may_name l n u.item (unit_named l.names (key i))

  first_is : (b : Bool) → is_known ≡ b → (all_named_in_with l n u (i ∷ is)).answer
      ≡ answer_at u.pos (outcome_after (answer_at i.pos (ruled (well b))) (and_rest (all_named_in_with l n u is)))
  first_is b h =
      ap (λ c. answer_at u.pos (outcome_after (answer_at i.pos (ruled (well c))) (and_rest (all_named_in_with l n u is)))) h

  pub name_refused : is_known ≡ false → (all_named_in_with l n u (i ∷ is)).answer ≡ Err i.pos
  name_refused h = first_is false h

-- a heading
module _ (l : Library) (n : ℕ) (u : LibraryUnit) where
  abbrev names : Result Unit Pos
  names = (all_named_in_with l n u (clause_names u.withs)).answer

  heading_is : (b : Bool) → names ≡ Ok tt → is_declared_well l n u.item ≡ b → (heading l n u).answer ≡ answer_at u.pos (ruled (well b))
  heading_is b g h =
      ap (λ r. answer_at u.pos (outcome_after r (λ x. rule (well (is_declared_well l n u.item))))) g
      ∙ ap (λ c. answer_at u.pos (ruled (well c))) h

  pub heading_passes : names ≡ Ok tt → is_declared_well l n u.item ≡ true → (heading l n u).answer ≡ Ok tt
  heading_passes g h = heading_is true g h

  pub heading_refused : names ≡ Ok tt → is_declared_well l n u.item ≡ false → (heading l n u).answer ≡ Err u.pos
  heading_refused g h = heading_is false g h

  pub names_refused : (f : Failure Refusal) → Refuses names f → Refuses (heading l n u).answer f
  names_refused f r = in_part u.pos names (λ x. rule (well (is_declared_well l n u.item))) f r

  -- and those behind it
  pub unit_refused : (us : List LibraryUnit) (f : Failure Refusal) → Refuses (heading l n u).answer f → Refuses (all_headings l n (u ∷ us)).answer f
  unit_refused us f r = in_part nowhere (heading l n u).answer (and_rest (all_headings l (n + 1) us)) f r

-- a name that is not that of Test_IO
pub known_otherwise : {E : Type 0} (x : CodeLibrary) (n : ℕ) (item : LibraryItem) (i : Identifier) (lower : List ℕ) (o : Option ℕ) (r : Result Bool E)
    → lower ≡ key i → same_name lower (codes "test_io") ≡ false → IsNamed x lower o → IfOk r (MayName x n item o) → IfOk r (IsKnown x n item i)
known_otherwise x n item i lower o (Err f) e t named may = tt
known_otherwise x n item i lower o (Ok b) e t named may =
    λ all l is.
    let other : false ≡ same_name (key i) (codes "test_io") = sym t ∙ ap (λ k. same_name k (codes "test_io")) e in
    let found : o ≡ unit_named l.names (key i) = named all l is ∙ ap (unit_named l.names) e in
    may all l is ∙ (λ z. other z || may_name l n item (found z))
