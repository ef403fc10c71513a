-- What is known of the objects of the library level that were declared, and of the subprograms that were made: those that stand in an instance have types with bounds and initial
-- values there, and are well-formed there.
use Rattle.std.proofs.Common.{◌≡◌, ℕ, zero, suc, nat_eq, Bool, true, false, List, [], ◌∷◌, ◌++◌, Option, Some, None, option_map, slice_get, refl, sym, ap, ◌∙◌, subst, arith, inl, inr}
use Rattle.std.specs.Prelude.{◌⊎◌, unwrap_or}
use Rattle.std.proofs.lemmas.Bool.{eqb-true, eq-eqb, false≢true}
use Rattle.cov_base.specs.Lists.{Everywhere}
use Rattle.ada_meaning.specs.Bodies.{StandsIn}
use Rattle.ada_meaning.specs.Program.{LibraryObject, Subprogram, Program}
use Rattle.ada_meaning.specs.Resolved.{shape_in}
use Rattle.ada_meaning.specs.WellFormed.{IsType, IsInitial}
use Rattle.legal_laws.specs.Bounded.{IsBounded}
use Rattle.legal_laws.specs.LibraryLevel.{AreFormed}
use Rattle.legal_laws.specs.Served.{IsFormed}

-- those of a generic's text, or of what stands in none
module _ (p : Program) (inst : ℕ) (generic : Option ℕ) where
  abbrev pub IsBoundedObject : LibraryObject → Type 0
  IsBoundedObject x = x.generic ≡ generic → IsBounded p inst x.subtype

  abbrev pub AreKnownObjects : List LibraryObject → Type 0
  AreKnownObjects os = AreFormed p inst generic os × Everywhere IsBoundedObject os

-- those that stand in an instance
module _ (p : Program) (inst : ℕ) where
  abbrev pub IsObjectAt : LibraryObject → Type 0
  IsObjectAt x = StandsIn p x.generic inst → (IsType (shape_in p inst x.subtype) × IsInitial p inst x.initial) × IsBounded p inst x.subtype

  abbrev pub ObjectsAt : List LibraryObject → Type 0
  ObjectsAt os = Everywhere IsObjectAt os

  abbrev pub IsFormedAt : Subprogram → Type 0
  IsFormedAt sub = StandsIn p sub.generic inst → IsFormed p inst sub

  abbrev pub FormedAt : List Subprogram → Type 0
  FormedAt ss = Everywhere IsFormedAt ss

-- an instance has one text
not_zero : (i : ℕ) → suc i ≡ 0 → ⊥
not_zero i h = omega (arith, h)

pub one_text : (p : Program) (a b : Option ℕ) (inst : ℕ) → StandsIn p a inst → StandsIn p b inst → a ≡ b
one_text p None None inst h k = refl
one_text p None (Some g) zero h k = absurd k
one_text p None (Some g) (suc i) h k = absurd (not_zero i h)
one_text p (Some f) None zero h k = absurd h
one_text p (Some f) None (suc i) h k = absurd (not_zero i k)
one_text p (Some f) (Some g) zero h k = absurd h
one_text p (Some f) (Some g) (suc i) h k = sym h ∙ k

-- and a text stands in an instance, or it does not
pub stands_either : (p : Program) (g : Option ℕ) (inst : ℕ) → StandsIn p g inst ⊎ (StandsIn p g inst → ⊥)
stands_either p None zero = inl refl
stands_either p None (suc i) = inr (not_zero i)
stands_either p (Some g) zero = inr (λ h. h)
stands_either p (Some g) (suc i) = of_generic (option_map (λ x. x.generic) (slice_get p.instances i))
  where
    none_is_some : None ≡ Some g → ⊥
    none_is_some e = cc

    by_number : (n : ℕ) (b : Bool) → nat_eq n g ≡ b → (Some n ≡ Some g) ⊎ (Some n ≡ Some g → ⊥)
    by_number n true e = inl (ap Some (eqb-true n g e))
    by_number n false e = inr (λ h. false≢true (sym e ∙ eq-eqb n g (ap (λ o. unwrap_or o 0) h)))

    of_generic : (o : Option ℕ) → (o ≡ Some g) ⊎ (o ≡ Some g → ⊥)
    of_generic None = inr none_is_some
    of_generic (Some n) = by_number n (nat_eq n g) refl

-- so what stands in an instance of this text is of this text
module _ (p : Program) (inst : ℕ) (generic : Option ℕ) (standing : StandsIn p generic inst) where
  stands_so : (g : Option ℕ) → g ≡ generic → StandsIn p g inst
  stands_so g same = subst (λ f. StandsIn p f inst) (sym same) standing

  of_text : (g : Option ℕ) → StandsIn p g inst → g ≡ generic
  of_text g there = one_text p g generic inst there standing

  pub text_known : (os : List LibraryObject) → ObjectsAt p inst os → AreKnownObjects p inst generic os
  text_known [] h = (tt, tt)
  text_known (x ∷ os) h =
      let rest = text_known os h.1 in
      (((λ same. (h.0 (stands_so x.generic same)).0), rest.0), ((λ same. (h.0 (stands_so x.generic same)).1), rest.1))

  pub objects_at : (os : List LibraryObject) → AreKnownObjects p inst generic os → ObjectsAt p inst os
  objects_at [] h = tt
  objects_at (x ∷ os) h = ((λ there. (h.0.0 (of_text x.generic there), h.1.0 (of_text x.generic there))), objects_at os (h.0.1, h.1.1))

-- and what another text adds does not stand there
module _ (p : Program) (inst : ℕ) (generic : Option ℕ) (elsewhere : StandsIn p generic inst → ⊥) where
  pub objects_apart : (more os : List LibraryObject) → Everywhere (λ x. x.generic ≡ generic) more → ObjectsAt p inst os → ObjectsAt p inst (more ++ os)
  objects_apart [] os all h = h
  objects_apart (x ∷ more) os all h =
      ((λ there. absurd (elsewhere (subst (λ f. StandsIn p f inst) all.0 there))), objects_apart more os all.1 h)

  pub subprograms_apart : (more ss : List Subprogram) → Everywhere (λ sub. sub.generic ≡ generic) more → FormedAt p inst ss → FormedAt p inst (more ++ ss)
  subprograms_apart [] ss all h = h
  subprograms_apart (sub ∷ more) ss all h =
      ((λ there. absurd (elsewhere (subst (λ f. StandsIn p f inst) all.0 there))), subprograms_apart more ss all.1 h)

-- so what a text adds is known in each instance, if it is in those in which the text stands
module _ (p : Program) (generic : Option ℕ) where
  pub objects_each : (more os : List LibraryObject) → Everywhere (λ x. x.generic ≡ generic) more → ((i : ℕ) → ObjectsAt p i os)
      → ((i : ℕ) → StandsIn p generic i → ObjectsAt p i (more ++ os)) → (i : ℕ) → ObjectsAt p i (more ++ os)
  objects_each more os all before there i = of_either (stands_either p generic i)
    where
      of_either : StandsIn p generic i ⊎ (StandsIn p generic i → ⊥) → ObjectsAt p i (more ++ os)
      of_either (inl stands) = there i stands
      of_either (inr elsewhere) = objects_apart p i generic elsewhere more os all (before i)

  pub subprograms_each : (more ss : List Subprogram) → Everywhere (λ sub. sub.generic ≡ generic) more → ((i : ℕ) → FormedAt p i ss)
      → ((i : ℕ) → StandsIn p generic i → FormedAt p i (more ++ ss)) → (i : ℕ) → FormedAt p i (more ++ ss)
  subprograms_each more ss all before there i = of_either (stands_either p generic i)
    where
      of_either : StandsIn p generic i ⊎ (StandsIn p generic i → ⊥) → FormedAt p i (more ++ ss)
      of_either (inl stands) = there i stands
      of_either (inr elsewhere) = subprograms_apart p i generic elsewhere more ss all (before i)
