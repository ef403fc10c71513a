-- The objects of the library level of a legal program are seen, in each instance in which they stand, with the shapes of their subtypes.
use Rattle.std.proofs.Common.{◌≡◌, ℕ, nat_eq, Bool, true, false, if◌then◌else◌, List, [], ◌∷◌, ◌++◌, map, reverse, Option, refl, sym, ap, ◌∙◌, subst, inl, inr}
use Rattle.std.proofs.lemmas.Bool.{eqb-true, eq-eqb}
use Rattle.cov_base.specs.Lists.{Everywhere, Somewhere}
use Rattle.ada_meaning.specs.Bodies.{StandsIn}
use Rattle.ada_meaning.specs.Declared.{library_shape, object_shape}
use Rattle.ada_meaning.specs.Objects.{AreDistinct}
use Rattle.ada_meaning.specs.Program.{LibraryObject, Subprogram, Program}
use Rattle.ada_meaning.specs.Resolved.{owner_in, shape_in}
use Rattle.ada_meaning.specs.Types.{Owner}
use Rattle.ada_meaning.specs.WellFormed.{StartSees}
use Rattle.legal_laws.specs.LibraryLevel.{AreObjects}
use Rattle.legal_programs.specs.Growing.{IsLonger}
use Rattle.legal_programs.proofs.Serving.{somewhere_reversed}

module _ (p : Program) (inst : ℕ) (sub : Subprogram) where
  -- the first object with a number is the one with it
  shape_of_one : (o : LibraryObject) (os : List LibraryObject) → AreDistinct (map (λ x. x.declaration) os) → Somewhere (λ x. x ≡ o) os
      → library_shape p inst o.declaration os ≡ shape_in p inst o.subtype
  shape_of_one o [] distinct there = absurd there
  shape_of_one o (x ∷ os) distinct (inl same) =
      ap (λ b. if b then shape_in p inst x.subtype else library_shape p inst o.declaration os) (eq-eqb x.declaration o.declaration (ap (λ y. y.declaration) same))
      ∙ ap (λ y. shape_in p inst y.subtype) same
  shape_of_one o (x ∷ os) distinct (inr there) = by_test (nat_eq x.declaration o.declaration) refl (shape_of_one o os distinct.1 there)
    where
      never : (os : List LibraryObject) (n : ℕ) → Everywhere (λ m. n ≡ m → ⊥) (map (λ y. y.declaration) os) → Somewhere (λ y. y ≡ o) os → n ≡ o.declaration → ⊥
      never [] n all at e = at
      never (y ∷ ys) n all (inl same) e = all.0 (e ∙ sym (ap (λ z. z.declaration) same))
      never (y ∷ ys) n all (inr at) e = never ys n all.1 at e

      by_test : (b : Bool) → nat_eq x.declaration o.declaration ≡ b
          → library_shape p inst o.declaration os ≡ shape_in p inst o.subtype
          → (if b then shape_in p inst x.subtype else library_shape p inst o.declaration os) ≡ shape_in p inst o.subtype
      by_test true e rest = absurd (never os x.declaration distinct.0 there (eqb-true x.declaration o.declaration e))
      by_test false e rest = rest

  module _ (generic : Option ℕ) (standing : StandsIn p generic inst) where
    seen_as : (o : LibraryObject) (os : List LibraryObject) → o.generic ≡ generic → Somewhere (λ x. x ≡ o) os
        → Somewhere (λ x. (x.declaration ≡ o.declaration) × StandsIn p x.generic inst) os
    seen_as o [] same there = absurd there
    seen_as o (x ∷ os) same (inl is) =
        inl (ap (λ y. y.declaration) is, subst (λ g. StandsIn p g inst) (sym same ∙ ap (λ y. y.generic) (sym is)) standing)
    seen_as o (x ∷ os) same (inr there) = inr (seen_as o os same there)

    -- whoever owns them here
    pub objects_seen : AreDistinct (map (λ x. x.declaration) p.objects) → (owner : Owner) → owner_in inst owner ≡ inst → (os : List LibraryObject)
        → ((o : LibraryObject) → Somewhere (λ x. x ≡ o) os → Somewhere (λ x. x ≡ o) p.objects)
        → AreObjects p inst generic (object_shape p inst sub) (StartSees p inst sub) owner os
    objects_seen distinct owner here [] among = tt
    objects_seen distinct owner here (o ∷ os) among = (
      λ same. (
        ap (λ i. library_shape p i o.declaration p.objects) here ∙ shape_of_one o p.objects distinct (among o (inl refl)),
        subst (λ i. Somewhere (λ x. (x.declaration ≡ o.declaration) × StandsIn p x.generic i) p.objects) (sym here) (seen_as o p.objects same (among o (inl refl))),
      ),
      objects_seen distinct owner here os (λ x there. among x (inr there)),
    )

-- what was declared so far is among what is declared at the end, the latest first
in_longer : {X : Type 0} (P : X → Type 0) (more xs : List X) → Somewhere P xs → Somewhere P (more ++ xs)
in_longer P [] xs h = h
in_longer P (x ∷ more) xs h = inr (in_longer P more xs h)

pub among_all : {X : Type 0} (P : X → Type 0) (xs ys zs : List X) → IsLonger xs ys → zs ≡ reverse ys → Somewhere P xs → Somewhere P zs
among_all P xs ys zs more e h =
    subst (Somewhere P) (sym e) (somewhere_reversed P ys (subst (Somewhere P) (sym more.is) (in_longer P more.more xs h)))
