-- What a well-formed program says of each of its bodies, and of what a body sees.
use Rattle.std.proofs.Common.{◌≡◌, ◌≢◌, ℕ, zero, suc, nat_eq, Bool, true, false, List, [], ◌∷◌, map, slice_get, refl, subst, sym, ◌∙◌, inl, inr, ◌⊎◌}
use Rattle.std.specs.Prelude.{unwrap_or, if◌then◌else◌}
use Rattle.std.specs.Option.{IfSome}
use Rattle.std.proofs.lemmas.Bool.{eq-eqb, false≢true}
use Rattle.std.proofs.lemmas.Bool.Decides.{eqb_tells}
use Rattle.cov_base.specs.Lists.{Everywhere, Somewhere}
use Rattle.ada_meaning.specs.Arithmetic.{base_range}
use Rattle.ada_meaning.specs.Bodies.{Body, bodies_of, instances_of, IsBody, StandsIn}
use Rattle.ada_meaning.specs.Declared.{library_shape, object_shape}
use Rattle.ada_meaning.specs.Objects.{AreDistinct}
use Rattle.ada_meaning.specs.Program.{LibraryObject, Subprogram, Program}
use Rattle.ada_meaning.specs.Resolved.{owner_in, shape_in}
use Rattle.ada_meaning.specs.Shape.{Shape, word}
use Rattle.ada_meaning.specs.Tree.{Object, library_object, local_object}
use Rattle.ada_meaning.specs.WellFormed.{IsType, IsInitial, IsLibraryObject, IsSubprogram, IsWellFormed, StartSees}
use Rattle.ada_meaning.proofs.BodyLaws.{instances_listed, bodies_law}

-- what holds of each item holds of one
one_of_all : {X : Type 0} (P : X → Type 0) (xs : List X) (x : X) → Everywhere P xs → Somewhere (λ y. y ≡ x) xs → P x
one_of_all P [] x all here = absurd here
one_of_all P (y ∷ xs) x all (inl e) = subst P e all.0
one_of_all P (y ∷ xs) x all (inr there) = one_of_all P xs x all.1 there

pub body_formed : (p : Program) (b : Body) → IsWellFormed p → (is : IsBody p b) → IsSubprogram p b.instance is.declared
body_formed p b formed is =
    subst (λ o. IfSome o (IsSubprogram p b.instance)) is.is_declared
    (one_of_all (λ c. IfSome (slice_get p.subprograms c.subprogram) (IsSubprogram p c.instance)) (bodies_of p) b formed.bodies ((bodies_law p b).1 is))

local_type : (shapes : List Shape) (d : ℕ) → Everywhere IsType shapes → IsType (unwrap_or (slice_get shapes d) (word base_range))
local_type [] d all = (refl, refl)
local_type (s ∷ shapes) zero all = all.0
local_type (s ∷ shapes) (suc d) all = local_type shapes d all.1

where_true : (b : Bool) (s t : Shape) → b ≡ true → IsType s → IsType (if b then s else t)
where_true true s t e is = is
where_true false s t e is = absurd (false≢true e)

where_false : (b : Bool) (s t : Shape) → b ≡ false → IsType t → IsType (if b then s else t)
where_false true s t e is = absurd (false≢true (sym e))
where_false false s t e is = is

module _ (p : Program) (i d : ℕ) where
  abbrev IsHere : LibraryObject → Type 0
  IsHere x = (x.declaration ≡ d) × StandsIn p x.generic i

  another : (e : ℕ) (os : List LibraryObject) → Everywhere (λ y. e ≡ y → ⊥) (map (λ o. o.declaration) os) → Somewhere IsHere os → e ≢ d
  another e [] apart here = absurd here
  another e (x ∷ os) apart (inl here) = λ f. apart.0 (f ∙ sym here.0)
  another e (x ∷ os) apart (inr there) = another e os apart.1 there

  differs : (e : ℕ) → e ≢ d → nat_eq e d ≡ false
  differs e other = of (eqb_tells e d) where
    of : ((nat_eq e d ≡ true) × (e ≡ d)) ⊎ ((nat_eq e d ≡ false) × (e ≢ d)) → nat_eq e d ≡ false
    of (inl t) = absurd (other t.1)
    of (inr t) = t.0

  library_type : (os : List LibraryObject) → Everywhere (IsLibraryObject p) os → AreDistinct (map (λ o. o.declaration) os) → Somewhere IsHere os → IsType (library_shape p i d os)
  library_type [] all apart here = absurd here
  library_type (x ∷ os) all apart (inl here) =
      where_true (nat_eq x.declaration d) _ _ (eq-eqb x.declaration d here.0)
      (one_of_all (λ j. IsType (shape_in p j x.subtype) × IsInitial p j x.initial) (instances_of x.generic p.instances) i all.0 (instances_listed p x.generic i here.1)).0
  library_type (x ∷ os) all apart (inr there) =
      where_false (nat_eq x.declaration d) _ _ (differs x.declaration (another x.declaration os apart.0 there)) (library_type os all.1 apart.1 there)

pub object_typed : (p : Program) (inst : ℕ) (s : Subprogram) (o : Object) → IsWellFormed p → IsSubprogram p inst s → StartSees p inst s o → IsType (object_shape p inst s o)
object_typed p inst s (library_object o d) formed is here = library_type p (owner_in inst o) d p.objects formed.library formed.declared.library here
object_typed p inst s (local_object d) formed is here = local_type _ d is.types

-- a local object has a type wherever it is declared
pub local_typed : (p : Program) (inst : ℕ) (s : Subprogram) (d : ℕ) → IsSubprogram p inst s → IsType (object_shape p inst s (local_object d))
local_typed p inst s d is = local_type _ d is.types
