-- Programs whose subprograms and objects are well-formed wherever they stand; a library before any unit was looked at.
use Rattle.std.proofs.Common.{◌≡◌, ◌+◌, ℕ, zero, suc, nat_eq, Bool, true, false, List, [], ◌∷◌, map, length, Option, Some, None, option_map, IfSome, slice_get, refl, sym, ap, subst, arith, inl, inr}
use Rattle.std.specs.Prelude.{unwrap_or, if◌then◌else◌}
use Rattle.std.proofs.lemmas.Bool.{eqb-true}
use Rattle.cov_base.specs.Lists.{Everywhere, Somewhere}
use Rattle.ada_syntax.specs.declared.unit.Unit.{Unit as LibraryUnit}
use Rattle.ada_meaning.specs.Bodies.{Body, bodies_of, instances_from, instances_of, StandsIn}
use Rattle.ada_meaning.specs.Program.{Subprogram, LibraryObject, Instance, Program}
use Rattle.ada_meaning.specs.Resolved.{shape_in}
use Rattle.ada_meaning.specs.WellFormed.{IsSubprogram, IsType, IsInitial, IsLibraryObject}
use Rattle.ada_meaning.proofs.BodyLaws.{bodies_law}
use Rattle.ada_rules.specs.Types.{Identity, declared_in, identity_of}
use Rattle.ada_rules.specs.Entities.{Parameter}
use Rattle.ada_rules.specs.Environment.{no_interface}
use Rattle.ada_rules.specs.Subprograms.{typed_parameters}
use Rattle.legal_laws.specs.Bounded.{IsBounded, AreObjectsBounded}
use Rattle.legal_laws.specs.Served.{IsFormed}
use Rattle.legal_laws.proofs.Passing.{every_so}
use Rattle.legal_programs.proofs.DecidedUnits.{every_at}
use Rattle.legal_texts.proofs.KnownObjects.{IsObjectAt, ObjectsAt, FormedAt}
use Rattle.legal_laws.specs.Known.{IsOneOf}
use Rattle.ada_rules.specs.Types.{AdaType}
use Rattle.legal_laws.proofs.Predefined.{predefined_types}

pub typed_count : (n : ℕ) (qs : List Parameter) → length (typed_parameters n qs) ≡ length qs
typed_count n [] = refl
typed_count n (q ∷ qs) = ap suc (typed_count (n + 1) qs)

-- items by membership
every_of : {X : Type 0} (P : X → Type 0) (xs : List X) → ((x : X) → Somewhere (λ y. y ≡ x) xs → P x) → Everywhere P xs
every_of P [] h = tt
every_of P (x ∷ xs) h = (h x (inl refl), every_of P xs (λ y there. h y (inr there)))

-- a subprogram in each instance in which it stands
abbrev pub IsFormedThere : Program → Subprogram → Type 0
IsFormedThere p sub = (i : ℕ) → StandsIn p sub.generic i → IsFormed p i sub

pub formed_there : (p : Program) (ss : List Subprogram) → ((i : ℕ) → FormedAt p i ss) → Everywhere (IsFormedThere p) ss
formed_there p [] h = tt
formed_there p (sub ∷ ss) h = ((λ i stands. (h i).0 stands), formed_there p ss (λ i. (h i).1))

pub formed_at : (p : Program) (i : ℕ) (ss : List Subprogram) → Everywhere (IsFormedThere p) ss → FormedAt p i ss
formed_at p i [] h = tt
formed_at p i (sub ∷ ss) h = ((λ stands. h.0 i stands), formed_at p i ss h.1)

-- an object of the library level, likewise
abbrev pub IsObjectThere : Program → LibraryObject → Type 0
IsObjectThere p x = (i : ℕ) → IsObjectAt p i x

pub objects_there : (p : Program) (os : List LibraryObject) → ((i : ℕ) → ObjectsAt p i os) → Everywhere (IsObjectThere p) os
objects_there p [] h = tt
objects_there p (x ∷ os) h = ((λ i stands. (h i).0 stands), objects_there p os (λ i. (h i).1))

each_from : (P : ℕ → Type 0) (g n : ℕ) (is : List Instance) → ((k : ℕ) → option_map (λ x. x.generic) (slice_get is k) ≡ Some g → P (n + k)) → Everywhere P (instances_from g n is)
each_from P g n [] h = tt
each_from P g n (i ∷ is) h = by_test (nat_eq i.generic g) refl (each_from P g (n + 1) is later)
  where
    later : (k : ℕ) → option_map (λ x. x.generic) (slice_get is k) ≡ Some g → P (n + 1 + k)
    later k e = let same : n + suc k ≡ n + 1 + k = omega (arith) in subst P same (h (suc k) e)

    by_test : (b : Bool) → nat_eq i.generic g ≡ b → Everywhere P (instances_from g (n + 1) is) → Everywhere P (if b then n ∷ instances_from g (n + 1) is else instances_from g (n + 1) is)
    by_test true e rest = let same : n + 0 ≡ n = omega (arith) in (subst P same (h 0 (ap Some (eqb-true i.generic g e))), rest)
    by_test false e rest = rest

pub in_each : (p : Program) (P : ℕ → Type 0) (g : Option ℕ) → ((i : ℕ) → StandsIn p g i → P i) → Everywhere P (instances_of g p.instances)
in_each p P None h = (h 0 refl, tt)
in_each p P (Some g) h = each_from P g 1 p.instances (λ k e. let same : suc k ≡ 1 + k = omega (arith) in subst P same (h (suc k) e))

pub library_formed : (p : Program) (os : List LibraryObject) → Everywhere (IsObjectThere p) os → Everywhere (IsLibraryObject p) os
library_formed p os h =
    every_so (IsObjectThere p) (IsLibraryObject p) os
    (λ x k. in_each p (λ i. IsType (shape_in p i x.subtype) × IsInitial p i x.initial) x.generic (λ i stands. (k i stands).0)) h

pub library_bounded : (p : Program) (os : List LibraryObject) → Everywhere (IsObjectThere p) os
    → Everywhere (λ x. (i : ℕ) → StandsIn p x.generic i → IsBounded p i x.subtype) os
library_bounded p os h =
    every_so (IsObjectThere p) (λ x. (i : ℕ) → StandsIn p x.generic i → IsBounded p i x.subtype) os (λ x k i stands. (k i stands).1) h

pub bodies_formed : (p : Program) → Everywhere (IsFormedThere p) p.subprograms
    → Everywhere (λ (b : Body). IfSome (slice_get p.subprograms b.subprogram) (IsSubprogram p b.instance)) (bodies_of p)
bodies_formed p all =
    every_of (λ (b : Body). IfSome (slice_get p.subprograms b.subprogram) (IsSubprogram p b.instance)) (bodies_of p)
    (λ b there. let is = (bodies_law p b).0 there in
    subst (λ o. IfSome o (IsSubprogram p b.instance)) (sym is.is_declared)
    (subst (λ o. IfSome o (IsFormedThere p)) is.is_declared (every_at (IsFormedThere p) p.subprograms b.subprogram all) b.instance is.stands).is)

pub objects_bounded : (p : Program) → Everywhere (IsFormedThere p) p.subprograms → AreObjectsBounded p
objects_bounded p all m inst sub at stands = (subst (λ o. IfSome o (IsFormedThere p)) at (every_at (IsFormedThere p) p.subprograms m all) inst stands).bounded

pub no_interfaces : (us : List LibraryUnit) (m : ℕ) → unwrap_or (slice_get (map (λ u. no_interface) us) m) no_interface ≡ no_interface
no_interfaces [] zero = refl
no_interfaces [] (suc m) = refl
no_interfaces (u ∷ us) zero = refl
no_interfaces (u ∷ us) (suc m) = no_interfaces us m

-- the predefined types are declared in no unit
abbrev pub is_declared : Identity → Bool
is_declared (declared_in o u n) = true
is_declared i = false

pub predefined_alone : (t : AdaType) → IsOneOf predefined_types t → is_declared (identity_of t) ≡ false
predefined_alone t (inl e) = ap (λ u. is_declared (identity_of u)) (sym e)
predefined_alone t (inr (inl e)) = ap (λ u. is_declared (identity_of u)) (sym e)
predefined_alone t (inr (inr e)) = absurd e
