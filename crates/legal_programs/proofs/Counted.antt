-- Objects of the library level and exceptions of a legal program have numbers of their own.
use Rattle.std.proofs.Common.{◌≡◌, ◌+◌, ℕ, List, [], ◌∷◌, ◌++◌, map, reverse, length, refl, sym, ap, ◌∙◌, subst, arith}
use mathlib.Core.List.{reverse-cons}
use Rattle.ada_meaning.specs.Objects.{AreDistinct}
use Rattle.ada_meaning.specs.Obligations.{numbers}
use Rattle.ada_meaning.specs.Program.{Program}
use Rattle.ada_rules.specs.Environment.{typing, beginning_state}
use Rattle.ada_rules.specs.Library.{Library, all_bodies}
use Rattle.ada_rules.specs.Units.{all_interfaces, all_bodies_judged, world_before}
use Rattle.legal_laws.proofs.DistinctObjects.{numbers_distinct}
use Rattle.legal_laws.proofs.NumberedObjects.{numbers_joined}
use Rattle.legal_programs.specs.Growing.{CountsDown, Extends, AddsBodies, AddsInterfaces}
use Rattle.legal_programs.specs.Homes.{instances_at}
use Rattle.legal_programs.specs.Walked.{IsLegal}
use Rattle.legal_programs.proofs.Extending.{extends_both}
use Rattle.legal_programs.proofs.ExtendingUnits.{interfaces_add, all_bodies_add}
use Rattle.legal_programs.proofs.Headings.{are_headed, have_homes}
use Rattle.legal_programs.proofs.Lists.{map_reversed}
use Rattle.legal_programs.proofs.Passed.{of_ok}

-- the numbers below n in their order
last_number : (n : ℕ) → numbers 0 (n + 1) ≡ (numbers 0 n ++ n ∷ [])
last_number n = let none : 0 + n ≡ n = omega (arith) in numbers_joined 0 n 1 ∙ ap (λ m. numbers 0 n ++ m ∷ []) none

pub counted_up : (n : ℕ) (xs : List ℕ) → CountsDown n xs → reverse xs ≡ numbers 0 n
counted_up n [] h = sym (ap (numbers 0) h)
counted_up n (x ∷ xs) h =
    reverse-cons x xs ∙ (ap (λ ys. ys ++ x ∷ []) (counted_up x xs h.1) ∙ (sym (last_number x) ∙ ap (numbers 0) (sym h.0)))

counted_distinct : {X : Type 0} (f : X → ℕ) (n : ℕ) (xs : List X) → CountsDown n (map f xs) → AreDistinct (map f (reverse xs))
counted_distinct f n xs h = subst AreDistinct (sym (map_reversed f xs ∙ counted_up n (map f xs) h)) (numbers_distinct 0 n)

-- the states of a walk
pub record AreStates (l : Library) (main : List ℕ) (p : Program) (is : IsLegal l main p) : Type 0 where
  pub seen : AddsInterfaces (instances_at l l.order) beginning_state is.walk.seen.next
  pub bodies : AddsBodies (length (all_bodies l.units)) is.walk.seen.next is.walked.next
  pub all : Extends beginning_state is.walked.next

pub states_of : (l : Library) (main : List ℕ) (p : Program) (is : IsLegal l main p) → AreStates l main p is
states_of l main p is =
    let seen = of_ok (λ y. AddsInterfaces (instances_at l l.order) beginning_state y.next)
    (all_interfaces typing l (record { world = world_before l; next = beginning_state }) l.order).answer is.walk.seen is.walk.interfaces
    (interfaces_add typing l (record { world = world_before l; next = beginning_state }) l.order) in
    let bodies = of_ok (AddsBodies (length (all_bodies l.units)) is.walk.seen.next)
    (all_bodies_judged typing l is.walk.seen.world is.walk.seen.next 0 l.units).answer is.walked.next is.walk.bodies
    (all_bodies_add typing l is.walk.seen.world is.walk.seen.next 0 l.units (have_homes l 0 l.units (are_headed l 0 l.units is.walk.headings))) in
    record {
      seen = seen;
      bodies = bodies;
      all = extends_both beginning_state is.walk.seen.next is.walked.next seen.extends bodies.extends;
    }

pub library_distinct : (l : Library) (main : List ℕ) (p : Program) → IsLegal l main p → AreDistinct (map (λ o. o.declaration) p.objects)
library_distinct l main p is =
    subst (λ q. AreDistinct (map (λ o. o.declaration) q.objects)) (sym is.made)
    (counted_distinct (λ o. o.declaration) is.walked.next.library_objects is.walked.next.objects_declared ((states_of l main p is).all.objects_numbered refl))

pub exceptions_distinct : (l : Library) (main : List ℕ) (p : Program) → IsLegal l main p → AreDistinct (map (λ e. e.declaration) p.declared)
exceptions_distinct l main p is =
    subst (λ q. AreDistinct (map (λ e. e.declaration) q.declared)) (sym is.made)
    (counted_distinct (λ e. e.declaration) is.walked.next.exceptions is.walked.next.exceptions_declared ((states_of l main p is).all.exceptions_numbered refl))
