-- What instances have lies in the base range, all along the walk and at its end.
use Rattle.std.proofs.Common.{◌+◌, ℕ, pred, Bool, true, false, if◌then◌else◌, List, [], ◌∷◌, reverse, length, Option, Some, None, IfOk, set, slice_get, sym, subst}
use Rattle.cov_base.specs.Lists.{Everywhere}
use Rattle.cov_base.specs.declared.position.Pos.{Pos}
use Rattle.ada_syntax.specs.declared.unit.Instance.{Instance}
use Rattle.ada_syntax.specs.declared.unit.LibraryItem.{LibraryItem}
use Rattle.ada_syntax.specs.declared.unit.LibraryItem.TheVariants as library
use Rattle.ada_syntax.specs.declared.unit.PackageSpecification.{PackageSpecification}
use Rattle.ada_syntax.specs.declared.unit.SubprogramBody.{SubprogramBody}
use Rattle.ada_syntax.specs.declared.unit.Unit.{Unit as LibraryUnit}
use Rattle.ada_meaning.specs.Program.{GenericConstant, Program}
use Rattle.ada_rules.specs.Denoted.{nowhere}
use Rattle.ada_rules.specs.Entities.{key, hidden, unit, Actual}
use Rattle.ada_rules.specs.Environment.{Step, typing, World, State, beginning_state, Env}
use Rattle.ada_rules.specs.Instances.{formals_declared, generic_named, formals_of, actuals_judged, facts_made}
use Rattle.ada_rules.specs.Library.{Library, is_instance, instance_number}
use Rattle.ada_rules.specs.Plan.{◌>>=◌, rule}
use Rattle.ada_rules.specs.Statics.{Facts, with_constants}
use Rattle.ada_rules.specs.Subprograms.{specified, declared_only, closed_by}
use Rattle.ada_rules.specs.Units.{env_of, package_items, Walked, at_unit, formals_in, in_specification, with_package, package_judged, facts_set, with_instance, instance_judged, with_subprogram, library_routine, library_subprogram, seen_in, interface_judged, interface_at, all_interfaces, facts_before, world_before, all_with_constants}
use Rattle.legal_laws.specs.Valued.{AreFactsInBase}
use Rattle.legal_laws.proofs.Passing.{answered, part_so, any_answer}
use Rattle.legal_laws.proofs.Values.{actuals_in_base, with_constants_in_base}
use Rattle.legal_programs.specs.Walked.{IsLegal}
use Rattle.legal_programs.proofs.DecidedUnits.{every_set}
use Rattle.legal_programs.proofs.Passed.{of_ok}

abbrev InBase : World → Type 0
InBase w = Everywhere AreFactsInBase w.instances

abbrev Stays : Walked → Type 0
Stays x = InBase x.world

package_stays : (env : Env) (s : State) (p : Pos) (n : ℕ) (x : PackageSpecification) → InBase env.world → IfOk (package_judged env s p n x).answer Stays
package_stays env s p n x base =
    answered Stays p _
    (part_so (λ f. Unit {0}) Stays (formals_declared (in_specification env n x []) (at_unit s) p 0 (formals_in x.formals)).answer
    (λ formals. package_items (in_specification env n x formals.value) formals.next p x.items
    >>= (λ region. closed_by p x.name x.end_name >>= (λ end. rule (Some (with_package env n x formals.value region)))))
    (any_answer (formals_declared (in_specification env n x []) (at_unit s) p 0 (formals_in x.formals)).answer)
    (λ formals h. part_so (λ f. Unit {0}) Stays (package_items (in_specification env n x formals.value) formals.next p x.items).answer
    (λ region. closed_by p x.name x.end_name >>= (λ end. rule (Some (with_package env n x formals.value region))))
    (any_answer (package_items (in_specification env n x formals.value) formals.next p x.items).answer)
    (λ region k. part_so (λ u. Unit {0}) Stays (closed_by p x.name x.end_name).answer
    (λ end. rule (Some (with_package env n x formals.value region))) (any_answer (closed_by p x.name x.end_name).answer) (λ end u. base))))

pub made_in_base : (w : World) (g : Option ℕ) (actuals : List Actual) → InBase w → AreFactsInBase (facts_made w g actuals)
made_in_base w g actuals base = record { formals = actuals_in_base w.instances actuals base; constants = tt }

pub set_in_base : (fs : List Facts) (k : ℕ) (f : Facts) (cs : List GenericConstant) → Everywhere AreFactsInBase fs → AreFactsInBase f
    → Everywhere AreFactsInBase (facts_set fs k f cs)
set_in_base fs k f cs base h =
    every_set AreFactsInBase fs (pred k) (with_constants (set fs (pred k) f) cs k f) base
    (with_constants_in_base (set fs (pred k) f) cs k f (every_set AreFactsInBase fs (pred k) f base h) h)

instance_stays : (env : Env) (s : State) (p : Pos) (n k : ℕ) (i : Instance) → InBase env.world → IfOk (instance_judged env s p n k i).answer Stays
instance_stays env s p n k i base =
    answered Stays p _
    (part_so (λ g. Unit {0}) Stays (generic_named env i.generic_name).answer
    (λ g. actuals_judged env (at_unit s) p k [] (formals_of env.world g) i.actuals
    >>= (λ actuals. rule (Some (with_instance env.world p n k i g actuals.value actuals.next))))
    (any_answer (generic_named env i.generic_name).answer)
    (λ g u. part_so (λ f. Unit {0}) Stays (actuals_judged env (at_unit s) p k [] (formals_of env.world g) i.actuals).answer
    (λ actuals. rule (Some (with_instance env.world p n k i g actuals.value actuals.next)))
    (any_answer (actuals_judged env (at_unit s) p k [] (formals_of env.world g) i.actuals).answer)
    (λ actuals h. set_in_base env.world.instances k (facts_made env.world g actuals.value) (reverse actuals.next.constants_declared) base
    (made_in_base env.world g actuals.value base))))

library_stays : (env : Env) (s : State) (n : ℕ) (b : SubprogramBody) → InBase env.world → IfOk (library_subprogram env s n b).answer Stays
library_stays env s n b base =
    answered Stays b.specification.pos _
    (part_so (λ q. Unit {0}) Stays (specified env (at_unit s) b.specification).answer
    (λ q. rule (Some (with_subprogram env.world n (library_routine env b q.value) (declared_only s q.next))))
    (any_answer (specified env (at_unit s) b.specification).answer) (λ q h. base))

module _ (step : Step) (l : Library) where
  interface_stays : (w : World) (s : State) (n : ℕ) (u : LibraryUnit) (i : LibraryItem) → InBase w → IfOk (interface_judged step l w s n u i).answer Stays
  interface_stays w s n u (library.Package x) base = package_stays (env_of step w n (key x.name) (seen_in w l u (unit n))) s u.item_pos n x base
  interface_stays w s n u (library.Instance i) base =
      instance_stays (env_of step w n (key i.name) (seen_in w l u hidden)) s u.item_pos n (instance_number n l.units) i base
  interface_stays w s n u (library.Subprogram b) base = library_stays (env_of step w n (key b.specification.name) (seen_in w l u hidden)) s n b base
  interface_stays w s n u (library.PackageBody b) base = base

  interface_at_stays : (x : Walked) (n : ℕ) (o : Option LibraryUnit) → InBase x.world → IfOk (interface_at step l x n o).answer Stays
  interface_at_stays x n None base = base
  interface_at_stays x n (Some u) base =
      answered Stays u.pos _
      (part_so Stays Stays (interface_judged step l x.world x.next n u u.item).answer
      (λ y. rule (Some y)) (interface_stays x.world x.next n u u.item base) (λ y h. h))

  pub interfaces_stay : (x : Walked) (ns : List ℕ) → InBase x.world → IfOk (all_interfaces step l x ns).answer Stays
  interfaces_stay x [] base = base
  interfaces_stay x (n ∷ ns) base =
      answered Stays nowhere _
      (part_so Stays Stays (interface_at step l x n (slice_get l.units n)).answer
      (λ y. all_interfaces step l y ns >>= (λ rest. rule (Some rest)))
      (interface_at_stays x n (slice_get l.units n) base)
      (λ y h. part_so Stays Stays (all_interfaces step l y ns).answer (λ rest. rule (Some rest)) (interfaces_stay y ns h) (λ rest k. k)))

none_if : (count : ℕ) (b : Bool) (fs : List Facts) → Everywhere AreFactsInBase fs
    → Everywhere AreFactsInBase (if b then record { generic = count; formals = []; constants = [] } ∷ fs else fs)
none_if count true fs h = (record { formals = tt; constants = tt }, h)
none_if count false fs h = h

pub before_in_base : (count : ℕ) (us : List LibraryUnit) → Everywhere AreFactsInBase (facts_before count us)
before_in_base count [] = tt
before_in_base count (u ∷ us) = none_if count (is_instance u.item) (facts_before count us) (before_in_base count us)

all_in_base : (facts : List Facts) (cs : List GenericConstant) (n : ℕ) (fs : List Facts) → Everywhere AreFactsInBase facts → Everywhere AreFactsInBase fs
    → Everywhere AreFactsInBase (all_with_constants facts cs n fs)
all_in_base facts cs n [] base h = tt
all_in_base facts cs n (f ∷ fs) base h = (with_constants_in_base facts cs n f base h.0, all_in_base facts cs (n + 1) fs base h.1)

module _ (l : Library) (main : List ℕ) (p : Program) (is : IsLegal l main p) where
  pub seen_in_base : Everywhere AreFactsInBase is.walk.seen.world.instances
  seen_in_base =
      of_ok Stays (all_interfaces typing l (record { world = world_before l; next = beginning_state }) l.order).answer is.walk.seen is.walk.interfaces
      (interfaces_stay typing l (record { world = world_before l; next = beginning_state }) l.order (before_in_base (length l.units) l.units))

  pub facts_in_base : Everywhere AreFactsInBase is.walked.world.instances
  facts_in_base =
      subst InBase (sym is.walk.world)
      (all_in_base is.walk.seen.world.instances (reverse is.walked.next.constants_declared) 1 is.walk.seen.world.instances seen_in_base seen_in_base)
