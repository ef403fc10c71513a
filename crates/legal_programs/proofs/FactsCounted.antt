-- There are as many facts as instances in the text, all along the walk and at its end.
use Rattle.std.proofs.Common.{◌≡◌, ◌+◌, ℕ, zero, suc, pred, Bool, true, false, if◌then◌else◌, List, [], ◌∷◌, reverse, length, Option, Some, None, IfOk, set, slice_get, refl, ap, ◌∙◌, arith}
use Rattle.cov_base.specs.declared.position.Pos.{Pos}
use Rattle.ada_syntax.specs.declared.unit.Instance.{Instance}
use Rattle.ada_syntax.specs.declared.unit.LibraryItem.{LibraryItem}
use Rattle.ada_syntax.specs.declared.unit.LibraryItem.TheVariants as library
use Rattle.ada_syntax.specs.declared.unit.PackageSpecification.{PackageSpecification}
use Rattle.ada_syntax.specs.declared.unit.SubprogramBody.{SubprogramBody}
use Rattle.ada_syntax.specs.declared.unit.Unit.{Unit as LibraryUnit}
use Rattle.ada_meaning.specs.Program.{GenericConstant, Program}
use Rattle.ada_rules.specs.Denoted.{nowhere}
use Rattle.ada_rules.specs.Entities.{key, hidden, unit}
use Rattle.ada_rules.specs.Environment.{Step, typing, World, State, beginning_state, Env}
use Rattle.ada_rules.specs.Instances.{formals_declared, generic_named, formals_of, actuals_judged, facts_made}
use Rattle.ada_rules.specs.Library.{Library, is_instance, count_instances, instance_number}
use Rattle.ada_rules.specs.Plan.{◌>>=◌, rule}
use Rattle.ada_rules.specs.Statics.{Facts, with_constants}
use Rattle.ada_rules.specs.Subprograms.{specified, declared_only, closed_by}
use Rattle.ada_rules.specs.Units.{env_of, package_items, Walked, at_unit, formals_in, in_specification, with_package, package_judged, facts_set, with_instance, instance_judged, with_subprogram, library_routine, library_subprogram, seen_in, interface_judged, interface_at, all_interfaces, facts_before, world_before, all_with_constants}
use Rattle.legal_laws.proofs.Passing.{answered, part_so, any_answer}
use Rattle.legal_programs.specs.Walked.{IsLegal}
use Rattle.legal_programs.proofs.Passed.{of_ok}

abbrev HasCount : ℕ → World → Type 0
HasCount n w = length w.instances ≡ n

abbrev Stays : ℕ → Walked → Type 0
Stays n x = HasCount n x.world

package_stays : (n_facts : ℕ) (env : Env) (s : State) (p : Pos) (n : ℕ) (x : PackageSpecification) → HasCount n_facts env.world → IfOk (package_judged env s p n x).answer (Stays n_facts)
package_stays n_facts env s p n x base =
    answered (Stays n_facts) p _
    (part_so (λ f. Unit {0}) (Stays n_facts) (formals_declared (in_specification env n x []) (at_unit s) p 0 (formals_in x.formals)).answer
    (λ formals. package_items (in_specification env n x formals.value) formals.next p x.items
    >>= (λ region. closed_by p x.name x.end_name >>= (λ end. rule (Some (with_package env n x formals.value region)))))
    (any_answer (formals_declared (in_specification env n x []) (at_unit s) p 0 (formals_in x.formals)).answer)
    (λ formals h. part_so (λ f. Unit {0}) (Stays n_facts) (package_items (in_specification env n x formals.value) formals.next p x.items).answer
    (λ region. closed_by p x.name x.end_name >>= (λ end. rule (Some (with_package env n x formals.value region))))
    (any_answer (package_items (in_specification env n x formals.value) formals.next p x.items).answer)
    (λ region k. part_so (λ u. Unit {0}) (Stays n_facts) (closed_by p x.name x.end_name).answer
    (λ end. rule (Some (with_package env n x formals.value region))) (any_answer (closed_by p x.name x.end_name).answer) (λ end u. base))))

set_length : {X : Type 0} (xs : List X) (k : ℕ) (x : X) → length (set xs k x) ≡ length xs
set_length [] zero x = refl
set_length [] (suc k) x = refl
set_length (y ∷ xs) zero x = refl
set_length (y ∷ xs) (suc k) x = ap suc (set_length xs k x)

set_count : (fs : List Facts) (k : ℕ) (f : Facts) (cs : List GenericConstant) → length (facts_set fs k f cs) ≡ length fs
set_count fs k f cs = set_length fs (pred k) (with_constants (set fs (pred k) f) cs k f)

instance_stays : (n_facts : ℕ) (env : Env) (s : State) (p : Pos) (n k : ℕ) (i : Instance) → HasCount n_facts env.world → IfOk (instance_judged env s p n k i).answer (Stays n_facts)
instance_stays n_facts env s p n k i base =
    answered (Stays n_facts) p _
    (part_so (λ g. Unit {0}) (Stays n_facts) (generic_named env i.generic_name).answer
    (λ g. actuals_judged env (at_unit s) p k [] (formals_of env.world g) i.actuals
    >>= (λ actuals. rule (Some (with_instance env.world p n k i g actuals.value actuals.next))))
    (any_answer (generic_named env i.generic_name).answer)
    (λ g u. part_so (λ f. Unit {0}) (Stays n_facts) (actuals_judged env (at_unit s) p k [] (formals_of env.world g) i.actuals).answer
    (λ actuals. rule (Some (with_instance env.world p n k i g actuals.value actuals.next)))
    (any_answer (actuals_judged env (at_unit s) p k [] (formals_of env.world g) i.actuals).answer)
    (λ actuals h. set_count env.world.instances k (facts_made env.world g actuals.value) (reverse actuals.next.constants_declared) ∙ base)))

library_stays : (n_facts : ℕ) (env : Env) (s : State) (n : ℕ) (b : SubprogramBody) → HasCount n_facts env.world → IfOk (library_subprogram env s n b).answer (Stays n_facts)
library_stays n_facts env s n b base =
    answered (Stays n_facts) b.specification.pos _
    (part_so (λ q. Unit {0}) (Stays n_facts) (specified env (at_unit s) b.specification).answer
    (λ q. rule (Some (with_subprogram env.world n (library_routine env b q.value) (declared_only s q.next))))
    (any_answer (specified env (at_unit s) b.specification).answer) (λ q h. base))

module _ (n_facts : ℕ) (step : Step) (l : Library) where
  interface_stays : (w : World) (s : State) (n : ℕ) (u : LibraryUnit) (i : LibraryItem) → HasCount n_facts w → IfOk (interface_judged step l w s n u i).answer (Stays n_facts)
  interface_stays w s n u (library.Package x) base = package_stays n_facts (env_of step w n (key x.name) (seen_in w l u (unit n))) s u.item_pos n x base
  interface_stays w s n u (library.Instance i) base =
      instance_stays n_facts (env_of step w n (key i.name) (seen_in w l u hidden)) s u.item_pos n (instance_number n l.units) i base
  interface_stays w s n u (library.Subprogram b) base = library_stays n_facts (env_of step w n (key b.specification.name) (seen_in w l u hidden)) s n b base
  interface_stays w s n u (library.PackageBody b) base = base

  interface_at_stays : (x : Walked) (n : ℕ) (o : Option LibraryUnit) → HasCount n_facts x.world → IfOk (interface_at step l x n o).answer (Stays n_facts)
  interface_at_stays x n None base = base
  interface_at_stays x n (Some u) base =
      answered (Stays n_facts) u.pos _
      (part_so (Stays n_facts) (Stays n_facts) (interface_judged step l x.world x.next n u u.item).answer
      (λ y. rule (Some y)) (interface_stays x.world x.next n u u.item base) (λ y h. h))

  pub interfaces_count : (x : Walked) (ns : List ℕ) → HasCount n_facts x.world → IfOk (all_interfaces step l x ns).answer (Stays n_facts)
  interfaces_count x [] base = base
  interfaces_count x (n ∷ ns) base =
      answered (Stays n_facts) nowhere _
      (part_so (Stays n_facts) (Stays n_facts) (interface_at step l x n (slice_get l.units n)).answer
      (λ y. all_interfaces step l y ns >>= (λ rest. rule (Some rest)))
      (interface_at_stays x n (slice_get l.units n) base)
      (λ y h. part_so (Stays n_facts) (Stays n_facts) (all_interfaces step l y ns).answer (λ rest. rule (Some rest)) (interfaces_count y ns h) (λ rest k. k)))

count_if : (b : Bool) (n : ℕ) (f : Facts) (fs : List Facts) → length fs ≡ n → length (if b then f ∷ fs else fs) ≡ (if b then n + 1 else n)
count_if true n f fs h = omega (arith, h)
count_if false n f fs h = h

pub count_before : (count : ℕ) (us : List LibraryUnit) → length (facts_before count us) ≡ count_instances us
count_before count [] = refl
count_before count (u ∷ us) =
    count_if (is_instance u.item) (count_instances us) (record { generic = count; formals = []; constants = [] }) (facts_before count us) (count_before count us)

all_count : (facts : List Facts) (cs : List GenericConstant) (n : ℕ) (fs : List Facts) → length (all_with_constants facts cs n fs) ≡ length fs
all_count facts cs n [] = refl
all_count facts cs n (f ∷ fs) = ap suc (all_count facts cs (n + 1) fs)

module _ (l : Library) (main : List ℕ) (p : Program) (is : IsLegal l main p) where
  seen_count : length is.walk.seen.world.instances ≡ count_instances l.units
  seen_count =
      of_ok (Stays (count_instances l.units)) (all_interfaces typing l (record { world = world_before l; next = beginning_state }) l.order).answer is.walk.seen is.walk.interfaces
      (interfaces_count (count_instances l.units) typing l (record { world = world_before l; next = beginning_state }) l.order (count_before (length l.units) l.units))

  pub facts_counted : length is.walked.world.instances ≡ count_instances l.units
  facts_counted =
      ap (λ w. length w.instances) is.walk.world
      ∙ (all_count is.walk.seen.world.instances (reverse is.walked.next.constants_declared) 1 is.walk.seen.world.instances ∙ seen_count)
