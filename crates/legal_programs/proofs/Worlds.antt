-- What is there before any unit is looked at stays there: the predefined names, the names of units, and the bodies.
use Rattle.std.proofs.Common.{◌≡◌, ◌+◌, ℕ, List, [], ◌∷◌, length, reverse, Option, Some, None, IfOk, slice_get, refl, sym, ap, ◌∙◌, arith}
use Rattle.std.specs.Prelude.{unwrap_or}
use Rattle.cov_base.specs.declared.position.Pos.{Pos}
use Rattle.ada_syntax.specs.declared.unit.Instance.{Instance}
use Rattle.ada_syntax.specs.declared.unit.LibraryItem.{LibraryItem}
use Rattle.ada_syntax.specs.declared.unit.LibraryItem.TheVariants as library
use Rattle.ada_syntax.specs.declared.unit.PackageSpecification.{PackageSpecification}
use Rattle.ada_syntax.specs.declared.unit.SubprogramBody.{SubprogramBody}
use Rattle.ada_syntax.specs.declared.unit.Unit.{Unit as LibraryUnit}
use Rattle.ada_meaning.specs.Program.{Program}
use Rattle.ada_rules.specs.Denoted.{nowhere}
use Rattle.ada_rules.specs.Entities.{key, hidden, unit}
use Rattle.ada_rules.specs.Environment.{Step, typing, World, State, beginning_state, Env}
use Rattle.ada_rules.specs.Instances.{formals_declared, generic_named, formals_of, actuals_judged}
use Rattle.ada_rules.specs.Library.{Library, instance_number}
use Rattle.ada_rules.specs.Plan.{◌>>=◌, rule}
use Rattle.ada_rules.specs.Subprograms.{specified, declared_only, closed_by, place_among, body_number}
use Rattle.ada_rules.specs.Units.{env_of, package_items, Walked, at_unit, formals_in, in_specification, with_package, package_judged, with_instance, instance_judged, with_subprogram, library_routine, library_subprogram, seen_in, interface_judged, interface_at, all_interfaces, all_bodies_judged, world_before}
use Rattle.legal_laws.proofs.Passing.{answered, part_so, any_answer}
use Rattle.legal_programs.specs.Main.{HasMain}
use Rattle.legal_programs.specs.Walked.{IsLegal}
use Rattle.legal_programs.proofs.Counted.{states_of}
use Rattle.legal_programs.proofs.Headings.{are_headed}
use Rattle.legal_programs.proofs.MainUnit.{IsHome, home_of, MainAt, main_at}
use Rattle.legal_programs.proofs.Passed.{of_ok}

pub record IsSameWorld (w v : World) : Type 0 where
  pub standard : v.standard ≡ w.standard
  pub names : v.names ≡ w.names
  pub bodies : v.bodies ≡ w.bodies

same_world : (w : World) → IsSameWorld w w
same_world w = record { standard = refl; names = refl; bodies = refl }

both_worlds : (w v u : World) → IsSameWorld w v → IsSameWorld v u → IsSameWorld w u
both_worlds w v u h k = record { standard = k.standard ∙ h.standard; names = k.names ∙ h.names; bodies = k.bodies ∙ h.bodies }

abbrev Same : World → Walked → Type 0
Same w x = IsSameWorld w x.world

package_same : (env : Env) (s : State) (p : Pos) (n : ℕ) (x : PackageSpecification) → IfOk (package_judged env s p n x).answer (Same env.world)
package_same env s p n x =
    answered (Same env.world) p _
    (part_so (λ f. Unit {0}) (Same env.world) (formals_declared (in_specification env n x []) (at_unit s) p 0 (formals_in x.formals)).answer
    (λ formals. package_items (in_specification env n x formals.value) formals.next p x.items
    >>= (λ region. closed_by p x.name x.end_name >>= (λ end. rule (Some (with_package env n x formals.value region)))))
    (any_answer (formals_declared (in_specification env n x []) (at_unit s) p 0 (formals_in x.formals)).answer)
    (λ formals h. part_so (λ f. Unit {0}) (Same env.world) (package_items (in_specification env n x formals.value) formals.next p x.items).answer
    (λ region. closed_by p x.name x.end_name >>= (λ end. rule (Some (with_package env n x formals.value region))))
    (any_answer (package_items (in_specification env n x formals.value) formals.next p x.items).answer)
    (λ region k. part_so (λ u. Unit {0}) (Same env.world) (closed_by p x.name x.end_name).answer
    (λ end. rule (Some (with_package env n x formals.value region))) (any_answer (closed_by p x.name x.end_name).answer)
    (λ end u. record { standard = refl; names = refl; bodies = refl }))))

instance_same : (env : Env) (s : State) (p : Pos) (n k : ℕ) (i : Instance) → IfOk (instance_judged env s p n k i).answer (Same env.world)
instance_same env s p n k i =
    answered (Same env.world) p _
    (part_so (λ g. Unit {0}) (Same env.world) (generic_named env i.generic_name).answer
    (λ g. actuals_judged env (at_unit s) p k [] (formals_of env.world g) i.actuals
    >>= (λ actuals. rule (Some (with_instance env.world p n k i g actuals.value actuals.next))))
    (any_answer (generic_named env i.generic_name).answer)
    (λ g u. part_so (λ f. Unit {0}) (Same env.world) (actuals_judged env (at_unit s) p k [] (formals_of env.world g) i.actuals).answer
    (λ actuals. rule (Some (with_instance env.world p n k i g actuals.value actuals.next)))
    (any_answer (actuals_judged env (at_unit s) p k [] (formals_of env.world g) i.actuals).answer)
    (λ actuals h. record { standard = refl; names = refl; bodies = refl })))

library_same : (env : Env) (s : State) (n : ℕ) (b : SubprogramBody) → IfOk (library_subprogram env s n b).answer (Same env.world)
library_same env s n b =
    answered (Same env.world) b.specification.pos _
    (part_so (λ q. Unit {0}) (Same env.world) (specified env (at_unit s) b.specification).answer
    (λ q. rule (Some (with_subprogram env.world n (library_routine env b q.value) (declared_only s q.next))))
    (any_answer (specified env (at_unit s) b.specification).answer)
    (λ q h. record { standard = refl; names = refl; bodies = refl }))

module _ (step : Step) (l : Library) where
  interface_same : (w : World) (s : State) (n : ℕ) (u : LibraryUnit) (i : LibraryItem) → IfOk (interface_judged step l w s n u i).answer (Same w)
  interface_same w s n u (library.Package x) = package_same (env_of step w n (key x.name) (seen_in w l u (unit n))) s u.item_pos n x
  interface_same w s n u (library.Instance i) =
      instance_same (env_of step w n (key i.name) (seen_in w l u hidden)) s u.item_pos n (instance_number n l.units) i
  interface_same w s n u (library.Subprogram b) = library_same (env_of step w n (key b.specification.name) (seen_in w l u hidden)) s n b
  interface_same w s n u (library.PackageBody b) = same_world w

  interface_at_same : (x : Walked) (n : ℕ) (o : Option LibraryUnit) → IfOk (interface_at step l x n o).answer (Same x.world)
  interface_at_same x n None = same_world x.world
  interface_at_same x n (Some u) =
      answered (Same x.world) u.pos _
      (part_so (Same x.world) (Same x.world) (interface_judged step l x.world x.next n u u.item).answer
      (λ y. rule (Some y)) (interface_same x.world x.next n u u.item) (λ y h. h))

  pub interfaces_same : (x : Walked) (ns : List ℕ) → IfOk (all_interfaces step l x ns).answer (Same x.world)
  interfaces_same x [] = same_world x.world
  interfaces_same x (n ∷ ns) =
      answered (Same x.world) nowhere _
      (part_so (Same x.world) (Same x.world) (interface_at step l x n (slice_get l.units n)).answer
      (λ y. all_interfaces step l y ns >>= (λ rest. rule (Some rest)))
      (interface_at_same x n (slice_get l.units n))
      (λ y h. part_so (Same y.world) (Same x.world) (all_interfaces step l y ns).answer (λ rest. rule (Some rest))
      (interfaces_same y ns) (λ rest k. both_worlds x.world y.world rest.world h k)))

-- whole programs
module _ (l : Library) (main : List ℕ) (p : Program) (is : IsLegal l main p) where
  pub world_kept : IsSameWorld (world_before l) is.walked.world
  world_kept =
      let seen = of_ok (λ y. Same (world_before l) y)
      (all_interfaces typing l (record { world = world_before l; next = beginning_state }) l.order).answer is.walk.seen is.walk.interfaces
      (interfaces_same typing l (record { world = world_before l; next = beginning_state }) l.order) in
      record {
        standard = ap (λ w. w.standard) is.walk.world ∙ seen.standard;
        names = ap (λ w. w.names) is.walk.world ∙ seen.names;
        bodies = ap (λ w. w.bodies) is.walk.world ∙ seen.bodies;
      }

  abbrev Home : Type 0
  Home = IsHome l main

  home : Home
  home = home_of l main 0 l.units (λ k. let none : 0 + k ≡ k = omega (arith) in ap (slice_get l.units) none) (are_headed l 0 l.units is.walk.headings) is.walk.main_unit

  main_there : MainAt l main home is.walk.seen.next is.walked.next l.units
  main_there =
      of_ok (λ t. MainAt l main home is.walk.seen.next t l.units) (all_bodies_judged typing l is.walk.seen.world is.walk.seen.next 0 l.units).answer is.walked.next is.walk.bodies
      (main_at l main home is.walk.seen.world is.walk.seen.next 0 l.units (λ k. let none : 0 + k ≡ k = omega (arith) in ap (slice_get l.units) none)
      (are_headed l 0 l.units is.walk.headings) is.walk.main_unit)

  pub has_main_sub : HasMain p
  has_main_sub =
      let at = main_there in
      let none : length is.walk.seen.next.subprograms ≡ 0 = ap length (states_of l main p is).seen.subprograms in
      let place : body_number is.walked.world main main ≡ Some (length is.walk.seen.next.subprograms + at.distance) =
      ap (λ bs. place_among main main 0 bs) world_kept.bodies ∙ (at.placed 0 ∙ ap (λ n. Some (n + at.distance)) (sym none)) in
      record {
        main = at.there.made;
        is_main = ap (λ q. slice_get q.subprograms q.main) is.made
            ∙ (ap (λ o. slice_get (reverse is.walked.next.subprograms) (unwrap_or o 0)) place ∙ at.there.is);
        main_alone = at.there.alone;
      }
