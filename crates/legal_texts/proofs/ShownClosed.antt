-- What the units of a legal program show each other is whole and hangs on no instance: a package declares for no generic, an instance shows its generic through itself,
-- and a library subprogram belongs to no generic.
use Rattle.std.proofs.Common.{◌≡◌, ℕ, nat_eq, Bool, true, false, List, [], ◌∷◌, Option, Some, None, IfSome, IfOk, slice_get, set, refl, sym, ◌∙◌, subst}
use Rattle.std.specs.Prelude.{unwrap_or}
use Rattle.std.proofs.lemmas.Bool.{eqb-true, eq-eqb, false≢true}
use Rattle.cov_base.specs.Lists.{Everywhere}
use Rattle.cov_base.specs.declared.position.Pos.{Pos}
use Rattle.ada_syntax.specs.declared.unit.Instance.{Instance}
use Rattle.ada_syntax.specs.declared.unit.LibraryItem.{LibraryItem}
use Rattle.ada_syntax.specs.declared.unit.LibraryItem.TheVariants as library
use Rattle.ada_syntax.specs.declared.unit.PackageSpecification.{PackageSpecification}
use Rattle.ada_syntax.specs.declared.unit.SubprogramBody.{SubprogramBody}
use Rattle.ada_syntax.specs.declared.unit.Unit.{Unit as LibraryUnit}
use Rattle.ada_meaning.specs.Program.{Program}
use Rattle.ada_rules.specs.Entities.{key, Entity, hidden, mark, literal, object, formal_object, routine, raisable, component, test_io, unit, Region, entity_of, Actual, seen, shown, whole_standard}
use Rattle.ada_rules.specs.Environment.{typing, Interface, no_interface, package_interface, generic_interface, instance_interface, subprogram_interface, World, interface_of, entity_of_interface, State, beginning_state, Env}
use Rattle.ada_rules.specs.Expressions.{part_of_generic, part_of_interface, unless_formal}
use Rattle.ada_rules.specs.Instances.{formals_declared, generic_named, formals_of, actuals_judged}
use Rattle.ada_rules.specs.Library.{Library, instance_number, library_of}
use Rattle.ada_rules.specs.Plan.{◌>>=◌, rule}
use Rattle.ada_rules.specs.Subprograms.{specified, declared_only, closed_by}
use Rattle.ada_rules.specs.Units.{env_of, interface_with, package_items, Walked, at_unit, formals_in, in_specification, with_package, package_judged, with_instance, instance_judged, with_subprogram, library_routine, library_subprogram, seen_in, interface_judged, all_interfaces, world_before}
use Rattle.legal_instances.specs.InOrder.{UnitsRise}
use Rattle.legal_instances.specs.Ordered.{IsWholeOrder}
use Rattle.legal_instances.specs.Within.{Made, IsEntityWithin, IsInterfaceWithin}
use Rattle.legal_instances.proofs.OwnValues.{ready_all}
use Rattle.legal_instances.proofs.WithinUnits.{made_by}
use Rattle.legal_laws.proofs.Passing.{answered, part_so, any_answer, if_map}
use Rattle.legal_programs.specs.Closed.{IsOwned, IsClosedCallee, IsClosedEntity, IsOfLibrary}
use Rattle.legal_programs.specs.Deciding.{IsWhole}
use Rattle.legal_programs.specs.Walked.{IsLegal}
use Rattle.legal_programs.specs.WholeWorld.{IsWholeWorld}
use Rattle.legal_programs.proofs.ClosedEntities.{entity_seen_closed}
use Rattle.legal_programs.proofs.Counted.{states_of}
use Rattle.legal_programs.proofs.DecidedPrograms.{whole_is_whole, none_declared}
use Rattle.legal_programs.proofs.DecidedUnits.{Seen, interfaces_seen, env_whole}
use Rattle.legal_programs.proofs.Passed.{of_ok}
use Rattle.legal_texts.proofs.AnywhereKnown.{ShowsClosed}
use Rattle.legal_texts.proofs.ClosedTexts.{HasClosedOwner, entity_closed}
use Rattle.legal_texts.proofs.DeclaredHere.{IsOwnedEntity, owner_outside}
use Rattle.legal_texts.proofs.DeclaredWorlds.{package_owned, part_of_library}
use Rattle.legal_texts.proofs.FormedPrograms.{no_interfaces}
use Rattle.legal_texts.proofs.InterfaceWalk.{IsAtUnit, walk_known}
use Rattle.legal_texts.proofs.UnitParts.{entity_so, shown_so, set_either}
use Rattle.legal_texts.proofs.OrderOnce.{ordered_once}

-- a library subprogram belongs to no generic
abbrev HasOwnRoutine : Interface → Type 0
HasOwnRoutine (subprogram_interface r) = IsClosedCallee r.callee
HasOwnRoutine i = Unit {0}

abbrev HasOwnRoutines : World → Type 0
HasOwnRoutines w = (n : ℕ) → HasOwnRoutine (interface_of w n)

package_set : {A : Type 0} (w : World) (n : ℕ) (o : Option A) (formals region : Region) → HasOwnRoutine (unwrap_or (slice_get (set w.interfaces n (interface_with o formals region)) n) no_interface)
package_set w n o formals region =
    set_either (λ i. HasOwnRoutine (unwrap_or i no_interface)) w.interfaces n (interface_with o formals region) (no_routine o) tt
  where
    no_routine : {B : Type 0} (x : Option B) → HasOwnRoutine (interface_with x formals region)
    no_routine None = tt
    no_routine (Some fs) = tt

package_routine : (env : Env) (s : State) (p : Pos) (n : ℕ) (x : PackageSpecification) → IfOk (package_judged env s p n x).answer (λ y. HasOwnRoutine (interface_of y.world n))
package_routine env s p n x =
    answered Own p _
    (part_so (λ f. Unit {0}) Own (formals_declared (in_specification env n x []) (at_unit s) p 0 (formals_in x.formals)).answer
    (λ formals. package_items (in_specification env n x formals.value) formals.next p x.items
    >>= (λ region. closed_by p x.name x.end_name >>= (λ end. rule (Some (with_package env n x formals.value region)))))
    (any_answer (formals_declared (in_specification env n x []) (at_unit s) p 0 (formals_in x.formals)).answer)
    (λ formals h. part_so (λ f. Unit {0}) Own (package_items (in_specification env n x formals.value) formals.next p x.items).answer
    (λ region. closed_by p x.name x.end_name >>= (λ end. rule (Some (with_package env n x formals.value region))))
    (any_answer (package_items (in_specification env n x formals.value) formals.next p x.items).answer)
    (λ region k. part_so (λ u. Unit {0}) Own (closed_by p x.name x.end_name).answer
    (λ end. rule (Some (with_package env n x formals.value region))) (any_answer (closed_by p x.name x.end_name).answer)
    (λ end u. package_set env.world n x.formals formals.value region.value))))
  where
    Own : Walked → Type 0
    Own y = HasOwnRoutine (interface_of y.world n)

instance_routine : (env : Env) (s : State) (p : Pos) (n k : ℕ) (i : Instance) → IfOk (instance_judged env s p n k i).answer (λ y. HasOwnRoutine (interface_of y.world n))
instance_routine env s p n k i =
    answered Own p _
    (part_so (λ g. Unit {0}) Own (generic_named env i.generic_name).answer
    (λ g. actuals_judged env (at_unit s) p k [] (formals_of env.world g) i.actuals
    >>= (λ actuals. rule (Some (with_instance env.world p n k i g actuals.value actuals.next))))
    (any_answer (generic_named env i.generic_name).answer)
    (λ g u. part_so (λ f. Unit {0}) Own (actuals_judged env (at_unit s) p k [] (formals_of env.world g) i.actuals).answer
    (λ actuals. rule (Some (with_instance env.world p n k i g actuals.value actuals.next)))
    (any_answer (actuals_judged env (at_unit s) p k [] (formals_of env.world g) i.actuals).answer)
    (λ actuals h. set_either (λ o. HasOwnRoutine (unwrap_or o no_interface)) env.world.interfaces n (instance_interface g k actuals.value) tt tt)))
  where
    Own : Walked → Type 0
    Own y = HasOwnRoutine (interface_of y.world n)

library_own : (env : Env) (s : State) (n : ℕ) (b : SubprogramBody) → env.generic ≡ None → IfOk (library_subprogram env s n b).answer (λ y. HasOwnRoutine (interface_of y.world n))
library_own env s n b none =
    answered Own b.specification.pos _
    (part_so (λ q. Unit {0}) Own (specified env (at_unit s) b.specification).answer
    (λ q. rule (Some (with_subprogram env.world n (library_routine env b q.value) (declared_only s q.next))))
    (any_answer (specified env (at_unit s) b.specification).answer)
    (λ q h. set_either (λ o. HasOwnRoutine (unwrap_or o no_interface)) env.world.interfaces n (library_routine env b q.value)
    (subst IsOwned (sym (owner_outside env none)) tt) tt))
  where
    Own : Walked → Type 0
    Own y = HasOwnRoutine (interface_of y.world n)

module _ (l : Library) where
  item_routine : (x : Walked) (n : ℕ) (u : LibraryUnit) (i : LibraryItem) → HasOwnRoutine (interface_of x.world n)
      → IfOk (interface_judged typing l x.world x.next n u i).answer (λ y. HasOwnRoutine (interface_of y.world n))
  item_routine x n u (library.Package z) h = package_routine (env_of typing x.world n (key z.name) (seen_in x.world l u (unit n))) x.next u.item_pos n z
  item_routine x n u (library.Instance z) h =
      instance_routine (env_of typing x.world n (key z.name) (seen_in x.world l u hidden)) x.next u.item_pos n (instance_number n l.units) z
  item_routine x n u (library.Subprogram b) h = library_own (env_of typing x.world n (key b.specification.name) (seen_in x.world l u hidden)) x.next n b refl
  item_routine x n u (library.PackageBody b) h = h

  routines_next : (final : World) (last : State) (x : Walked) (n : ℕ) (u : LibraryUnit) (y : Walked) → IsAtUnit l final last x n u y → HasOwnRoutines x.world → HasOwnRoutines y.world
  routines_next final last x n u y at h m = by_number (nat_eq n m) refl
    where
      by_number : (b : Bool) → nat_eq n m ≡ b → HasOwnRoutine (interface_of y.world m)
      by_number true e =
          subst (λ k. HasOwnRoutine (interface_of y.world k)) (eqb-true n m e)
          (of_ok (λ (z : Walked). HasOwnRoutine (interface_of z.world n)) (interface_judged typing l x.world x.next n u u.item).answer y at.judged (item_routine x n u u.item (h n)))
      by_number false e = subst HasOwnRoutine (sym (at.steps.others m (λ same. false≢true (sym e ∙ eq-eqb n m same)))) (h m)

owner_closed : (x : Entity) → IsOwnedEntity x → HasClosedOwner x
owner_closed (object v) h = h
owner_closed (routine r) h = h
owner_closed (raisable e) h = h
owner_closed hidden h = tt
owner_closed (mark i t) h = tt
owner_closed (literal t x) h = tt
owner_closed (formal_object t e) h = tt
owner_closed component h = tt
owner_closed test_io h = tt
owner_closed (unit n) h = tt

-- two laws of what is there
both_so : {X : Type 0} (P Q : X → Type 0) (o : Option X) → IfSome o P → IfSome o Q → IfSome o (λ x. P x × Q x)
both_so P Q None h k = tt
both_so P Q (Some x) h k = (h, k)

module _ (us : List LibraryUnit) (main : List ℕ) (p : Program) (legal : IsLegal (library_of whole_standard us) main p) (in_order : IsWholeOrder (library_of whole_standard us))
    (rise : UnitsRise us) where
  abbrev l : Library
  l = library_of whole_standard us

  abbrev final : World
  final = legal.walk.seen.world

  abbrev first : Walked
  first = record { world = world_before l; next = beginning_state }

  pub final_whole : IsWholeWorld final
  final_whole =
      (of_ok (λ y. Seen beginning_state y) (all_interfaces typing l first l.order).answer legal.walk.seen legal.walk.interfaces
      (interfaces_seen l first l.order (record { standard = whole_is_whole; interfaces = none_declared us }))).1

  own_routines : HasOwnRoutines final
  own_routines =
      walk_known l final legal.walked.next (λ (x : Walked). HasOwnRoutines x.world) (routines_next l final legal.walked.next) first l.order legal.walk.seen
      legal.walk.interfaces refl (states_of l main p legal).bodies.extends (ordered_once us l.order in_order.units) (λ m there. no_interfaces us m)
      (λ n. subst HasOwnRoutine (sym (no_interfaces us n)) tt)

  -- nothing that a unit shows outside generics looks at a formal
  abbrev had : Made
  had = made_by us (ready_all us main p legal rise).keys final.instances

  within : (n : ℕ) → IsInterfaceWithin had final legal.walk.seen.next.constants_declared n (interface_of final n)
  within = (ready_all us main p legal rise).ready.world.interfaces

  package_closed : (n : ℕ) (region : Region) → interface_of final n ≡ package_interface region → Everywhere (λ e. IsClosedEntity e.1) region
  package_closed n region is =
      every_both_so region (subst (IsInterfaceWithin had final legal.walk.seen.next.constants_declared n) is (within n)) (package_owned l main p legal in_order n region is)
    where
      every_both_so : (es : Region) → Everywhere (λ e. IsEntityWithin had false 0 e.1) es → Everywhere (λ e. IsOwnedEntity e.1 × IsOfLibrary e.1) es
          → Everywhere (λ e. IsClosedEntity e.1) es
      every_both_so [] h k = tt
      every_both_so (e ∷ es) h k = (entity_closed had e.1 h.0 (owner_closed e.1 k.0.0), every_both_so es h.1 k.1)

  generic_closed : (g k : ℕ) (actuals : List Actual) (name : List ℕ) (i : Interface) → interface_of final g ≡ i → IfSome (part_of_generic k actuals name i) IsClosedEntity
  generic_closed g k actuals name (generic_interface formals region) is =
      if_map IsOfLibrary IsClosedEntity (seen k actuals) (unless_formal formals name (shown (entity_of name region)))
      (part_of_library l main p legal in_order g formals region is name) (entity_seen_closed k actuals)
  generic_closed g k actuals name no_interface is = tt
  generic_closed g k actuals name (package_interface region) is = tt
  generic_closed g k actuals name (instance_interface h j more) is = tt
  generic_closed g k actuals name (subprogram_interface r) is = tt

  part_closed : (n : ℕ) (name : List ℕ) (i : Interface) → interface_of final n ≡ i → IfSome (part_of_interface final name i) IsClosedEntity
  part_closed n name (package_interface region) is =
      shown_so IsClosedEntity (entity_of name region) (entity_so IsClosedEntity name region (package_closed n region is))
  part_closed n name (instance_interface None k actuals) is = tt
  part_closed n name (instance_interface (Some g) k actuals) is = generic_closed g k actuals name (interface_of final g) refl
  part_closed n name no_interface is = tt
  part_closed n name (generic_interface formals region) is = tt
  part_closed n name (subprogram_interface r) is = tt

  unit_closed : (n : ℕ) (i : Interface) → IsInterfaceWithin had final legal.walk.seen.next.constants_declared n i → HasOwnRoutine i
      → IsWhole (entity_of_interface n i) × IsClosedEntity (entity_of_interface n i)
  unit_closed n (subprogram_interface r) h own = (tt, entity_closed had (routine r) h own)
  unit_closed n no_interface h own = (tt, tt)
  unit_closed n (package_interface region) h own = (tt, tt)
  unit_closed n (generic_interface formals region) h own = (tt, tt)
  unit_closed n (instance_interface g k actuals) h own = (tt, tt)

  pub shown_closed : ShowsClosed final
  shown_closed = record {
    parts = λ n name.
        both_so IsWhole IsClosedEntity (part_of_interface final name (interface_of final n)) ((env_whole final n name [] final_whole tt).units n name)
        (part_closed n name (interface_of final n) refl);
    units = λ n. unit_closed n (interface_of final n) (within n) (own_routines n);
  }
