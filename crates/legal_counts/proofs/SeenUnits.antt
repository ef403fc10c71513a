-- What other units see of each unit follows from its item, in both steps.
use Rattle.std.proofs.Common.{◌≡◌, ℕ, zero, suc, true, List, [], ◌∷◌, map, set, Option, Some, None, IfOk, Ok, slice_get, refl, sym, ap, ◌∙◌, subst}
use Rattle.std.specs.Prelude.{is_some, unwrap_or}
use Rattle.cov_base.specs.declared.position.Pos.{Pos}
use Rattle.ada_syntax.specs.declared.unit.Formal.{Formal}
use Rattle.ada_syntax.specs.declared.unit.Instance.{Instance}
use Rattle.ada_syntax.specs.declared.unit.LibraryItem.{LibraryItem}
use Rattle.ada_syntax.specs.declared.unit.LibraryItem.TheVariants as library
use Rattle.ada_syntax.specs.declared.unit.PackageSpecification.{PackageSpecification}
use Rattle.ada_syntax.specs.declared.unit.SubprogramBody.{SubprogramBody}
use Rattle.ada_syntax.specs.declared.unit.Unit.{Unit as LibraryUnit}
use Rattle.ada_rules.specs.Plan.{Plan, ◌>>=◌, rule}
use Rattle.ada_rules.specs.Entities.{key, hidden, unit, Region}
use Rattle.ada_rules.specs.Environment.{Step, Interface, no_interface, package_interface, generic_interface, instance_interface, subprogram_interface, World, State, beginning_state, Given, Env}
use Rattle.ada_rules.specs.Denoted.{nowhere}
use Rattle.ada_rules.specs.Subprograms.{specified, declared_only, closed_by}
use Rattle.ada_rules.specs.Instances.{formals_declared, generic_named, formals_of, actuals_judged}
use Rattle.ada_rules.specs.Library.{Library, instance_number}
use Rattle.ada_rules.specs.Units.{generic_at, env_of, package_items, interface_with, Walked, at_unit, formals_in, in_specification, with_package, package_judged, with_instance, instance_judged, with_subprogram, library_routine, library_subprogram, seen_in, interface_judged, interface_at, all_interfaces, is_generic_interface, world_before, judged_in}
use Rattle.legal_laws.proofs.Passing.{answered, part_so, any_answer}
use Rattle.legal_programs.specs.Walked.{IsWalked}
use Rattle.legal_programs.proofs.Passed.{of_ok, is_walked}
use Rattle.legal_types.specs.TextGenerics.{shown_in}
use Rattle.legal_counts.specs.Seen.{IsInterfaceOf, AreInterfacesOf, shown_of}

none_some : {X : Type 0} {x : X} → None ≡ Some x → ⊥
none_some e = cc

-- a unit that is looked at
pub interface_set : (js : List Interface) (us : List LibraryUnit) (n : ℕ) (u : LibraryUnit) (j : Interface) → AreInterfacesOf js us → slice_get us n ≡ Some u
    → IsInterfaceOf j u.item → AreInterfacesOf (set js n j) us
interface_set [] [] zero u j h at is = tt
interface_set [] [] (suc n) u j h at is = tt
interface_set [] (v ∷ us) n u j h at is = absurd h
interface_set (k ∷ js) [] n u j h at is = absurd h
interface_set (k ∷ js) (v ∷ us) zero u j h at is =
    let same : u ≡ v = ap (λ o. unwrap_or o v) (sym at) in
    (subst (λ (w : LibraryUnit). IsInterfaceOf j w.item) same is, h.1)
interface_set (k ∷ js) (v ∷ us) (suc n) u j h at is = (h.0, interface_set js us n u j h.1 at is)

pub none_seen : (us : List LibraryUnit) → AreInterfacesOf (map (λ u. no_interface) us) us
none_seen [] = tt
none_seen (u ∷ us) = (tt, none_seen us)

-- what is seen with a number
abbrev pub IsInterfaceAt : Interface → Option LibraryUnit → Type 0
IsInterfaceAt j None = j ≡ no_interface
IsInterfaceAt j (Some u) = IsInterfaceOf j u.item

pub seen_at : (js : List Interface) (us : List LibraryUnit) (n : ℕ) → AreInterfacesOf js us → IsInterfaceAt (unwrap_or (slice_get js n) no_interface) (slice_get us n)
seen_at [] [] zero h = refl
seen_at [] [] (suc n) h = refl
seen_at [] (u ∷ us) n h = absurd h
seen_at (j ∷ js) [] n h = absurd h
seen_at (j ∷ js) (u ∷ us) zero h = h.0
seen_at (j ∷ js) (u ∷ us) (suc n) h = seen_at js us n h.1

-- what is seen as a generic has formals
has_formals : {A : Type 0} (o : Option A) (n : ℕ) → is_some o ≡ true → generic_at o n ≡ Some n
has_formals None n h = absurd (let x : ⊥ = cc h in x)
has_formals (Some x) n h = refl

generic_item : (i : LibraryItem) (formals region : Region) (n : ℕ) → IsInterfaceOf (generic_interface formals region) i → shown_in n i ≡ Some n
generic_item (library.Package x) formals region n h = has_formals x.formals n h
generic_item (library.PackageBody b) formals region n h = absurd h
generic_item (library.Instance i) formals region n h = absurd h
generic_item (library.Subprogram b) formals region n h = absurd h

generic_unit : (o : Option LibraryUnit) (formals region : Region) (n : ℕ) → IsInterfaceAt (generic_interface formals region) o → shown_of n o ≡ Some n
generic_unit None formals region n h = absurd (let x : ⊥ = cc h in x)
generic_unit (Some u) formals region n h = generic_item u.item formals region n h

pub generic_shown : (j : Interface) (o : Option LibraryUnit) (n g : ℕ) → IsInterfaceAt j o → is_generic_interface j n ≡ Some g → shown_of n o ≡ Some g
generic_shown no_interface o n g h e = absurd (none_some e)
generic_shown (package_interface region) o n g h e = absurd (none_some e)
generic_shown (generic_interface formals region) o n g h e = generic_unit o formals region n h ∙ e
generic_shown (instance_interface x k actuals) o n g h e = absurd (none_some e)
generic_shown (subprogram_interface r) o n g h e = absurd (none_some e)

pub package_seen : (o : Option (List Formal)) (x : PackageSpecification) (formals region : Region) → x.formals ≡ o → IsInterfaceOf (interface_with o formals region) (library.Package x)
package_seen None x formals region e = e
package_seen (Some fs) x formals region e = ap is_some e

module _ (us : List LibraryUnit) where
  abbrev Keeps : World → Walked → Type 0
  Keeps w x = AreInterfacesOf w.interfaces us → AreInterfacesOf x.world.interfaces us

  module _ (n : ℕ) (u : LibraryUnit) (at : slice_get us n ≡ Some u) where
    subprogram_keeps : (env : Env) (s : State) (b : SubprogramBody) → u.item ≡ library.Subprogram b → IfOk (library_subprogram env s n b).answer (Keeps env.world)
    subprogram_keeps env s b e =
        answered (Keeps env.world) b.specification.pos _
        (part_so (λ q. Unit {0}) (Keeps env.world) (specified env (at_unit s) b.specification).answer
        (λ q. rule (Some (with_subprogram env.world n (library_routine env b q.value) (declared_only s q.next))))
        (any_answer (specified env (at_unit s) b.specification).answer)
        (λ q v h. let j = library_routine env b q.value in
        interface_set env.world.interfaces us n u j h at (subst (IsInterfaceOf j) (sym e) tt)))

    instance_keeps : (env : Env) (s : State) (p : Pos) (k : ℕ) (i : Instance) → u.item ≡ library.Instance i → IfOk (instance_judged env s p n k i).answer (Keeps env.world)
    instance_keeps env s p k i e =
        answered (Keeps env.world) p _
        (part_so (λ g. Unit {0}) (Keeps env.world) (generic_named env i.generic_name).answer
        (λ g. actuals_judged env (at_unit s) p k [] (formals_of env.world g) i.actuals
        >>= (λ actuals. rule (Some (with_instance env.world p n k i g actuals.value actuals.next))))
        (any_answer (generic_named env i.generic_name).answer)
        (λ g v. part_so (λ x. Unit {0}) (Keeps env.world) (actuals_judged env (at_unit s) p k [] (formals_of env.world g) i.actuals).answer
        (λ actuals. rule (Some (with_instance env.world p n k i g actuals.value actuals.next)))
        (any_answer (actuals_judged env (at_unit s) p k [] (formals_of env.world g) i.actuals).answer)
        (λ actuals z h. let j = instance_interface g k actuals.value in
        interface_set env.world.interfaces us n u j h at (subst (IsInterfaceOf j) (sym e) tt))))

    module _ (env : Env) (s : State) (p : Pos) (x : PackageSpecification) (e : u.item ≡ library.Package x) where
      abbrev end_in : Given Region → Given Region → Plan Walked
      end_in formals region = closed_by p x.name x.end_name >>= (λ end. rule (Some (with_package env n x formals.value region)))

      abbrev items_in : Given Region → Plan Walked
      items_in formals = package_items (in_specification env n x formals.value) formals.next p x.items >>= end_in formals

      package_keeps : IfOk (package_judged env s p n x).answer (Keeps env.world)
      package_keeps =
          answered (Keeps env.world) p _
          (part_so (λ g. Unit {0}) (Keeps env.world) (formals_declared (in_specification env n x []) (at_unit s) p 0 (formals_in x.formals)).answer items_in
          (any_answer (formals_declared (in_specification env n x []) (at_unit s) p 0 (formals_in x.formals)).answer)
          (λ formals v. part_so (λ g. Unit {0}) (Keeps env.world) (package_items (in_specification env n x formals.value) formals.next p x.items).answer (end_in formals)
          (any_answer (package_items (in_specification env n x formals.value) formals.next p x.items).answer)
          (λ region z. part_so (λ y. Unit {0}) (Keeps env.world) (closed_by p x.name x.end_name).answer
          (λ end. rule (Some (with_package env n x formals.value region))) (any_answer (closed_by p x.name x.end_name).answer)
          (λ end y h. let j = interface_with x.formals formals.value region.value in
          interface_set env.world.interfaces us n u j h at (subst (IsInterfaceOf j) (sym e) (package_seen x.formals x formals.value region.value refl))))))

module _ (step : Step) (l : Library) where
  interface_keeps : (w : World) (s : State) (n : ℕ) (u : LibraryUnit) (i : LibraryItem) → slice_get l.units n ≡ Some u → u.item ≡ i
      → IfOk (interface_judged step l w s n u i).answer (Keeps l.units w)
  interface_keeps w s n u (library.Subprogram b) at e = subprogram_keeps l.units n u at (env_of step w n (key b.specification.name) (seen_in w l u hidden)) s b e
  interface_keeps w s n u (library.Package x) at e = package_keeps l.units n u at (env_of step w n (key x.name) (seen_in w l u (unit n))) s u.item_pos x e
  interface_keeps w s n u (library.Instance i) at e =
      instance_keeps l.units n u at (env_of step w n (key i.name) (seen_in w l u hidden)) s u.item_pos (instance_number n l.units) i e
  interface_keeps w s n u (library.PackageBody b) at e = λ h. h

  interface_at_keeps : (x : Walked) (n : ℕ) (o : Option LibraryUnit) → slice_get l.units n ≡ o → IfOk (interface_at step l x n o).answer (Keeps l.units x.world)
  interface_at_keeps x n None at = λ h. h
  interface_at_keeps x n (Some u) at =
      answered (Keeps l.units x.world) u.pos _
      (part_so (Keeps l.units x.world) (Keeps l.units x.world) (interface_judged step l x.world x.next n u u.item).answer
      (λ y. rule (Some y)) (interface_keeps x.world x.next n u u.item at refl) (λ y k. k))

  interfaces_keep : (x : Walked) (ns : List ℕ) → IfOk (all_interfaces step l x ns).answer (Keeps l.units x.world)
  interfaces_keep x [] = λ h. h
  interfaces_keep x (n ∷ ns) =
      answered (Keeps l.units x.world) nowhere _
      (part_so (Keeps l.units x.world) (Keeps l.units x.world) (interface_at step l x n (slice_get l.units n)).answer
      (λ y. all_interfaces step l y ns >>= (λ rest. rule (Some rest)))
      (interface_at_keeps x n (slice_get l.units n) refl)
      (λ y h. part_so (Keeps l.units y.world) (Keeps l.units x.world) (all_interfaces step l y ns).answer (λ rest. rule (Some rest))
      (interfaces_keep y ns)
      (λ rest k before. k (h before))))

-- behind the walk over what other units see, and behind the whole walk
pub interfaces_seen : (step : Step) (l : Library) (x : Walked) → (all_interfaces step l (record { world = world_before l; next = beginning_state }) l.order).answer ≡ Ok x
    → AreInterfacesOf x.world.interfaces l.units
interfaces_seen step l x h =
    of_ok (Keeps l.units (world_before l)) (all_interfaces step l (record { world = world_before l; next = beginning_state }) l.order).answer x h
    (interfaces_keep step l (record { world = world_before l; next = beginning_state }) l.order) (none_seen l.units)

pub walked_seen : (step : Step) (l : Library) (main : List ℕ) (x : Walked) → IsWalked step l main x → AreInterfacesOf x.world.interfaces l.units
walked_seen step l main x walk =
    subst (λ (w : World). AreInterfacesOf w.interfaces l.units) (sym walk.world) (interfaces_seen step l walk.seen walk.interfaces)

pub units_seen : (step : Step) (l : Library) (main : List ℕ) (x : Walked) → (judged_in step l main).answer ≡ Ok x → AreInterfacesOf x.world.interfaces l.units
units_seen step l main x h = walked_seen step l main x (is_walked step l main x h)
