-- Over all units of a library: nothing looks further than what was declared before, and instances have the values of constants.
use Rattle.std.proofs.Common.{◌≡◌, ◌+◌, ℕ, zero, suc, Bool, true, false, if◌then◌else◌, List, [], ◌∷◌, ◌++◌, map, length, Option, Some, None, IfOk, slice_get, is_some, refl, sym, ap, subst, inl}
use Rattle.std.specs.Prelude.{unwrap_or}
use Rattle.cov_base.specs.Lists.{Everywhere}
use Rattle.cov_base.specs.declared.position.Pos.{Pos}
use Rattle.ada_syntax.specs.declared.unit.LibraryItem.{LibraryItem}
use Rattle.ada_syntax.specs.declared.unit.LibraryItem.TheVariants as library
use Rattle.ada_syntax.specs.declared.unit.PackageBody.{PackageBody}
use Rattle.ada_syntax.specs.declared.unit.SubprogramBody.{SubprogramBody}
use Rattle.ada_syntax.specs.declared.unit.Unit.{Unit as LibraryUnit}
use Rattle.ada_meaning.specs.Program.{GenericConstant}
use Rattle.ada_rules.specs.Denoted.{nowhere}
use Rattle.ada_rules.specs.Entities.{key, hidden, unit, Region, whole_standard}
use Rattle.ada_rules.specs.Environment.{typing, Interface, no_interface, package_interface, generic_interface, instance_interface, subprogram_interface, World, interface_of, State, beginning_state, Env}
use Rattle.ada_rules.specs.Library.{Library, is_instance, instance_number, unit_named, bodies_of_item, library_of}
use Rattle.ada_rules.specs.Plan.{◌>>=◌, rule}
use Rattle.ada_rules.specs.Subprograms.{specified, body_judged, closed_by}
use Rattle.ada_rules.specs.Units.{env_of, Walked, at_unit, behind_unit, seen_in, interface_judged, interface_at, all_interfaces, region_of, is_generic_interface, withs_of, seen_in_body, in_body, body_items, package_body, package_body_of, library_body, routine_entity, bodies_judged, all_bodies_judged, facts_before, world_before}
use Rattle.legal_laws.proofs.Passing.{answered, part_so, any_answer, both_ok, weaker_ok}
use Rattle.legal_programs.specs.Growing.{AddsBodies}
use Rattle.legal_programs.specs.Homes.{HasHome}
use Rattle.legal_programs.proofs.ExtendingUnits.{bodies_adds}
use Rattle.legal_programs.proofs.FactsInBase.{before_in_base}
use Rattle.legal_programs.proofs.FactsCounted.{count_before}
use Rattle.legal_instances.specs.Within.{Made, count_in, had_by, AreConstantsWithin, IsEntityWithin, IsRegionWithin, IsHere, Goes, own_of, IsInterfaceWithin, IsWorldWithin}
use Rattle.legal_instances.specs.Ordered.{HaveSameItems}
use Rattle.legal_instances.proofs.KeptInterfaces.{StandOnce, same_so}
use Rattle.legal_instances.proofs.Sums.{same_both}
use Rattle.legal_instances.proofs.KeptWalk.{is_instance_there, with_instance_unit, instances_among}
use Rattle.legal_instances.proofs.WithinBodies.{RegionSo, ProfileSo, specified_so, body_so, body_items_so}
use Rattle.legal_instances.proofs.WithinStatics.{GivesSo}
use Rattle.legal_instances.proofs.WithinUnits.{made_by, IsReady, Stepped, package_stepped, library_stepped, body_stepped, ready_next}
use Rattle.legal_instances.proofs.WithinInstances.{instance_stepped}
use Rattle.legal_instances.proofs.WithinWorld.{seen_more_so, seen_in_so, unit_here, package_here, world_longer}

-- what other units see
module _ (l : Library) where
  abbrev Ready : List ℕ → List ℕ → Walked → Type 0
  Ready ks ns x = IsReady l.units ks ns x

  module _ (ks ns : List ℕ) (n : ℕ) (once : StandOnce (n ∷ ns)) (w : World) (s : State) (ready : IsReady l.units ks (n ∷ ns) (record { world = w; next = s })) where
    abbrev had : Made
    had = made_by l.units ks w.instances

    fresh_here : interface_of w n ≡ no_interface
    fresh_here = ready.fresh n (inl refl)

    after_step : (y : Walked) → Stepped had w s n y → Ready ks ns y
    after_step y st = ready_next l.units ks ns w s n y once ready st

    interface_ready : (u : LibraryUnit) (i : LibraryItem) → slice_get l.units n ≡ Some u → u.item ≡ i
        → IfOk (interface_judged typing l w s n u i).answer (Ready (with_instance_unit n (is_instance i) ks) ns)
    interface_ready u (library.Package x) there e =
        weaker_ok (Stepped had w s n) (Ready ks ns) (interface_judged typing l w s n u (library.Package x)).answer
        (package_stepped had w s ready.world n fresh_here (key x.name) (seen_in w l u (unit n)) u.item_pos x
        (seen_in_so had w s.constants_declared ready.world l u (unit n) tt)) after_step
    interface_ready u (library.Instance i) there e =
        instance_stepped l.units ks ns n (record { unit = u; there = there; is = ap is_instance e }) once w s ready (key i.name) (seen_in w l u hidden) u.item_pos i refl
        (seen_in_so had w s.constants_declared ready.world l u hidden tt)
    interface_ready u (library.Subprogram b) there e =
        weaker_ok (Stepped had w s n) (Ready ks ns) (interface_judged typing l w s n u (library.Subprogram b)).answer
        (library_stepped had w s ready.world n fresh_here (key b.specification.name) (seen_in w l u hidden) b
        (seen_in_so had w s.constants_declared ready.world l u hidden tt)) after_step
    interface_ready u (library.PackageBody b) there e = after_step (record { world = w; next = s }) (body_stepped had w s ready.world n fresh_here)

  interface_at_ready : (ks ns : List ℕ) (n : ℕ) → StandOnce (n ∷ ns) → (x : Walked) → IsReady l.units ks (n ∷ ns) x → (o : Option LibraryUnit) → slice_get l.units n ≡ o
      → IfOk (interface_at typing l x n o).answer (Ready (with_instance_unit n (is_instance_there o) ks) ns)
  interface_at_ready ks ns n once x ready None there =
      ready_next l.units ks ns x.world x.next n x once ready (body_stepped (made_by l.units ks x.world.instances) x.world x.next ready.world n (ready.fresh n (inl refl)))
  interface_at_ready ks ns n once x ready (Some u) there =
      answered (Ready (with_instance_unit n (is_instance u.item) ks) ns) u.pos _
      (part_so (Ready (with_instance_unit n (is_instance u.item) ks) ns) (Ready (with_instance_unit n (is_instance u.item) ks) ns)
      (interface_judged typing l x.world x.next n u u.item).answer (λ y. rule (Some y))
      (interface_ready ks ns n once x.world x.next ready u u.item there refl) (λ y h. h))

  pub record IsAllReady (ns ks : List ℕ) (y : Walked) : Type 0 where
    pub keys : List ℕ
    pub same : HaveSameItems keys (instances_among l.units ns ++ ks)
    pub ready : IsReady l.units keys [] y

  pub interfaces_ready : (ks ns : List ℕ) → StandOnce ns → (x : Walked) → IsReady l.units ks ns x → IfOk (all_interfaces typing l x ns).answer (IsAllReady ns ks)
  interfaces_ready ks [] once x ready = record { keys = ks; same = λ weight. refl; ready = ready }
  interfaces_ready ks (n ∷ ns) once x ready =
      let b = is_instance_there (slice_get l.units n) in
      answered (IsAllReady (n ∷ ns) ks) nowhere _
      (part_so (Ready (with_instance_unit n b ks) ns) (IsAllReady (n ∷ ns) ks) (interface_at typing l x n (slice_get l.units n)).answer
      (λ y. all_interfaces typing l y ns >>= (λ rest. rule (Some rest)))
      (interface_at_ready ks ns n once x ready (slice_get l.units n) refl)
      (λ y h. part_so (IsAllReady ns (with_instance_unit n b ks)) (IsAllReady (n ∷ ns) ks) (all_interfaces typing l y ns).answer (λ rest. rule (Some rest))
      (interfaces_ready (with_instance_unit n b ks) ns once.1 y h)
      (λ rest r. record {
        keys = r.keys;
        same = same_both r.keys (instances_among l.units ns ++ with_instance_unit n b ks) (with_instance_unit n b (instances_among l.units ns) ++ ks)
            r.same (same_so l b n (instances_among l.units ns) ks);
        ready = r.ready;
      })))

-- before any unit
no_interface_yet : (us : List LibraryUnit) (m : ℕ) → unwrap_or (slice_get (map (λ u. no_interface) us) m) no_interface ≡ no_interface
no_interface_yet [] zero = refl
no_interface_yet [] (suc m) = refl
no_interface_yet (u ∷ us) zero = refl
no_interface_yet (u ∷ us) (suc m) = no_interface_yet us m

none_before : (count : ℕ) (us : List LibraryUnit) (j : ℕ) → count_in (slice_get (facts_before count us) j) ≡ 0
none_before count [] zero = refl
none_before count [] (suc j) = refl
none_before count (u ∷ us) j = by_test (is_instance u.item) j (none_before count us)
  where
    by_test : (b : Bool) (j : ℕ) → ((k : ℕ) → count_in (slice_get (facts_before count us) k) ≡ 0)
        → count_in (slice_get (if b then record { generic = count; formals = []; constants = [] } ∷ facts_before count us else facts_before count us) j) ≡ 0
    by_test true zero rest = refl
    by_test true (suc k) rest = rest k
    by_test false k rest = rest k

had_none : (count : ℕ) (us : List LibraryUnit) (j : ℕ) → had_by (facts_before count us) j ≡ 0
had_none count us zero = refl
had_none count us (suc j) = none_before count us j

pub ready_at_first : (us : List LibraryUnit) (ns : List ℕ) → IsReady us [] ns (record { world = world_before (library_of whole_standard us); next = beginning_state })
ready_at_first us ns = record {
  made = record { kept = tt; counted = count_before (length us) us };
  world = record {
    interfaces = λ m. subst (IsInterfaceWithin first_made first_world [] m) (sym (no_interface_yet us m)) tt;
    constants = tt;
    predefined = (((tt, tt), tt), (((tt, tt), tt), (((tt, tt), tt), (((tt, tt), tt), (tt, (tt, (tt, (tt, (tt, tt)))))))));
    test_io = (tt, (record { parameters = (((tt, tt), tt), tt); result = tt }, (record { parameters = (((tt, tt), tt), tt); result = tt }, tt)));
  };
  valued = tt;
  fresh = λ m there. no_interface_yet us m;
  unmade = λ m there at. had_none (length us) us (instance_number m us);
  apart = λ m there h. h;
  base = before_in_base (length us) us;
  formed = tt;
}
  where
    first_world : World
    first_world = world_before (library_of whole_standard us)

    first_made : Made
    first_made = made_by us [] first_world.instances

-- bodies
module _ (had : Made) (l : Library) (w : World) where
  abbrev Whole : State → Type 0
  Whole s = IsWorldWithin had w s.constants_declared

  body_region : (cs : List GenericConstant) (n : ℕ) (i : Interface) → IsInterfaceWithin had w cs n i
      → IsRegionWithin had (is_some (is_generic_interface i n)) (own_of (is_generic_interface i n) cs) (region_of i)
  body_region cs n no_interface h = tt
  body_region cs n (package_interface region) h = h
  body_region cs n (generic_interface formals region) h = h.1
  body_region cs n (instance_interface o k actuals) h = tt
  body_region cs n (subprogram_interface r) h = tt

  package_so : (s : State) (m n : ℕ) (name : List ℕ) (region : Region) (p : Pos) (b : PackageBody) → Whole s → IsRegionWithin had false 0 region
      → IfOk (package_body (env_of typing w m name region) s p n b).answer (λ t. AreConstantsWithin had t.constants_declared)
  package_so s m n name region p b is h =
      answered Within p _
      (part_so (GivesSo had g (RegionSo had g) (at_unit s)) Within (body_items (in_body (env_of typing w m name region) n (interface_of w n) (region_of (interface_of w n))) (at_unit s) p b.items).answer
      (λ own. closed_by p b.name b.end_name >>= (λ end. rule (Some (behind_unit (in_body (env_of typing w m name region) n (interface_of w n) []) n own.next))))
      (body_items_so had (in_body (env_of typing w m name region) n (interface_of w n) (region_of (interface_of w n))) (at_unit s) p b.items
      (package_here had w s.constants_declared is g m n name region (region_of (interface_of w n)) (at_unit s) refl h
      (body_region s.constants_declared n (interface_of w n) (is.interfaces n))))
      (λ own r. part_so (λ u. Unit {0}) Within (closed_by p b.name b.end_name).answer
      (λ end. rule (Some (behind_unit (in_body (env_of typing w m name region) n (interface_of w n) []) n own.next))) (any_answer (closed_by p b.name b.end_name).answer)
      (λ end u. r.goes.constants)))
    where
      g : Option ℕ
      g = is_generic_interface (interface_of w n) n

      Within : State → Type 0
      Within t = AreConstantsWithin had t.constants_declared

  subprogram_so : (s : State) (m : ℕ) (name : List ℕ) (region : Region) (b : SubprogramBody) → Whole s → IsRegionWithin had false 0 region
      → IfOk (library_body (env_of typing w m name region) s b).answer (λ t. AreConstantsWithin had t.constants_declared)
  subprogram_so s m name region b is h =
      answered Within b.specification.pos _
      (part_so (GivesSo had None (ProfileSo had None) (at_unit s)) Within (specified env (at_unit s) b.specification).answer
      (λ q. body_judged env s b [] [] q >>= (λ next. rule (Some next))) (specified_so had env (at_unit s) b.specification here)
      (λ q k. part_so (Goes had None (at_unit s)) Within (body_judged env s b [] [] q).answer (λ next. rule (Some next))
      (body_so had env (at_unit s) s b [] [] q here k tt) (λ t g. g.constants)))
    where
      env : Env
      env = record (env_of typing w m name region) { is_library = false }

      Within : State → Type 0
      Within t = AreConstantsWithin had t.constants_declared

      here : IsHere had env (at_unit s)
      here =
          let there = unit_here had w s.constants_declared is m name region (at_unit s) refl h in
          record {
            place = record {
              step = there.place.step;
              regions = there.place.regions;
              own_region = there.place.own_region;
              units = there.place.units;
              test_io = there.place.test_io;
            };
            constants = there.constants;
          }

  body_of_so : (s : State) (m : ℕ) (u : LibraryUnit) (b : PackageBody) (o : Option ℕ) → Whole s
      → IfOk (package_body_of typing l w s m u b o).answer (λ t. AreConstantsWithin had t.constants_declared)
  body_of_so s m u b None is = is.constants
  body_of_so s m u b (Some n) is =
      package_so s m n (key b.name) (seen_in_body w l n u) u.item_pos b is
      (seen_more_so had w s.constants_declared is l (withs_of (slice_get l.units n)) (seen_in w l u (unit n)) (seen_in_so had w s.constants_declared is l u (unit n) tt))

  routine_within : (cs : List GenericConstant) (n : ℕ) (i : Interface) → IsInterfaceWithin had w cs n i → IsEntityWithin had false 0 (routine_entity i)
  routine_within cs n no_interface h = tt
  routine_within cs n (package_interface region) h = tt
  routine_within cs n (generic_interface formals region) h = tt
  routine_within cs n (instance_interface o k actuals) h = tt
  routine_within cs n (subprogram_interface r) h = h

  bodies_so : (s : State) (n : ℕ) (u : LibraryUnit) (i : LibraryItem) → Whole s → IfOk (bodies_judged typing l w s n u i).answer (λ t. AreConstantsWithin had t.constants_declared)
  bodies_so s n u (library.PackageBody b) is = body_of_so s n u b (unit_named l.names (key b.name)) is
  bodies_so s n u (library.Subprogram b) is =
      subprogram_so s n (key b.specification.name) (seen_in w l u (routine_entity (interface_of w n))) b is
      (seen_in_so had w s.constants_declared is l u (routine_entity (interface_of w n)) (routine_within s.constants_declared n (interface_of w n) (is.interfaces n)))
  bodies_so s n u (library.Package x) is = is.constants
  bodies_so s n u (library.Instance i) is = is.constants

  abbrev Within : State → Type 0
  Within t = AreConstantsWithin had t.constants_declared

  abbrev Both : State → LibraryUnit → State → Type 0
  Both s u t = AddsBodies (length (bodies_of_item u.item)) s t × Within t

  pub all_bodies_so : (s : State) (n : ℕ) (us : List LibraryUnit) → Everywhere (λ u. HasHome l u.item) us → Whole s
      → IfOk (all_bodies_judged typing l w s n us).answer Within
  all_bodies_so s n [] homes is = is.constants
  all_bodies_so s n (u ∷ us) homes is =
      answered Within nowhere _
      (part_so (Both s u) Within _
      (λ x. all_bodies_judged typing l w x (n + 1) us >>= (λ rest. rule (Some rest)))
      (answered (Both s u) u.pos _
      (part_so (Both s u) (Both s u)
      (bodies_judged typing l w s n u u.item).answer (λ y. rule (Some y))
      (both_ok (AddsBodies (length (bodies_of_item u.item)) s) Within (bodies_judged typing l w s n u u.item).answer
      (bodies_adds typing l w s n u u.item homes.0) (bodies_so s n u u.item is)) (λ y k. k)))
      (λ x k. part_so Within Within (all_bodies_judged typing l w x (n + 1) us).answer
      (λ rest. rule (Some rest))
      (all_bodies_so x (n + 1) us homes.1 (world_longer had w s.constants_declared x.constants_declared k.0.extends.constants k.1 is)) (λ rest r. r)))
