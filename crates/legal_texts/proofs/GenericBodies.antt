-- In each instance in which their text stands the bodies of a legal program are well-formed subprograms, and the objects of the library level are well-formed.
use Rattle.std.proofs.Common.{◌≡◌, ◌≤◌, ◌+◌, ℕ, false, List, [], ◌∷◌, ◌++◌, length, Option, Some, None, IfSome, Ok, slice_get, refl, sym, ap, ◌∙◌, subst, arith, inl, inr}
use Rattle.std.specs.Option.{is_some}
use Rattle.std.specs.Prelude.{◌⊎◌, if◌then◌else◌}
use Rattle.ada_syntax.specs.declared.unit.LibraryItem.{LibraryItem}
use Rattle.ada_syntax.specs.declared.unit.LibraryItem.TheVariants as library
use Rattle.ada_syntax.specs.declared.unit.PackageBody.{PackageBody}
use Rattle.ada_syntax.specs.declared.unit.SubprogramBody.{SubprogramBody}
use Rattle.ada_syntax.specs.declared.unit.Unit.{Unit as LibraryUnit}
use Rattle.ada_meaning.specs.Bodies.{StandsIn}
use Rattle.ada_meaning.specs.Declared.{object_shape}
use Rattle.ada_meaning.specs.Program.{LibraryObject, Subprogram, Program}
use Rattle.ada_meaning.specs.Types.{here, of_instance}
use Rattle.ada_meaning.specs.WellFormed.{StartSees, most_parameters}
use Rattle.ada_rules.specs.Types.{AdaType, declared_in, identity_of}
use Rattle.ada_rules.specs.Entities.{key, Region, unit, whole_standard}
use Rattle.ada_rules.specs.Environment.{typing, Interface, no_interface, package_interface, generic_interface, instance_interface, subprogram_interface, World, interface_of, entity_of_interface, State, beginning_state, Env, opened, owner_of}
use Rattle.ada_rules.specs.Library.{Library, item_name, clause_names, unit_named, body_names, bodies_of_item, all_bodies}
use Rattle.ada_rules.specs.Statics.{Facts}
use Rattle.ada_rules.specs.Subprograms.{specified, body_judged, place_among}
use Rattle.ada_rules.specs.Units.{env_of, in_body, at_unit, is_generic_interface, region_of, withs_of, seen_in, seen_in_body, subprogram_body, routine_entity, body_items, bodies_judged, all_interfaces, world_before}
use Rattle.legal_laws.specs.Known.{AreApart, IsEntity, IsOneOf, IsRegion, IsEnv}
use Rattle.legal_laws.specs.Served.{IsFormed}
use Rattle.legal_laws.specs.Standing.{Stands}
use Rattle.legal_laws.specs.Valued.{AreFactsOf}
use Rattle.legal_laws.proofs.Passing.{every_so}
use Rattle.legal_laws.proofs.UnitBodies.{LastIsFormed, subprogram_known}
use Rattle.legal_programs.specs.Deciding.{IsWholeEnv}
use Rattle.legal_programs.specs.Final.{IsServed}
use Rattle.legal_programs.specs.Growing.{Extends}
use Rattle.legal_programs.specs.Homes.{IsThere, HasHome}
use Rattle.legal_programs.specs.Walked.{IsLegal}
use Rattle.legal_programs.specs.WholeWorld.{IsWholeStandard, IsWholeWorld}
use Rattle.legal_programs.proofs.Counted.{states_of}
use Rattle.legal_programs.proofs.DecidedPrograms.{whole_is_whole, none_declared}
use Rattle.legal_programs.proofs.DecidedUnits.{every_at, Seen, interfaces_seen, interface_whole, seen_more_whole, env_whole, package_env_whole, region_whole}
use Rattle.legal_programs.proofs.Extending.{extends_same}
use Rattle.legal_programs.proofs.FactsInBase.{seen_in_base}
use Rattle.legal_programs.proofs.Finals.{none_exceeded}
use Rattle.legal_programs.proofs.Headings.{are_headed, have_homes}
use Rattle.legal_programs.proofs.Passed.{of_ok, passed_rule}
use Rattle.legal_instances.specs.Ordered.{IsWholeOrder}
use Rattle.legal_instances.proofs.InstanceNumbers.{number_positive}
use Rattle.legal_texts.specs.UnitTexts.{IsItemText, AreUnitTexts}
use Rattle.legal_texts.proofs.AnywhereKnown.{shapes, Sees, anywhere_there, library_there, package_there, unit_there}
use Rattle.legal_texts.proofs.BackedPackages.{told_final, place_told}
use Rattle.legal_texts.proofs.BodyCounts.{body_items_count}
use Rattle.legal_texts.proofs.BodyNumbers.{bodies_numbered, of_unit, HasBodies}
use Rattle.legal_texts.proofs.BodyWalk.{IsAtBody, bodies_known}
use Rattle.legal_texts.proofs.FormedPrograms.{typed_count}
use Rattle.legal_texts.proofs.InterfaceWalk.{same_some}
use Rattle.legal_texts.proofs.Kept.{IsKept}
use Rattle.legal_texts.proofs.KeptBodies.{IsShort, specified_short, judged_kept}
use Rattle.legal_texts.proofs.KeptUnits.{subprogram_body_keeps}
use Rattle.legal_texts.proofs.KnownObjects.{ObjectsAt, FormedAt, objects_each, subprograms_each}
use Rattle.legal_texts.proofs.UnitParts.{IsPackageItem, unbehind, unit_in}
use Rattle.legal_texts.proofs.LibraryBodies.{body_env, body_at}
use Rattle.legal_texts.proofs.OfText.{TextAdded, bodies_of_text}
use Rattle.legal_texts.proofs.OneOf.{in_first, in_either, one_so}
use Rattle.legal_texts.proofs.PackageItems.{no_subprogram, alone_there}
use Rattle.legal_texts.proofs.PackageNumbers.{body_in, number_in_unit}
use Rattle.legal_texts.proofs.PackageTexts.{ArePlaced, items_left}
use Rattle.legal_texts.proofs.SeenTypes.{IsOwnedIdentity, IsWorldType, IsOfText, apart_joined}
use Rattle.legal_texts.proofs.SeenWorlds.{IsHome, IsSeenSo}
use Rattle.legal_texts.proofs.UnitCounts.{Count}
use Rattle.legal_texts.proofs.UnitPlaces.{bodies_before}
use Rattle.legal_texts.proofs.VisitedInstances.{IsTextKnown}
use Rattle.legal_texts.proofs.VisitedUnits.{IsPackageWalked, package_walked, counted_next, home_of}
use Rattle.legal_texts.proofs.WaitingBodies.{AreExpected}

-- objects of the texts that stand in an instance
objects_of : (p : Program) (i : ℕ) (os : List LibraryObject) → ((g : Option ℕ) → StandsIn p g i → ObjectsAt p i os) → ObjectsAt p i os
objects_of p i [] h = tt
objects_of p i (x ∷ os) h = ((λ stands. (h x.generic stands).0 stands), objects_of p i os (λ g stands. (h g stands).1))

module _ (l : Library) (main : List ℕ) (p : Program) (legal : IsLegal l main p) (of_facts : AreFactsOf p legal.walked.world.instances)
    (in_order : IsWholeOrder l) (standard_is : l.standard ≡ whole_standard) (texts : AreUnitTexts l.units)
    (served : (o : Option ℕ) (inst : ℕ) → StandsIn p o inst → (s : State) → Extends s legal.walked.next → IsServed legal.walked.world.instances p o inst s)
    (seen : IsSeenSo l main p legal legal.walk.seen)
    (text_known : (g k : ℕ) → StandsIn p (Some g) k → IsTextKnown l main p legal seen.types g k) where
  abbrev final : World
  final = legal.walk.seen.world

  abbrev last : State
  last = legal.walked.next

  abbrev facts : List Facts
  facts = legal.walked.world.instances

  -- what a walk leaves, in each instance
  pub record IsLeft (s : State) : Type 0 where
    pub words : s.words ≡ []
    pub counted : s.objects ≡ length s.words
    pub formed : (i : ℕ) → FormedAt p i s.subprograms
    pub objects : (i : ℕ) → ObjectsAt p i s.objects_declared

  whole : IsWholeWorld final
  whole =
      let standard : IsWholeStandard l.standard = subst IsWholeStandard (sym standard_is) whole_is_whole in
      (of_ok (λ y. Seen beginning_state y) (all_interfaces typing l (record { world = world_before l; next = beginning_state }) l.order).answer legal.walk.seen
      legal.walk.interfaces
      (interfaces_seen l (record { world = world_before l; next = beginning_state }) l.order (record { standard = standard; interfaces = none_declared l.units }))).1

  text_at : (n : ℕ) (u : LibraryUnit) → slice_get l.units n ≡ Some u → IsItemText u.item
  text_at n u there = subst (λ o. IfSome o (λ v. IsItemText v.item)) there (every_at (λ v. IsItemText v.item) l.units n texts)

  -- the types of the library level are of no unit that is no package
  not_of_unit : (n : ℕ) (u : LibraryUnit) → slice_get l.units n ≡ Some u → (IsPackageItem u.item → ⊥) → (g : Option ℕ) (t : AdaType) → IsOneOf seen.types t → (j : ℕ)
      → identity_of t ≡ declared_in (if is_some g then here else of_instance 0) n j → ⊥
  not_of_unit n u there no_package (Some g) t known j e = subst IsOwnedIdentity e (one_so IsWorldType seen.types seen.owned t known).1
  not_of_unit n u there no_package None t known j e = of_home (seen.homes t known 0 n j e)
    where
      of_home : IsHome l main p legal final 0 n → ⊥
      of_home (inl home) = no_package (subst IsPackageItem (ap (λ (v : LibraryUnit). v.item) (same_some (sym home.1.there ∙ there))) home.1.package_item)
      of_home (inr made) =
          let positive = number_positive made.unit l.units in
          let none = made.number in
          omega (arith, positive, none)

  -- where the body of a library subprogram stands
  module _ (s : State) (n : ℕ) (u : LibraryUnit) (b : SubprogramBody) (item : u.item ≡ library.Subprogram b) (there : slice_get l.units n ≡ Some u) (sub : Subprogram) where
    routine_there : (i : Interface) → IsEntity p 0 (IsOneOf seen.types) (object_shape p 0 sub) (StartSees p 0 sub) (entity_of_interface n i)
        → IsEntity p 0 (IsOneOf seen.types) (object_shape p 0 sub) (StartSees p 0 sub) (routine_entity i)
    routine_there no_interface h = tt
    routine_there (package_interface region) h = tt
    routine_there (generic_interface formals region) h = tt
    routine_there (instance_interface g k actuals) h = tt
    routine_there (subprogram_interface r) h = h

    abbrev around : Env
    around = env_of typing final n (key b.specification.name) (seen_in final l u (routine_entity (interface_of final n)))

    around_known : IsEnv p 0 (IsOneOf seen.types) (object_shape p 0 sub) (StartSees p 0 sub) around
    around_known =
        unit_there p seen.types (IsOneOf seen.types) (λ t h. h) seen.integers seen.booleans final seen.standard seen.shows 0 sub n (key b.specification.name)
        (seen_in final l u (routine_entity (interface_of final n)))
        (library_there p seen.types (IsOneOf seen.types) (λ t h. h) seen.integers seen.booleans final seen.standard seen.shows 0 sub l (clause_names u.withs)
        ((key (item_name u.item), routine_entity (interface_of final n)) ∷ [])
        (routine_there (interface_of final n) (anywhere_there p seen.types 0 sub (entity_of_interface n (interface_of final n)) (seen.shows.units n)), tt))

    env_stands : s.objects ≡ length s.words
        → Stands p 0 (object_shape p 0 sub) (IsOneOf seen.types) (StartSees p 0 sub) (opened (body_env l final n u b)) (at_unit s)
    env_stands words = record {
      place = record {
        step = refl;
        integers = seen.integers;
        booleans = seen.booleans;
        regions = (tt, around_known.regions);
        own = tt;
        units = around_known.units;
        test_io = around_known.test_io;
      };
      world = seen_in_base l main p legal;
      apart = seen.apart;
      older = λ t j known e. absurd (not_of_unit n u there (λ is_package. subst IsPackageItem item is_package) None t known j e);
      counted = words;
      alone = λ e. refl;
    }

  subprogram_left : (s : State) (n : ℕ) (u : LibraryUnit) (t : State) (b : SubprogramBody) → u.item ≡ library.Subprogram b → IsItemText (library.Subprogram b)
      → IsAtBody l final last s n u t → (bodies_judged typing l final s n u (library.Subprogram b)).answer ≡ Ok t → IsLeft s → IsLeft t
  subprogram_left s n u t b item text at judged h =
      let env = body_env l final n u b in
      let body = body_at env refl b s t judged in
      let m = body.made in
      let kept = of_ok (IsKept false body.profile.next) (body_judged env s b [] [] body.profile).answer t body.judged (judged_kept env s b [] [] body.profile) in
      let short = of_ok (IsShort (at_unit s)) (specified env (at_unit s) b.specification).answer body.profile body.specifies (specified_short env (at_unit s) b.specification) in
      let few = short.few (kept.few at.few) in
      let count : length m.made.parameters ≡ length body.profile.value.parameters = sym (ap length m.parameters) ∙ typed_count 0 body.profile.value.parameters in
      let keeps = served None 0 refl t at.extends in
      let same = (of_ok (IsKept false s) (subprogram_body env s b).answer t judged (subprogram_body_keeps env s b)).objects refl in
      let formed : IsFormed p 0 m.made =
      of_ok (LastIsFormed p facts of_facts.0 of_facts.1 0 m.made (IsOneOf seen.types) None) (subprogram_body env s b).answer t judged
      (subprogram_known p facts of_facts.0 of_facts.1 0 m.made (IsOneOf seen.types) env s b text (subst (λ k. k ≤ most_parameters) (sym count) few)
      (env_stands s n u b item at.there m.made h.counted))
      s.subprograms m.is_made keeps.0 (keeps.1 (object_shape p 0 m.made)) in
      record {
        words = m.words ∙ h.words;
        counted = m.objects ∙ (h.counted ∙ ap length (sym m.words));
        formed = λ i. subst (FormedAt p i) (sym m.is_made)
            ((λ stands. let none : i ≡ 0 = subst (λ g. StandsIn p g i) m.stands stands in subst (λ k. IsFormed p k m.made) (sym none) formed), h.formed i);
        objects = λ i. subst (ObjectsAt p i) (sym same) (h.objects i);
      }

  -- the body of a package or a generic
  module _ (s : State) (n : ℕ) (u : LibraryUnit) (b : PackageBody) (item : u.item ≡ library.PackageBody b) (there : slice_get l.units n ≡ Some u) (m : ℕ) where
    abbrev outside : Env
    outside = env_of typing final n (key b.name) (seen_in_body final l m u)

    abbrev inside : Env
    inside = in_body outside m (interface_of final m) (region_of (interface_of final m))

    -- the generic in whose text it stands
    abbrev of_text : Option ℕ
    of_text = is_generic_interface (interface_of final m) m

    no_package : IsPackageItem u.item → ⊥
    no_package is_package = subst IsPackageItem item is_package

    inside_whole : IsWholeEnv inside
    inside_whole =
        package_env_whole outside (is_generic_interface (interface_of final m) m) m (region_of (interface_of final m))
        (env_whole final n (key b.name) (seen_in_body final l m u) whole
        (seen_more_whole final l (withs_of (slice_get l.units m)) (seen_in final l u (unit m))
        (seen_more_whole final l (clause_names u.withs) ((key (item_name u.item), unit m) ∷ []) (tt, tt))))
        (region_whole (interface_of final m) (interface_whole final m whole))

    inside_expected : AreExpected inside b.items
    inside_expected name k number =
        let found = number_in_unit l (are_headed l 0 l.units legal.walk.headings) n u there (subst (HasBodies l) (sym item) tt) name k
        (subst (λ i. place_among (key (item_name i)) name 0 (all_bodies l.units) ≡ Some k) (sym item) (ap (place_among (key b.name) name 0) (sym seen.names) ∙ number)) in
        inl (record {
          index = found.index;
          one = found.one;
          at = subst (λ i. slice_get (bodies_of_item i) found.index ≡ Some found.one) item found.is;
          same = found.name_is;
        })

    -- what is known in it in an instance in which it stands
    pub record IsKnownBody (inst : ℕ) : Type 0 where
      pub types : List AdaType
      pub among : (t : AdaType) → IsOneOf seen.types t → IsOneOf types t
      pub region : IsRegion p inst (IsOneOf types) (shapes p inst) (Sees p inst) (region_of (interface_of final m))
      pub apart : AreApart p (IsOneOf types)
      pub older : (t : AdaType) (j : ℕ) → IsOneOf types t → identity_of t ≡ declared_in (owner_of inside) n j → ⊥

    module _ (inst : ℕ) (stands : StandsIn p of_text inst) (known : IsKnownBody inst) where
      inside_placed : length s.subprograms ≡ bodies_before n l.units → ArePlaced l main p legal of_facts of_text inst stands (served of_text inst stands) inside (at_unit s) b.items
      inside_placed count j one at =
          let at_item : slice_get (bodies_of_item u.item) j ≡ Some one = subst (λ i. slice_get (bodies_of_item i) j ≡ Some one) (sym item) at in
          let package_is : one.package_name ≡ key b.name =
          subst (λ o. IfSome o (λ c. c.package_name ≡ key b.name)) at
          (every_at (λ c. c.package_name ≡ key b.name) (body_names (key b.name) b.items) j (of_unit (library.PackageBody b))) in
          ap (λ bs. place_among (key b.name) one.name 0 bs) seen.names
          ∙ (ap (λ name. place_among name one.name 0 (all_bodies l.units)) (sym package_is)
          ∙ (bodies_numbered l main p legal (bodies_before n l.units + j) one (body_in l.units n u j one there at_item) ∙ ap (λ k. Some (k + j)) (sym count)))

      inside_stands : s.objects ≡ length s.words
          → Stands p inst (object_shape p inst no_subprogram) (IsOneOf known.types) (StartSees p inst no_subprogram) inside (at_unit s)
      inside_stands words = record {
        place = package_there p seen.types (IsOneOf known.types) known.among seen.integers seen.booleans final seen.standard seen.shows inst no_subprogram n (key b.name)
            (seen_in_body final l m u) of_text m (region_of (interface_of final m))
            (library_there p seen.types (IsOneOf known.types) known.among seen.integers seen.booleans final seen.standard seen.shows inst no_subprogram l (withs_of (slice_get l.units m))
            (seen_in final l u (unit m))
            (library_there p seen.types (IsOneOf known.types) known.among seen.integers seen.booleans final seen.standard seen.shows inst no_subprogram l (clause_names u.withs)
            ((key (item_name u.item), unit m) ∷ []) (tt, tt)))
            known.region;
        world = seen_in_base l main p legal;
        apart = known.apart;
        older = λ t j is_one e. absurd (known.older t j is_one e);
        counted = words;
        alone = alone_there l main p legal of_facts of_text inst stands (served of_text inst stands) inside refl;
      }

      body_left : (t : State) → IsItemText (library.PackageBody b) → t.excesses ≡ [] → Extends t last → (w : IsPackageWalked l final n u m b (region_of (interface_of final m)) s t)
          → length s.subprograms ≡ bodies_before n l.units → IsLeft s → FormedAt p inst w.behind.next.subprograms × ObjectsAt p inst w.behind.next.objects_declared
      body_left t text none extends w count h =
          let more : Extends w.behind.next last =
          unbehind (in_body outside m (interface_of final m) []) m w.behind.next last (subst (λ (x : State). Extends x last) (sym w.same) extends) in
          let few : w.behind.next.excesses ≡ [] = ap (λ (x : State). x.excesses) w.same ∙ none in
          let left = items_left l main p legal of_facts of_text inst stands (served of_text inst stands) (IsOneOf known.types) (told_final l main p legal in_order standard_is).table inside
          (at_unit s) u.item_pos b.items w.behind (place_told l main p legal in_order standard_is n u b there item m (at_unit s)) inside_expected text w.is more few refl refl
          inside_whole (inside_stands h.counted) (inside_placed count)
          (record { words = h.words; counted = h.counted; formed = h.formed inst; objects = h.objects inst }) in
          (left.formed, left.objects)

    -- the text of a package is known in instance 0, and that of a generic in each of its instances
    alone_known : (i : Interface) → interface_of final m ≡ i → is_generic_interface i m ≡ None → IsRegion p 0 (IsOneOf seen.types) (shapes p 0) (Sees p 0) (region_of i) → IsKnownBody 0
    alone_known i is none region = record {
      types = seen.types;
      among = λ t h. h;
      region = subst (λ j. IsRegion p 0 (IsOneOf seen.types) (shapes p 0) (Sees p 0) (region_of j)) (sym is) region;
      apart = seen.apart;
      older = λ t j is_one e. not_of_unit n u there no_package of_text t is_one j e;
    }

    generic_known : (formals region : Region) → interface_of final m ≡ generic_interface formals region → (inst : ℕ) → StandsIn p (Some m) inst → IsKnownBody inst
    generic_known formals region is inst stands =
        let text = text_known m inst stands in
        let walked = seen.generics m formals region is in
        record {
          types = seen.types ++ text.new;
          among = λ t h. in_first seen.types text.new t h;
          region = subst (λ j. IsRegion p inst (IsOneOf (seen.types ++ text.new)) (shapes p inst) (Sees p inst) (region_of j)) (sym text.shows) text.known;
          apart = apart_joined p m seen.types text.new seen.apart text.apart
              (every_so IsWorldType (λ t. IsOwnedIdentity (identity_of t)) seen.types (λ t h. h.1) seen.owned) text.own;
          older = λ t j is_one e. of_either t j e (in_either seen.types text.new t is_one)
              (λ own. let same : m ≡ n = ap unit_in (sym (one_so (IsOfText m) text.new text.own t own).is ∙ e) in
              let home : walked.home ≡ u = same_some (sym walked.there ∙ (ap (slice_get l.units) same ∙ there)) in
              no_package (subst IsPackageItem (sym walked.item ∙ ap (λ (v : LibraryUnit). v.item) home) tt));
        }
      where
        of_either : (t : AdaType) (j : ℕ) → identity_of t ≡ declared_in (owner_of inside) n j → {own : Type 0} → IsOneOf seen.types t ⊎ own → (own → ⊥) → ⊥
        of_either t j e (inl old) never = not_of_unit n u there no_package of_text t old j e
        of_either t j e (inr new) never = never new

    body_known : (inst : ℕ) → StandsIn p of_text inst → IsKnownBody inst
    body_known inst stands = by_interface (interface_of final m) refl stands
      where
        at_zero : IsKnownBody 0 → inst ≡ 0 → IsKnownBody inst
        at_zero h none = subst IsKnownBody (sym none) h

        by_interface : (i : Interface) → interface_of final m ≡ i → StandsIn p (is_generic_interface i m) inst → IsKnownBody inst
        by_interface no_interface is none = at_zero (alone_known no_interface is refl tt) none
        by_interface (package_interface region) is none = at_zero (alone_known (package_interface region) is refl (seen.regions m region is)) none
        by_interface (generic_interface formals region) is there_too = generic_known formals region is inst there_too
        by_interface (instance_interface g k actuals) is none = at_zero (alone_known (instance_interface g k actuals) is refl tt) none
        by_interface (subprogram_interface r) is none = at_zero (alone_known (subprogram_interface r) is refl tt) none

    package_left : (t : State) → IsItemText (library.PackageBody b) → IsAtBody l final last s n u t → unit_named l.names (key b.name) ≡ Some m
        → (bodies_judged typing l final s n u (library.PackageBody b)).answer ≡ Ok t → length s.subprograms ≡ bodies_before n l.units → IsLeft s → IsLeft t
    package_left t text at named judged count h =
        let w = package_walked l final n u m b (region_of (interface_of final m)) s t named refl judged in
        let counts = of_ok (Count (at_unit s)) (body_items inside (at_unit s) u.item_pos b.items).answer w.behind w.is
        (body_items_count inside refl refl (at_unit s) u.item_pos b.items) in
        let added = of_ok (TextAdded of_text (at_unit s)) (body_items inside (at_unit s) u.item_pos b.items).answer w.behind w.is
        (bodies_of_text inside refl refl (at_unit s) u.item_pos b.items) in
        let there_left : (i : ℕ) → StandsIn p of_text i → FormedAt p i w.behind.next.subprograms × ObjectsAt p i w.behind.next.objects_declared =
        λ i stands. body_left i stands (body_known i stands) t text at.few at.extends w count h in
        subst IsLeft w.same
        (record {
          words = counts.0 ∙ h.words;
          counted = counts.1 h.counted;
          formed = λ i. subst (FormedAt p i) (sym added.subprograms.is)
              (subprograms_each p of_text added.subprograms.more s.subprograms added.subprograms.all h.formed
              (λ j stands. subst (FormedAt p j) added.subprograms.is (there_left j stands).0) i);
          objects = λ i. subst (ObjectsAt p i) (sym added.objects.is)
              (objects_each p of_text added.objects.more s.objects_declared added.objects.all h.objects
              (λ j stands. subst (ObjectsAt p j) added.objects.is (there_left j stands).1) i);
        })

  record AreLeft (n : ℕ) (s : State) : Type 0 where
    count : length s.subprograms ≡ bodies_before n l.units
    left : IsLeft s

  by_item : (s : State) (n : ℕ) (u : LibraryUnit) (t : State) (i : LibraryItem) → u.item ≡ i → IsItemText i → HasHome l i → IsAtBody l final last s n u t
      → (bodies_judged typing l final s n u i).answer ≡ Ok t → length s.subprograms ≡ bodies_before n l.units → IsLeft s → IsLeft t
  by_item s n u t (library.Subprogram b) item text home at judged count h = subprogram_left s n u t b item text at judged h
  by_item s n u t (library.Package x) item text home at judged count h = subst IsLeft (same_some (passed_rule u.pos (Some s) t judged)) h
  by_item s n u t (library.PackageBody b) item text home at judged count h = by_home (unit_named l.names (key b.name)) refl home
    where
      by_home : (o : Option ℕ) → unit_named l.names (key b.name) ≡ o → IsThere o → IsLeft t
      by_home None e k = absurd k
      by_home (Some m) e k = package_left s n u b item at.there m t text at e judged count h
  by_item s n u t (library.Instance x) item text home at judged count h = subst IsLeft (same_some (passed_rule u.pos (Some s) t judged)) h

  left_step : (s : State) (n : ℕ) (u : LibraryUnit) (t : State) → IsAtBody l final last s n u t → AreLeft n s → AreLeft (n + 1) t
  left_step s n u t at h = record {
    count = counted_next l main p legal s n u t at h.count;
    left = by_item s n u t u.item refl (text_at n u at.there) (home_of l main p legal n u at.there) at at.judged h.count h.left;
  }

  -- what the interfaces of units declare
  declared_objects : (i : ℕ) → ObjectsAt p i legal.walk.seen.next.objects_declared
  declared_objects i = objects_of p i legal.walk.seen.next.objects_declared known
    where
      known : (g : Option ℕ) → StandsIn p g i → ObjectsAt p i legal.walk.seen.next.objects_declared
      known None none = subst (λ k. ObjectsAt p k legal.walk.seen.next.objects_declared) (sym none) seen.objects
      known (Some g) stands = (text_known g i stands).objects

  all_bodies_left : IsLeft last
  all_bodies_left =
      let none = (states_of l main p legal).seen.subprograms in
      (bodies_known l final last AreLeft left_step legal.walk.seen.next 0 l.units last legal.walk.bodies
      (λ k. let same : 0 + k ≡ k = omega (arith) in ap (slice_get l.units) same) (have_homes l 0 l.units (are_headed l 0 l.units legal.walk.headings))
      (none_exceeded legal.walked.world last l.units legal.limited).places (extends_same last)
      (record {
        count = ap length none;
        left = record { words = seen.words; counted = seen.counted; formed = λ i. subst (FormedAt p i) (sym none) tt; objects = declared_objects };
      })).left

  pub all_left : (i : ℕ) → FormedAt p i last.subprograms × ObjectsAt p i last.objects_declared
  all_left i = (all_bodies_left.formed i, all_bodies_left.objects i)
