-- The step of the walk at a package: what it shows is known wherever it is seen, with the types that it declares.
use Rattle.std.proofs.Common.{◌≡◌, ℕ, List, [], ◌∷◌, ◌++◌, Some, None, IfSome, Ok, slice_get, refl, sym, ap, ◌∙◌, subst, inl, inr, arith}
use Rattle.std.specs.Prelude.{◌⊎◌}
use Rattle.cov_base.specs.Lists.{Everywhere}
use Rattle.ada_syntax.specs.declared.unit.LibraryItem.TheVariants as library
use Rattle.ada_syntax.specs.declared.unit.PackageSpecification.{PackageSpecification}
use Rattle.ada_syntax.specs.declared.unit.Unit.{Unit as LibraryUnit}
use Rattle.ada_meaning.specs.Program.{LibraryObject, Program}
use Rattle.ada_meaning.specs.Types.{of_instance}
use Rattle.ada_rules.specs.Entities.{key, unit, Region, entity_of, shown, whole_standard}
use Rattle.ada_rules.specs.Environment.{typing, Interface, no_interface, package_interface, World, interface_of, entity_of_interface, State, Given, Env}
use Rattle.ada_rules.specs.Expressions.{part_of_interface}
use Rattle.ada_rules.specs.Library.{Library, item_name, clause_names}
use Rattle.ada_rules.specs.Plan.{◌>>=◌, rule}
use Rattle.ada_rules.specs.Subprograms.{place_among, closed_by}
use Rattle.ada_rules.specs.Types.{declared_in, AdaType, identity_of}
use Rattle.ada_rules.specs.Units.{Walked, env_of, at_unit, generic_at, interface_with, package_items, package_judged, with_package, in_specification, seen_in, region_of}
use Rattle.legal_laws.specs.Known.{AreApart, IsOneOf, IsEntity, IsRegion}
use Rattle.legal_laws.specs.Standing.{AreOlder, Stands, with_types}
use Rattle.legal_laws.specs.Valued.{AreFactsOf}
use Rattle.legal_laws.proofs.Passing.{every_so, every_both}
use Rattle.legal_laws.proofs.Wider.{region_wider}
use Rattle.legal_programs.specs.Closed.{IsClosedEntity}
use Rattle.legal_programs.specs.Deciding.{IsWhole}
use Rattle.legal_programs.specs.Final.{IsServed}
use Rattle.legal_programs.specs.Growing.{Extends}
use Rattle.legal_programs.specs.Walked.{IsLegal}
use Rattle.legal_programs.proofs.Passed.{of_ok, passed_part, passed_rule}
use Rattle.legal_instances.specs.Ordered.{IsWholeOrder}
use Rattle.legal_texts.specs.UnitTexts.{IsPackageItemText}
use Rattle.legal_texts.proofs.AnywhereKnown.{shapes, Sees, IsAnywhere, ShowsClosed, unit_anywhere, library_there, package_there}
use Rattle.legal_texts.proofs.BackedPackages.{routine_backed}
use Rattle.legal_texts.proofs.BackedRoutines.{IsBackedAt}
use Rattle.legal_texts.proofs.InterfaceWalk.{IsAtUnit, same_some}
use Rattle.legal_texts.proofs.UnitParts.{entity_so, shown_so, unbehind, unit_in, IsPackageItem}
use Rattle.legal_texts.proofs.LibraryItems.{IsOfUnit}
use Rattle.legal_texts.proofs.NamesThere.{IsShownIn}
use Rattle.legal_texts.proofs.OfText.{objects_of_text, TextAdded}
use Rattle.legal_texts.proofs.OneOf.{in_first, in_either, one_so, to_joined, from_joined}
use Rattle.legal_texts.proofs.PackageItems.{no_subprogram, AreKnown}
use Rattle.legal_texts.proofs.SeenTypes.{IsWorldType, IsOwnedIdentity}
use Rattle.legal_texts.proofs.SeenWorlds.{IsOfTextOf, IsRooted, IsOfPackage, IsHome, IsSeenSo, IsStep, IsNewKnown, home_still, world_next}
use Rattle.legal_texts.proofs.SubprogramItems.{AreBacked, package_known}
use Rattle.legal_texts.proofs.SetInterfaces.{numbered_above, no_package_generic, no_package_instance, package_set, instance_in, both_parts, set_now, set_last, step_made, part_closed}

module _ (l : Library) (main : List ℕ) (p : Program) (legal : IsLegal l main p) where
  abbrev final : World
  final = legal.walk.seen.world

  abbrev last : State
  last = legal.walked.next

  -- a package
  module _ (of_facts : AreFactsOf p legal.walked.world.instances) (in_order : IsWholeOrder l) (standard_is : l.standard ≡ whole_standard)
      (served : (s : State) → Extends s last → IsServed legal.walked.world.instances p None 0 s) (closed : ShowsClosed final)
      (x : Walked) (n : ℕ) (u : LibraryUnit) (z : PackageSpecification) (item : u.item ≡ library.Package z) (no_formals : z.formals ≡ None)
      (items_texts : Everywhere IsPackageItemText z.items) (h : IsSeenSo l main p legal x) where
    abbrev outside : Env
    outside = env_of typing x.world n (key z.name) (seen_in x.world l u (unit n))

    abbrev bare : PackageSpecification
    bare = record z { formals = None }

    abbrev inside : Env
    inside = in_specification outside n bare []

    not_yet : interface_of x.world n ≡ no_interface → AreOlder (IsOneOf h.types) inside (at_unit x.next)
    not_yet fresh t k there_too e = absurd (never (h.homes t there_too 0 n k e))
      where
        never : IsHome l main p legal x.world 0 n → ⊥
        never (inl here_already) = here_already.1.is_set fresh
        never (inr made) = let above = numbered_above made.unit l.units in let none = made.number in omega (arith, above, none)

    inside_stands : interface_of x.world n ≡ no_interface → Stands p 0 (shapes p 0) (IsOneOf h.types) (Sees p 0) inside (at_unit x.next)
    inside_stands fresh = record {
      place = package_there p h.types (IsOneOf h.types) (λ t k. k) h.integers h.booleans x.world h.standard h.shows 0 no_subprogram n (key z.name)
          (seen_in x.world l u (unit n)) None n []
          (library_there p h.types (IsOneOf h.types) (λ t k. k) h.integers h.booleans x.world h.standard h.shows 0 no_subprogram l (clause_names u.withs)
          ((key (item_name u.item), unit n) ∷ []) (tt, tt)) tt;
      world = h.base;
      apart = h.apart;
      older = not_yet fresh;
      counted = h.counted;
      alone = λ e. refl;
    }

    module _ (region : Given Region) (at : IsAtUnit l final last x n u (with_package outside n bare [] region))
        (is : (package_items inside (at_unit x.next) u.item_pos z.items).answer ≡ Ok region)
        (k : AreKnown l main p legal of_facts None 0 refl served (IsOneOf h.types) inside region) where
      abbrev shows : Interface
      shows = package_interface region.value

      abbrev y : Walked
      y = with_package outside n bare [] region

      abbrev es : List AdaType
      es = h.types ++ k.new

      old : (t : AdaType) → IsOneOf h.types t → IsOneOf es t
      old t there = in_first h.types k.new t there

      set_is : interface_of y.world n ≡ shows
      set_is = set_now l main p legal x n u h shows y.next at

      -- its types
      type_known : (t : AdaType) → IsOfUnit inside t × IsShownIn t region.value → IsWorldType t
      type_known t e =
          let shown_mark = subst (λ o. IfSome (shown o) (λ v. IsWhole v × IsClosedEntity v)) e.1.has (part_closed l main p legal x n u h shows y.next at closed e.1.name) in
          (shown_mark.1.1, subst IsOwnedIdentity (sym e.0.is) tt)

      both_lists : (ts : List AdaType) → Everywhere (IsOfUnit inside) ts → Everywhere (λ t. IsShownIn t region.value) ts
          → Everywhere (λ t. IsOfUnit inside t × IsShownIn t region.value) ts
      both_lists [] a c = tt
      both_lists (t ∷ ts) a c = ((a.0, c.0), both_lists ts a.1 c.1)

      owned : Everywhere IsWorldType es
      owned = every_both IsWorldType h.types k.new h.owned (every_so _ IsWorldType k.new type_known (both_lists k.new k.own k.shown))

      apart : AreApart p (IsOneOf es)
      apart t v there also same = k.apart t v (from_joined h.types k.new t there) (from_joined h.types k.new v also) same

      region_known : IsRegion p 0 (IsOneOf es) (shapes p 0) (Sees p 0) region.value
      region_known =
          region_wider p 0 (with_types (IsOneOf h.types) k.new) (IsOneOf es) (to_joined h.types k.new) (shapes p 0) (Sees p 0) (Sees p 0) (λ o s. s) region.value k.region

      part_known : (part : List ℕ) → IfSome (part_of_interface y.world part shows) (IsAnywhere p es)
      part_known part =
          both_parts (λ v. IsWhole v × IsClosedEntity v) (IsEntity p 0 (IsOneOf es) (shapes p 0) (Sees p 0)) (IsAnywhere p es)
          (λ v a c. record { whole = a.0; closed = a.1; known = c }) (shown (entity_of part region.value)) (part_closed l main p legal x n u h shows y.next at closed part)
          (shown_so (IsEntity p 0 (IsOneOf es) (shapes p 0) (Sees p 0)) (entity_of part region.value)
          (entity_so (IsEntity p 0 (IsOneOf es) (shapes p 0) (Sees p 0)) part region.value region_known))

      new_known : IsNewKnown l main p legal es y n
      new_known = record {
        parts = λ part. subst (λ j. IfSome (part_of_interface y.world part j) (IsAnywhere p es)) (sym set_is) (part_known part);
        is_unit = subst (λ j. IsAnywhere p es (entity_of_interface n j)) (sym set_is) (unit_anywhere p es n);
        region = λ r e. subst (IsRegion p 0 (IsOneOf es) (shapes p 0) (Sees p 0)) (ap region_of (sym set_is ∙ e)) region_known;
        rooted = subst (IsRooted y.world) (sym set_is) tt;
        generic = λ formals r e. absurd (no_package_generic region.value formals r (sym set_is ∙ e));
        instance = λ g i actuals e. absurd (no_package_instance region.value g i actuals (sym set_is ∙ e));
      }

      here_now : IsOfPackage l main p legal y.world n
      here_now = record {
        home = u;
        there = at.there;
        package_item = subst IsPackageItem (sym item) tt;
        is_set = λ none. package_set region.value (sym set_is ∙ none);
      }

      step : IsStep l main p legal x n y
      step =
          let adds = of_ok (TextAdded None (at_unit x.next)) (package_items inside (at_unit x.next) u.item_pos z.items).answer region is
          (objects_of_text inside refl (at_unit x.next) u.item_pos z.items) in
          step_made l main p legal x n u h shows y.next at adds.objects.more adds.objects.is
          (every_so (λ (o : LibraryObject). o.generic ≡ None) (IsOfTextOf n) adds.objects.more (λ o e. inl e) adds.objects.all)
          (every_so (λ (o : LibraryObject). o.generic ≡ None) (λ o. IfSome o.generic (λ g. interface_of y.world g ≡ no_interface → ⊥)) adds.objects.more
          (λ o e. subst (λ g. IfSome g (λ m. interface_of y.world m ≡ no_interface → ⊥)) (sym e) tt) adds.objects.all)
          k.words k.counted

      homes : (t : AdaType) → IsOneOf es t → (i m j : ℕ) → identity_of t ≡ declared_in (of_instance i) m j → IsHome l main p legal y.world i m
      homes t there i m j e = by_origin (in_either h.types k.new t there)
        where
          by_origin : IsOneOf h.types t ⊎ IsOneOf k.new t → IsHome l main p legal y.world i m
          by_origin (inl a) = home_still l main p legal x n y h step es old new_known i m (h.homes t a i m j e)
          by_origin (inr a) =
              let own = one_so (IsOfUnit inside) k.new k.own t a in
              let same = sym e ∙ own.is in
              inl (ap instance_in same, subst (IsOfPackage l main p legal y.world) (sym (ap unit_in same)) here_now)

      package_next : IsSeenSo l main p legal y
      package_next = world_next l main p legal x n y h step es old new_known apart owned homes k.formed

    -- its subprograms are backed by bodies
    backed : (region : Region) → slice_get l.units n ≡ Some u → interface_of final n ≡ package_interface region
        → AreBacked l main p legal of_facts None 0 refl served inside region
    backed region there is name r k has number =
        subst (λ o. IsBackedAt p (generic_at o n) k r) no_formals
        (routine_backed l main p legal in_order standard_is n u z there item [] region
        (subst (λ o. interface_of final n ≡ interface_with o [] region) (sym no_formals) is) name r k has
        (ap (place_among (key z.name) name 0) (sym h.names) ∙ number))

    pub package_seen : (y : Walked) → IsAtUnit l final last x n u y → (package_judged outside x.next u.item_pos n z).answer ≡ Ok y → IsSeenSo l main p legal y
    package_seen y at judged =
        let plainly : (package_judged outside x.next u.item_pos n bare).answer ≡ Ok y =
        subst (λ o. (package_judged outside x.next u.item_pos n (record z { formals = o })).answer ≡ Ok y) no_formals judged in
        let part = passed_part u.item_pos (package_items inside (at_unit x.next) u.item_pos z.items).answer
        (λ region. closed_by u.item_pos z.name z.end_name >>= (λ end. rule (Some (with_package outside n bare [] region)))) y plainly in
        let closing = passed_part u.item_pos (closed_by u.item_pos z.name z.end_name).answer (λ end. rule (Some (with_package outside n bare [] part.value))) y part.rest in
        let v = with_package outside n bare [] part.value in
        let same : v ≡ y = same_some (passed_rule u.item_pos (Some v) y closing.rest) in
        let now : IsAtUnit l final last x n u v = subst (IsAtUnit l final last x n u) (sym same) at in
        let behind : Extends part.value.next last = unbehind inside n part.value.next last now.extends in
        subst (IsSeenSo l main p legal) same
        (package_next part.value now part.is
        (package_known l main p legal of_facts None 0 refl served (IsOneOf h.types) inside (at_unit x.next) u.item_pos z.items part.value items_texts part.is behind refl refl h.words
        (inside_stands at.fresh) h.objects (backed part.value.value at.there (set_last l main p legal x n u h (package_interface part.value.value) v.next now))))
