-- The step of the walk at a generic: it shows nothing, and its specification stays as it was walked, to be walked again in each of its instances.
use Rattle.std.proofs.Common.{◌≡◌, ℕ, List, [], ◌++◌, Some, IfSome, Ok, refl, sym, ap, ◌∙◌, subst, inr}
use Rattle.cov_base.specs.Lists.{Everywhere}
use Rattle.ada_syntax.specs.declared.unit.Formal.{Formal}
use Rattle.ada_syntax.specs.declared.unit.LibraryItem.TheVariants as library
use Rattle.ada_syntax.specs.declared.unit.PackageSpecification.{PackageSpecification}
use Rattle.ada_syntax.specs.declared.unit.Unit.{Unit as LibraryUnit}
use Rattle.ada_meaning.specs.Program.{LibraryObject, Program}
use Rattle.ada_rules.specs.Entities.{key, unit, Region}
use Rattle.ada_rules.specs.Environment.{typing, Interface, no_interface, generic_interface, World, interface_of, entity_of_interface, State, Given, Env}
use Rattle.ada_rules.specs.Expressions.{part_of_interface}
use Rattle.ada_rules.specs.Instances.{formals_declared, formals_of_interface}
use Rattle.ada_rules.specs.Library.{Library}
use Rattle.ada_rules.specs.Plan.{◌>>=◌, rule}
use Rattle.ada_rules.specs.Subprograms.{closed_by}
use Rattle.ada_rules.specs.Units.{Walked, env_of, at_unit, package_items, package_judged, with_package, in_specification, seen_in, region_of}
use Rattle.legal_laws.proofs.Passing.{every_so}
use Rattle.legal_programs.specs.Walked.{IsLegal}
use Rattle.legal_programs.proofs.Passed.{of_ok, passed_part, passed_rule}
use Rattle.legal_texts.proofs.AnywhereKnown.{IsAnywhere, unit_anywhere}
use Rattle.legal_texts.proofs.InterfaceWalk.{IsAtUnit, same_some}
use Rattle.legal_texts.proofs.KnownObjects.{ObjectsAt, objects_apart}
use Rattle.legal_texts.proofs.UnitParts.{unbehind}
use Rattle.legal_texts.proofs.OfText.{objects_of_text, AddsText, TextAdded}
use Rattle.legal_texts.proofs.SeenWorlds.{IsNotOf, IsOfTextOf, IsRooted, IsGenericWalked, IsSeenSo, IsStep, IsNewKnown, home_still, world_next}
use Rattle.legal_texts.proofs.UnitCounts.{Count, Counts, items_count, formals_count}
use Rattle.legal_texts.proofs.SetInterfaces.{SameObjects, formals_same, grown_step, no_generic_package, no_generic_instance, generic_set, set_now, step_made}

module _ (l : Library) (main : List ℕ) (p : Program) (legal : IsLegal l main p) where
  abbrev final : World
  final = legal.walk.seen.world

  abbrev last : State
  last = legal.walked.next

  module _ (x : Walked) (n : ℕ) (u : LibraryUnit) (z : PackageSpecification) (fs : List Formal) (item : u.item ≡ library.Package z) (has_formals : z.formals ≡ Some fs)
      (h : IsSeenSo l main p legal x) where
    abbrev outside : Env
    outside = env_of typing x.world n (key z.name) (seen_in x.world l u (unit n))

    abbrev spec : PackageSpecification
    spec = record z { formals = Some fs }

    abbrev heading : Env
    heading = in_specification outside n spec []

    -- no object that was declared is of its text
    none_before : interface_of x.world n ≡ no_interface → Everywhere (IsNotOf n) x.next.objects_declared
    none_before fresh = every_so (λ o. IfSome o.generic (λ g. interface_of x.world g ≡ no_interface → ⊥)) (IsNotOf n) x.next.objects_declared one h.texts_set
      where
        one : (o : LibraryObject) → IfSome o.generic (λ g. interface_of x.world g ≡ no_interface → ⊥) → IsNotOf n o
        one o is_set e = subst (λ q. IfSome q (λ g. interface_of x.world g ≡ no_interface → ⊥)) e is_set fresh

    module _ (formals : Given Region) (is_declared : (formals_declared heading (at_unit x.next) u.item_pos 0 fs).answer ≡ Ok formals) (region : Given Region)
        (is : (package_items (in_specification outside n spec formals.value) formals.next u.item_pos z.items).answer ≡ Ok region)
        (at : IsAtUnit l final last x n u (with_package outside n spec formals.value region)) where
      abbrev shows : Interface
      shows = generic_interface formals.value region.value

      abbrev v : Walked
      v = with_package outside n spec formals.value region

      set_is : interface_of v.world n ≡ shows
      set_is = set_now l main p legal x n u h shows v.next at

      same_before : formals.next.objects_declared ≡ x.next.objects_declared
      same_before = of_ok (SameObjects (at_unit x.next)) (formals_declared heading (at_unit x.next) u.item_pos 0 fs).answer formals is_declared
          (formals_same heading (at_unit x.next) u.item_pos 0 fs)

      adds : AddsText (Some n) formals.next region.next
      adds = of_ok (TextAdded (Some n) formals.next) (package_items (in_specification outside n spec formals.value) formals.next u.item_pos z.items).answer region is
          (objects_of_text (in_specification outside n spec formals.value) refl formals.next u.item_pos z.items)

      counts_first : Counts (at_unit x.next) formals.next
      counts_first = of_ok (Count (at_unit x.next)) (formals_declared heading (at_unit x.next) u.item_pos 0 fs).answer formals is_declared
          (formals_count heading (at_unit x.next) u.item_pos 0 fs)

      counts_behind : Counts formals.next region.next
      counts_behind = of_ok (Count formals.next) (package_items (in_specification outside n spec formals.value) formals.next u.item_pos z.items).answer region is
          (items_count (in_specification outside n spec formals.value) refl formals.next u.item_pos z.items)

      objects_are : region.next.objects_declared ≡ adds.objects.more ++ x.next.objects_declared
      objects_are = adds.objects.is ∙ ap (λ os. adds.objects.more ++ os) same_before

      step : IsStep l main p legal x n v
      step =
          step_made l main p legal x n u h shows v.next at adds.objects.more objects_are
          (every_so (λ (o : LibraryObject). o.generic ≡ Some n) (IsOfTextOf n) adds.objects.more (λ o e. inr e) adds.objects.all)
          (every_so (λ (o : LibraryObject). o.generic ≡ Some n) (λ o. IfSome o.generic (λ g. interface_of v.world g ≡ no_interface → ⊥)) adds.objects.more
          (λ o e. subst (λ g. IfSome g (λ m. interface_of v.world m ≡ no_interface → ⊥)) (sym e) (λ none. generic_set formals.value region.value (sym set_is ∙ none)))
          adds.objects.all)
          (counts_behind.0 ∙ (counts_first.0 ∙ h.words)) (counts_behind.1 (counts_first.1 h.counted))

      generic_walked : (fr r : Region) → interface_of v.world n ≡ generic_interface fr r → IsGenericWalked l main p legal v n fr r
      generic_walked fr r e = record {
        home = u;
        there = at.there;
        spec = spec;
        item = item ∙ ap (λ o. library.Package (record z { formals = o })) has_formals;
        list = fs;
        is_generic = refl;
        before = x;
        declared = formals;
        is_declared = is_declared;
        formals_are = ap formals_of_interface (sym set_is ∙ e);
        items = region;
        is_items = is;
        region_is = ap region_of (sym set_is ∙ e);
        extends = unbehind heading n region.next last at.extends;
        grown = grown_step x n v at.fresh at.steps;
        standard = h.standard;
        names = h.names;
        base = h.base;
        words = h.words;
        counted = h.counted;
        none_before = none_before at.fresh;
        later = [];
        objects = refl;
        none_later = tt;
      }

      new_known : IsNewKnown l main p legal h.types v n
      new_known = record {
        parts = λ part. subst (λ j. IfSome (part_of_interface v.world part j) (IsAnywhere p h.types)) (sym set_is) tt;
        is_unit = subst (λ j. IsAnywhere p h.types (entity_of_interface n j)) (sym set_is) (unit_anywhere p h.types n);
        region = λ r e. absurd (no_generic_package formals.value region.value r (sym set_is ∙ e));
        rooted = subst (IsRooted v.world) (sym set_is) tt;
        generic = generic_walked;
        instance = λ g k actuals e. absurd (no_generic_instance formals.value region.value g k actuals (sym set_is ∙ e));
      }

      generic_next : IsSeenSo l main p legal v
      generic_next =
          world_next l main p legal x n v h step h.types (λ t k. k) new_known h.apart h.owned
          (λ t there i m j e. home_still l main p legal x n v h step h.types (λ t k. k) new_known i m (h.homes t there i m j e))
          (subst (ObjectsAt p 0) (sym objects_are) (objects_apart p 0 (Some n) (λ stands. stands) adds.objects.more x.next.objects_declared adds.objects.all h.objects))

    pub generic_seen : (y : Walked) → IsAtUnit l final last x n u y → (package_judged outside x.next u.item_pos n z).answer ≡ Ok y → IsSeenSo l main p legal y
    generic_seen y at judged =
        let as_generic : (package_judged outside x.next u.item_pos n spec).answer ≡ Ok y =
        subst (λ o. (package_judged outside x.next u.item_pos n (record z { formals = o })).answer ≡ Ok y) has_formals judged in
        let first = passed_part u.item_pos (formals_declared heading (at_unit x.next) u.item_pos 0 fs).answer
        (λ formals. package_items (in_specification outside n spec formals.value) formals.next u.item_pos z.items
        >>= (λ region. closed_by u.item_pos z.name z.end_name >>= (λ end. rule (Some (with_package outside n spec formals.value region))))) y as_generic in
        let formals = first.value in
        let second = passed_part u.item_pos (package_items (in_specification outside n spec formals.value) formals.next u.item_pos z.items).answer
        (λ region. closed_by u.item_pos z.name z.end_name >>= (λ end. rule (Some (with_package outside n spec formals.value region)))) y first.rest in
        let w = with_package outside n spec formals.value second.value in
        let closing = passed_part u.item_pos (closed_by u.item_pos z.name z.end_name).answer (λ end. rule (Some w)) y second.rest in
        let same : w ≡ y = same_some (passed_rule u.item_pos (Some w) y closing.rest) in
        subst (IsSeenSo l main p legal) same
        (generic_next formals first.is second.value second.is (subst (IsAtUnit l final last x n u) (sym same) at))
