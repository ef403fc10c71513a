-- What the units of a legal program show each other is known, from the first unit to the last.
use Rattle.std.proofs.Common.{◌≡◌, ℕ, List, [], length, Option, Some, None, IfSome, Ok, refl, sym, ap, ◌∙◌, subst, inl, inr}
use Rattle.std.proofs.lemmas.Bool.{false≢true}
use Rattle.ada_syntax.specs.declared.unit.LibraryItem.{LibraryItem}
use Rattle.ada_syntax.specs.declared.unit.LibraryItem.TheVariants as library
use Rattle.ada_syntax.specs.declared.unit.Formal.{Formal}
use Rattle.ada_syntax.specs.declared.unit.PackageSpecification.{PackageSpecification}
use Rattle.ada_syntax.specs.declared.unit.Unit.{Unit as LibraryUnit}
use Rattle.ada_meaning.specs.Bodies.{StandsIn}
use Rattle.ada_meaning.specs.Program.{Program}
use Rattle.ada_meaning.specs.Shape.{group, no_shape}
use Rattle.ada_rules.specs.Entities.{whole_standard}
use Rattle.ada_rules.specs.Environment.{typing, no_interface, World, interface_of, entity_of_interface, State, beginning_state}
use Rattle.ada_rules.specs.Expressions.{part_of_interface}
use Rattle.ada_rules.specs.Library.{Library, library_of}
use Rattle.ada_rules.specs.Units.{Walked, interface_judged, world_before}
use Rattle.legal_instances.specs.InOrder.{UnitsRise}
use Rattle.legal_instances.specs.Ordered.{IsWholeOrder}
use Rattle.legal_instances.specs.Resolved.{HaveStaticActuals}
use Rattle.legal_laws.specs.Valued.{AreFactsOf}
use Rattle.legal_laws.proofs.KnownBodies.{mapped_length}
use Rattle.legal_laws.proofs.Predefined.{first_stands, predefined_types}
use Rattle.legal_programs.specs.Final.{IsServed}
use Rattle.legal_programs.specs.Growing.{Extends}
use Rattle.legal_programs.specs.Walked.{IsLegal}
use Rattle.legal_programs.proofs.Counted.{states_of}
use Rattle.legal_programs.proofs.FactsInBase.{before_in_base}
use Rattle.legal_programs.proofs.Passed.{passed_rule}
use Rattle.legal_texts.specs.UnitTexts.{AreUnitTexts}
use Rattle.legal_texts.proofs.AnywhereKnown.{IsAnywhere, ShowsClosed, unit_anywhere}
use Rattle.legal_texts.proofs.FormedPrograms.{no_interfaces, is_declared, predefined_alone}
use Rattle.legal_texts.proofs.InstanceWorlds.{instance_step}
use Rattle.legal_texts.proofs.InterfaceWalk.{IsAtUnit, same_some, walk_known}
use Rattle.legal_texts.proofs.OrderOnce.{ordered_once}
use Rattle.legal_texts.proofs.SeenWorlds.{IsRooted, IsSeenSo}
use Rattle.legal_texts.proofs.ShownClosed.{shown_closed}
use Rattle.legal_texts.proofs.UnitWorlds.{subprogram_step, package_step, generic_step}

module _ (us : List LibraryUnit) (main : List ℕ) (p : Program) (legal : IsLegal (library_of whole_standard us) main p) (of_facts : AreFactsOf p legal.walked.world.instances)
    (in_order : IsWholeOrder (library_of whole_standard us)) (texts : AreUnitTexts us)
    (served : (o : Option ℕ) (inst : ℕ) → StandsIn p o inst → (s : State) → Extends s legal.walked.next → IsServed legal.walked.world.instances p o inst s)
    (rise : UnitsRise us) (have : HaveStaticActuals p) where
  abbrev l : Library
  l = library_of whole_standard us

  abbrev final : World
  final = legal.walk.seen.world

  abbrev last : State
  last = legal.walked.next

  closed : ShowsClosed final
  closed = shown_closed us main p legal in_order rise

  abbrev So : Walked → Type 0
  So x = IsSeenSo l main p legal x

  module _ (x : Walked) (n : ℕ) (u : LibraryUnit) (y : Walked) (at : IsAtUnit l final last x n u y) (h : So x) where
    package_either : (z : PackageSpecification) → u.item ≡ library.Package z → (o : Option (List Formal)) → z.formals ≡ o → So y
    package_either z item None e = package_step l main p legal of_facts in_order refl texts served closed x n u y at h z item e
    package_either z item (Some fs) e = generic_step l main p legal of_facts in_order refl texts served closed x n u y at h z fs item e

    by_item : (i : LibraryItem) → u.item ≡ i → (interface_judged typing l x.world x.next n u i).answer ≡ Ok y → So y
    by_item (library.Subprogram b) item judged = subprogram_step l main p legal of_facts in_order refl texts served closed x n u y at h b item
    by_item (library.Package z) item judged = package_either z item z.formals refl
    by_item (library.PackageBody z) item judged = subst So (same_some (passed_rule u.pos (Some (record { world = x.world; next = x.next })) y judged)) h
    by_item (library.Instance i) item judged = instance_step us main p legal of_facts in_order texts served closed rise have x n u y i at item h

    unit_seen : So y
    unit_seen = by_item u.item refl at.judged

  abbrev before : Walked
  before = record { world = world_before l; next = beginning_state }

  none : (n : ℕ) → interface_of before.world n ≡ no_interface
  none n = no_interfaces us n

  seen_before : So before
  seen_before = record {
    types = predefined_types;
    integers = inl refl;
    booleans = inr (inl refl);
    apart = (first_stands p (λ o. group no_shape) []).apart;
    owned = ((tt, tt), ((tt, tt), tt));
    homes = λ t there i m j e. absurd (false≢true (sym (predefined_alone t there) ∙ ap is_declared e));
    shows = record {
      parts = λ n name. subst (λ i. IfSome (part_of_interface before.world name i) (IsAnywhere p predefined_types)) (sym (none n)) tt;
      units = λ n. subst (λ i. IsAnywhere p predefined_types (entity_of_interface n i)) (sym (none n)) (unit_anywhere p predefined_types n);
    };
    regions = λ n region e. absurd (cc (sym (none n) ∙ e));
    rooted = λ n. subst (IsRooted before.world) (sym (none n)) tt;
    generics = λ g formals region e. absurd (cc (sym (none g) ∙ e));
    instances = λ n g k actuals e. absurd (cc (sym (none n) ∙ e));
    objects = tt;
    texts_set = tt;
    standard = refl;
    names = refl;
    base = before_in_base (length us) us;
    sized = mapped_length (λ (u : LibraryUnit). no_interface) us;
    words = refl;
    counted = refl;
  }

  pub all_seen : So legal.walk.seen
  all_seen =
      walk_known l final last So unit_seen before l.order legal.walk.seen legal.walk.interfaces refl (states_of l main p legal).bodies.extends
      (ordered_once us l.order in_order.units) (λ m there. none m) seen_before
