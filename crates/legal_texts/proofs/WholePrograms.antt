-- A program that the rules accept is well-formed, with its generics and instances, where what its units show each other is known.
use Rattle.std.proofs.Common.{◌≡◌, ℕ, suc, List, [], ◌∷◌, ◌++◌, map, Option, Some, None, option_map, slice_get, refl, sym, ap, ◌∙◌, subst, arith}
use Rattle.cov_base.specs.Lists.{Everywhere}
use Rattle.ada_syntax.specs.declared.unit.Instance.{Instance as SourceInstance}
use Rattle.ada_syntax.specs.declared.unit.Unit.{Unit as LibraryUnit}
use Rattle.ada_meaning.specs.Bodies.{StandsIn}
use Rattle.ada_meaning.specs.Program.{Bounds, Instance, Program}
use Rattle.ada_meaning.specs.Statics.{static_bounds, values_of}
use Rattle.ada_meaning.specs.WellFormed.{HasBounds}
use Rattle.ada_rules.specs.Types.{AdaType, AdaSubtype, range_in}
use Rattle.ada_rules.specs.Entities.{key, Entity, hidden, mark, literal, object, formal_object, routine, raisable, component, test_io, unit, Region, Actual, object_actual, type_actual, routine_actual, whole_standard}
use Rattle.ada_rules.specs.Environment.{World, State}
use Rattle.ada_rules.specs.Instances.{typed_actual}
use Rattle.ada_rules.specs.Library.{Library, instance_number, item_name, clause_names, library_of}
use Rattle.ada_rules.specs.Statics.{Facts}
use Rattle.ada_rules.specs.Units.{seen_in}
use Rattle.legal_laws.specs.Bounded.{IsBounded, AreObjectsBounded}
use Rattle.legal_laws.specs.Known.{AreApart, IsEnv, IsOneOf}
use Rattle.legal_laws.specs.Valued.{AreOrdered, AreFactsOf}
use Rattle.legal_laws.proofs.KnownBodies.{every_reversed}
use Rattle.legal_laws.proofs.KnownTypes.{range_known}
use Rattle.legal_programs.specs.Final.{IsServed}
use Rattle.legal_programs.specs.Growing.{Extends}
use Rattle.legal_programs.specs.Walked.{IsLegal}
use Rattle.legal_instances.specs.InOrder.{UnitsRise}
use Rattle.legal_instances.specs.Ordered.{IsWholeOrder}
use Rattle.legal_instances.specs.Resolved.{HasTypeBounds, HaveTypeBounds, AreTextsFormed}
use Rattle.legal_instances.proofs.NumberedInstances.{unit_numbered}
use Rattle.legal_texts.specs.UnitTexts.{AreUnitTexts}
use Rattle.legal_texts.proofs.AnywhereKnown.{shapes, Sees, shows_earlier, library_there, unit_there}
use Rattle.legal_texts.proofs.FormedPrograms.{IsFormedThere, IsObjectThere, formed_there, objects_there, library_formed, library_bounded, bodies_formed, objects_bounded}
use Rattle.legal_texts.proofs.GenericBodies.{all_left}
use Rattle.legal_texts.proofs.GivenActuals.{IsGivenType, IsActualFor, AreActualsFor, instance_fits}
use Rattle.legal_texts.proofs.InstancePlaces.{env_at}
use Rattle.legal_texts.proofs.InterfaceWalk.{same_some}
use Rattle.legal_texts.proofs.KnownObjects.{ObjectsAt, FormedAt}
use Rattle.legal_texts.proofs.PackageItems.{no_subprogram}
use Rattle.legal_texts.proofs.SeenWorlds.{IsSeenSo}
use Rattle.legal_texts.proofs.VisitedInstances.{IsInstanceThere, instance_shown, text_known}

-- items by their places
every_place : {X : Type 0} (P : X → Type 0) (xs : List X) → ((j : ℕ) (x : X) → slice_get xs j ≡ Some x → P x) → Everywhere P xs
every_place P [] h = tt
every_place P (x ∷ xs) h = (h 0 x refl, every_place P xs (λ j y there. h (suc j) y there))

ordered_bounds : (o : Option Bounds) → AreOrdered o → HasBounds o
ordered_bounds None h = absurd h
ordered_bounds (Some b) h = h.0

same_place : (j k : ℕ) → suc j ≡ suc k → j ≡ k
same_place j k h = omega (arith, h)

-- what an instance has for its formal types has bounds
module _ (p : Program) (types : AdaType → Type 0) (apart : AreApart p types) (k : ℕ) (facts : List Facts) where
  given_of : (before : List Actual) (f : Entity) (u : AdaSubtype) → IsActualFor p types k before f (type_actual u) → IsGivenType p types u
  given_of before hidden u h = absurd h
  given_of before (mark i t) u h = h
  given_of before (literal t x) u h = absurd h
  given_of before (object v) u h = absurd h
  given_of before (formal_object t e) u h = absurd h
  given_of before (routine r) u h = absurd h
  given_of before (raisable e) u h = absurd h
  given_of before component u h = absurd h
  given_of before test_io u h = absurd h
  given_of before (unit n) u h = absurd h

  actual_bounded : (before : List Actual) (f : Entity) (a : Actual) → IsActualFor p types k before f a → HasTypeBounds p (typed_actual facts a)
  actual_bounded before f (object_actual e) h = tt
  actual_bounded before f (type_actual u) h =
      ordered_bounds (static_bounds (values_of p) 0 (range_in u)) (range_known p 0 types apart u (given_of before f u h).known)
  actual_bounded before f (routine_actual r) h = tt

  actuals_bounded : (before : List Actual) (fs : Region) (after : List Actual) → AreActualsFor p types k before fs after
      → Everywhere (HasTypeBounds p) (map (typed_actual facts) after)
  actuals_bounded before [] [] h = tt
  actuals_bounded before (f ∷ fs) [] h = absurd h
  actuals_bounded before [] (a ∷ after) h = absurd h
  actuals_bounded before (f ∷ fs) (a ∷ after) h = (actual_bounded before f.1 a h.0, actuals_bounded (before ++ a ∷ []) fs after h.1)

module _ (us : List LibraryUnit) (main : List ℕ) (p : Program) (legal : IsLegal (library_of whole_standard us) main p) (rise : UnitsRise us)
    (of_facts : AreFactsOf p legal.walked.world.instances) (in_order : IsWholeOrder (library_of whole_standard us)) (texts : AreUnitTexts us)
    (served : (o : Option ℕ) (inst : ℕ) → StandsIn p o inst → (s : State) → Extends s legal.walked.next → IsServed legal.walked.world.instances p o inst s)
    (seen : IsSeenSo (library_of whole_standard us) main p legal legal.walk.seen) where
  abbrev l : Library
  l = library_of whole_standard us

  abbrev final : World
  final = legal.walk.seen.world

  -- where the actuals of a unit that is an instance stand
  module _ (n : ℕ) (u : LibraryUnit) (i : SourceInstance) (there : IsInstanceThere us main p legal rise in_order n u i) where
    abbrev before : World
    before = there.before.world

    actuals_known : IsEnv p 0 (IsOneOf seen.types) (shapes p 0) (Sees p 0) (env_at whole_standard us main p legal rise before n u i)
    actuals_known =
        let standard : before.standard ≡ whole_standard = sym there.at.same.standard ∙ seen.standard in
        let shows = shows_earlier p seen.types before final there.at.grown seen.shows in
        unit_there p seen.types (IsOneOf seen.types) (λ t h. h) seen.integers seen.booleans before standard shows 0 no_subprogram n (key i.name) (seen_in before l u hidden)
        (library_there p seen.types (IsOneOf seen.types) (λ t h. h) seen.integers seen.booleans before standard shows 0 no_subprogram l (clause_names u.withs)
        ((key (item_name u.item), hidden) ∷ []) (tt, tt))

    types_bounded : Everywhere (HasTypeBounds p) there.made.instance.made.actuals
    types_bounded =
        let walked = there.made.walked in
        let fits = instance_fits p (IsOneOf seen.types) seen.apart (shapes p 0) (Sees p 0) (env_at whole_standard us main p legal rise before n u i) there.before.next u.item_pos n
        (instance_number n us) i there.after walked walked.there.formals walked.there.region walked.there.is actuals_known in
        subst (Everywhere (HasTypeBounds p)) (sym (there.made.instance.actuals_are ∙ ap (map (typed_actual before.instances)) fits.is))
        (actuals_bounded p (IsOneOf seen.types) seen.apart (instance_number n us) before.instances [] walked.there.formals fits.after fits.fit)

  pub have_type_bounds : HaveTypeBounds p
  have_type_bounds =
      every_place (λ i. Everywhere (HasTypeBounds p) i.actuals) p.instances
      (λ j i at. let unit = unit_numbered whole_standard us main p legal rise i.generic (suc j) (ap (option_map (λ (x : Instance). x.generic)) at) in
      let there = instance_shown us main p legal rise in_order unit.place unit.unit unit.instance unit.there unit.is in
      let of = there.made.instance in
      let place : j ≡ of.place = same_place j of.place (unit.number ∙ of.number) in
      let same : of.made ≡ i = same_some (sym of.there ∙ (ap (slice_get p.instances) (sym place) ∙ at)) in
      subst (λ (x : Instance). Everywhere (HasTypeBounds p) x.actuals) same (types_bounded unit.place unit.unit unit.instance there))

  -- in each instance the bodies and the objects that stand in it are well-formed
  pub left : (i : ℕ) → FormedAt p i legal.walked.next.subprograms × ObjectsAt p i legal.walked.next.objects_declared
  left i =
      all_left l main p legal of_facts in_order refl texts served seen (λ g k stands. text_known us main p legal rise in_order seen g k stands) i

  all_formed : Everywhere (IsFormedThere p) p.subprograms
  all_formed =
      subst (λ r. Everywhere (IsFormedThere p) r.subprograms) (sym legal.made)
      (every_reversed (IsFormedThere p) legal.walked.next.subprograms (formed_there p legal.walked.next.subprograms (λ i. (left i).0)))

  all_objects : Everywhere (IsObjectThere p) p.objects
  all_objects =
      subst (λ r. Everywhere (IsObjectThere p) r.objects) (sym legal.made)
      (every_reversed (IsObjectThere p) legal.walked.next.objects_declared (objects_there p legal.walked.next.objects_declared (λ i. (left i).1)))

  pub texts_are_formed : AreTextsFormed p
  texts_are_formed = record { types = have_type_bounds; library = library_formed p p.objects all_objects; bodies = bodies_formed p all_formed }

  pub texts_are_bounded : AreObjectsBounded p × Everywhere (λ o. (i : ℕ) → StandsIn p o.generic i → IsBounded p i o.subtype) p.objects
  texts_are_bounded = (objects_bounded p all_formed, library_bounded p p.objects all_objects)
