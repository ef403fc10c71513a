-- The specification of a generic, as it was walked, is walked again in an instance: what it declares is known there, over the types of the whole program and those
-- of its text.
use Rattle.std.proofs.Common.{◌≡◌, ℕ, List, [], ◌∷◌, ◌++◌, Option, Some, None, IfSome, refl, sym, ap, ◌∙◌, subst, if◌then◌else◌}
use Rattle.std.specs.Prelude.{is_some}
use Rattle.cov_base.specs.Lists.{Everywhere}
use Rattle.ada_syntax.specs.declared.unit.Unit.{Unit as LibraryUnit}
use Rattle.ada_meaning.specs.Bodies.{StandsIn}
use Rattle.ada_meaning.specs.Program.{LibraryObject, Program}
use Rattle.ada_meaning.specs.Types.{here, of_instance}
use Rattle.ada_rules.specs.Types.{declared_in, AdaType}
use Rattle.ada_rules.specs.Entities.{key, unit, Region, whole_standard, Actual}
use Rattle.ada_rules.specs.Environment.{typing, generic_interface, World, interface_of, State, Env, owner_of}
use Rattle.ada_rules.specs.Library.{Library, library_of, item_name, clause_names, all_bodies}
use Rattle.ada_rules.specs.Subprograms.{place_among}
use Rattle.ada_rules.specs.Units.{Walked, env_of, generic_at, interface_with, at_unit, in_specification, seen_in}
use Rattle.legal_laws.specs.Known.{AreApart, IsOneOf, IsRegion}
use Rattle.legal_laws.specs.Standing.{AreOlder, with_types, Stands}
use Rattle.legal_laws.specs.Valued.{AreFactsOf}
use Rattle.legal_laws.proofs.Identities.{types_joined}
use Rattle.legal_laws.proofs.Passing.{every_so, every_both}
use Rattle.legal_laws.proofs.Wider.{region_wider}
use Rattle.legal_programs.specs.Final.{IsServed}
use Rattle.legal_programs.specs.Growing.{Extends}
use Rattle.legal_programs.specs.Walked.{IsLegal}
use Rattle.legal_programs.proofs.DecidedUnits.{every_at}
use Rattle.legal_instances.specs.Ordered.{IsWholeOrder}
use Rattle.legal_instances.specs.Resolved.{HaveStaticActuals}
use Rattle.legal_texts.specs.UnitTexts.{IsPackageItemText, IsItemText, AreUnitTexts}
use Rattle.legal_texts.proofs.AnywhereKnown.{shapes, Sees, ShowsKnown, shows_earlier, package_there, library_there}
use Rattle.legal_texts.proofs.BackedPackages.{routine_backed}
use Rattle.legal_texts.proofs.GivenActuals.{AreGiven}
use Rattle.legal_texts.proofs.InstancePlaces.{IsInstanceOf}
use Rattle.legal_texts.proofs.KnownFormals.{IsFormalType, formal_of_unit, AreFormalsKnown}
use Rattle.legal_texts.proofs.KnownObjects.{one_text, IsObjectAt, ObjectsAt}
use Rattle.legal_texts.proofs.LibraryItems.{IsOfUnit}
use Rattle.legal_texts.proofs.OneOf.{one_so, to_joined}
use Rattle.legal_texts.proofs.PackageItems.{no_subprogram, AreKnown}
use Rattle.legal_texts.proofs.SeenFormals.{formals_there}
use Rattle.legal_texts.proofs.SeenTypes.{IsOwnedIdentity, IsWorldType, IsOfText, unit_text, apart_of_added}
use Rattle.legal_texts.proofs.SeenWorlds.{IsNotOf, IsGenericWalked, IsSeenSo}
use Rattle.legal_texts.proofs.SubprogramItems.{AreBacked, package_known}

module _ (us : List LibraryUnit) (main : List ℕ) (p : Program) (legal : IsLegal (library_of whole_standard us) main p) (of_facts : AreFactsOf p legal.walked.world.instances)
    (in_order : IsWholeOrder (library_of whole_standard us)) (texts : AreUnitTexts us)
    (served : (o : Option ℕ) (inst : ℕ) → StandsIn p o inst → (s : State) → Extends s legal.walked.next → IsServed legal.walked.world.instances p o inst s)
    (have : HaveStaticActuals p) where
  abbrev l : Library
  l = library_of whole_standard us

  abbrev final : World
  final = legal.walk.seen.world

  -- what is known of a generic's text in an instance
  pub record IsReplayed (types : List AdaType) (g k : ℕ) (region : Region) (os : List LibraryObject) : Type 0 where
    pub new : List AdaType
    pub own : Everywhere (IsOfText g) new
    pub apart : AreApart p (IsOneOf new)
    pub known : IsRegion p k (IsOneOf (types ++ new)) (shapes p k) (Sees p k) region
    pub objects : ObjectsAt p k os

  module _ (x : Walked) (h : IsSeenSo l main p legal x) (g : ℕ) (formals region : Region) (w : IsGenericWalked l main p legal x g formals region)
      (bodies : w.before.world.bodies ≡ all_bodies us) (k : ℕ) (actuals : List Actual) (made : IsInstanceOf p k g x.world actuals) (stands : StandsIn p (Some g) k)
      (given : AreGiven p (IsOneOf h.types) k [] formals actuals) (set : interface_of final g ≡ generic_interface formals region) where
    abbrev seen_there : Region
    seen_there = seen_in w.before.world l w.home (unit g)

    abbrev outside : Env
    outside = env_of typing w.before.world g (key w.spec.name) seen_there

    -- where its formals are declared, and where its items are
    abbrev inside : Env
    inside = in_specification outside g w.spec []

    abbrev behind : Env
    behind = in_specification outside g w.spec w.declared.value

    here_now : inside.generic ≡ Some g
    here_now = ap (λ o. generic_at o g) w.is_generic

    owner_here : owner_of inside ≡ here
    owner_here = ap (λ (o : Option ℕ). if is_some o then here else of_instance 0) here_now

    not_yet : AreOlder (IsOneOf h.types) inside (at_unit w.before.next)
    not_yet t n there e =
        absurd (subst IsOwnedIdentity (e ∙ ap (λ o. declared_in o g n) owner_here) (one_so IsWorldType h.types h.owned t there).1)

    shows_before : ShowsKnown p h.types w.before.world
    shows_before = shows_earlier p h.types w.before.world x.world w.grown h.shows

    inside_stands : Stands p k (shapes p k) (IsOneOf h.types) (Sees p k) inside (at_unit w.before.next)
    inside_stands = record {
      place = package_there p h.types (IsOneOf h.types) (λ t z. z) h.integers h.booleans w.before.world w.standard shows_before k no_subprogram g (key w.spec.name)
          seen_there (generic_at w.spec.formals g) g []
          (library_there p h.types (IsOneOf h.types) (λ t z. z) h.integers h.booleans w.before.world w.standard shows_before k no_subprogram l (clause_names w.home.withs)
          ((key (item_name w.home.item), unit g) ∷ []) (tt, tt)) tt;
      world = w.base;
      apart = h.apart;
      older = not_yet;
      counted = w.counted;
      alone = λ e. absurd (some_is_none (sym here_now ∙ e));
    }
      where
        some_is_none : Some g ≡ None → ⊥
        some_is_none e = cc

    -- the formals are known by what the actuals give
    known_formals : AreFormalsKnown p k (IsOneOf h.types) actuals (shapes p k) (Sees p k) (IsOneOf h.types) inside (at_unit w.before.next) 0 w.declared
    known_formals =
        formals_there p k h.types h.owned h.apart h.integers actuals g x.world made have h.base (shapes p k) (Sees p k) inside (at_unit w.before.next) w.home.item_pos w.list
        w.declared w.is_declared (subst (λ fs. AreGiven p (IsOneOf h.types) k [] fs actuals) (sym w.formals_are) given) refl inside_stands

    -- no object of its text was declared before, or is declared later
    not_there : (os : List LibraryObject) → Everywhere (IsNotOf g) os → ObjectsAt p k os
    not_there os none = every_so (IsNotOf g) (IsObjectAt p k) os (λ o not_of there. absurd (not_of (one_text p o.generic (Some g) k there stands))) none

    backed : AreBacked l main p legal of_facts (Some g) k stands (served (Some g) k stands) behind w.items.value
    backed name r j has number =
        routine_backed l main p legal in_order refl g w.home w.spec w.there w.item formals w.items.value
        (set ∙ (ap (generic_interface formals) (sym w.region_is) ∙ sym (ap (λ o. interface_with o formals w.items.value) w.is_generic))) name r j has
        (ap (place_among (key w.spec.name) name 0) (sym bodies) ∙ number)

    item_texts : Everywhere IsPackageItemText w.spec.items
    item_texts =
        subst IsItemText w.item (subst (λ (o : Option LibraryUnit). IfSome o (λ v. IsItemText v.item)) w.there (every_at (λ (v : LibraryUnit). IsItemText v.item) us g texts))

    known_items : AreKnown l main p legal of_facts (Some g) k stands (served (Some g) k stands) (with_types (IsOneOf h.types) known_formals.new) behind w.items
    known_items =
        package_known l main p legal of_facts (Some g) k stands (served (Some g) k stands) (with_types (IsOneOf h.types) known_formals.new) behind w.declared.next
        w.home.item_pos w.spec.items w.items item_texts w.is_items w.extends refl here_now (known_formals.words ∙ w.words) known_formals.stands
        (subst (ObjectsAt p k) (sym known_formals.objects) (not_there w.before.next.objects_declared w.none_before)) backed

    pub replayed : IsReplayed h.types g k region x.next.objects_declared
    replayed =
        let f = known_formals in
        let i = known_items in
        let new = f.new ++ i.new in
        let joined = types_joined (IsOneOf h.types) f.new i.new in
        record {
          new = new;
          own = every_both (IsOfText g) f.new i.new
              (every_so (IsFormalType inside) (IsOfText g) f.new (λ t z. unit_text inside t owner_here (formal_of_unit inside t z)) f.own)
              (every_so (IsOfUnit behind) (IsOfText g) i.new (λ t z. unit_text behind t owner_here z) i.own);
          apart = apart_of_added p (IsOneOf h.types) new (subst (AreApart p) (sym joined) i.apart);
          known = region_wider p k (with_types (IsOneOf h.types) new) (IsOneOf (h.types ++ new)) (to_joined h.types new) (shapes p k) (Sees p k) (Sees p k) (λ o z. z) region
              (subst (λ ts. IsRegion p k ts (shapes p k) (Sees p k) region) (sym joined)
              (subst (IsRegion p k (with_types (with_types (IsOneOf h.types) f.new) i.new) (shapes p k) (Sees p k)) w.region_is i.region));
          objects = subst (ObjectsAt p k) (sym w.objects)
              (every_both (IsObjectAt p k) w.later w.items.next.objects_declared (not_there w.later w.none_later) i.formed);
        }
