-- The step of a unit that is an instance: its generic is walked again in it, and what it shows is known wherever it is seen.
use Rattle.std.proofs.Common.{◌≡◌, ◌<◌, ℕ, nat_eq, Bool, true, false, List, [], ◌∷◌, ◌++◌, length, reverse, Option, Some, None, IfSome, slice_get, refl, sym, ap, ◌∙◌, subst, inl, inr}
use Rattle.std.specs.Prelude.{◌⊎◌, unwrap_or}
use Rattle.std.proofs.lemmas.Bool.{eqb-true, eq-eqb, false≢true}
use Rattle.cov_base.specs.Lists.{Everywhere}
use Rattle.ada_syntax.specs.declared.unit.Instance.{Instance as SourceInstance}
use Rattle.ada_syntax.specs.declared.unit.LibraryItem.TheVariants as library
use Rattle.ada_syntax.specs.declared.unit.Unit.{Unit as LibraryUnit}
use Rattle.ada_meaning.specs.Bodies.{StandsIn}
use Rattle.ada_meaning.specs.Program.{Program}
use Rattle.ada_meaning.specs.Types.{here, of_instance}
use Rattle.ada_rules.specs.Types.{Identity, integer, natural, positive, boolean, declared_in, AdaType, AdaSubtype, identity_of, type_in}
use Rattle.ada_rules.specs.Entities.{key, hidden, Region, whole_standard, Actual, type_actual}
use Rattle.ada_rules.specs.Environment.{Interface, no_interface, generic_interface, instance_interface, World, interface_of, entity_of_interface, State, Env}
use Rattle.ada_rules.specs.Expressions.{part_of_generic, part_of_interface}
use Rattle.ada_rules.specs.Instances.{actuals_judged, facts_made}
use Rattle.ada_rules.specs.Library.{Library, is_instance, instance_number, library_of, item_name, clause_names}
use Rattle.ada_rules.specs.Units.{Walked, at_unit, seen_in}
use Rattle.legal_laws.specs.Kept.{OnlyStatics}
use Rattle.legal_laws.specs.Known.{AreApart, IsOneOf, IsRegion, IsEnv}
use Rattle.legal_laws.specs.Valued.{AreFactsOf, AreFactsInBase}
use Rattle.legal_laws.proofs.KeptStatics.{Behind}
use Rattle.legal_laws.proofs.SeenEntities.{AreSeenAs}
use Rattle.legal_laws.proofs.Wider.{region_wider}
use Rattle.legal_programs.specs.Closed.{IsClosedEntity}
use Rattle.legal_programs.specs.Deciding.{IsWhole}
use Rattle.legal_programs.specs.Final.{IsServed}
use Rattle.legal_programs.specs.Growing.{Extends}
use Rattle.legal_programs.specs.Walked.{IsLegal}
use Rattle.legal_programs.proofs.FactsInBase.{made_in_base, set_in_base}
use Rattle.legal_programs.proofs.Passed.{of_ok}
use Rattle.legal_instances.specs.InOrder.{UnitsRise}
use Rattle.legal_instances.specs.Ordered.{IsWholeOrder}
use Rattle.legal_instances.specs.Resolved.{HaveStaticActuals}
use Rattle.legal_texts.specs.UnitTexts.{AreUnitTexts}
use Rattle.legal_texts.proofs.AnywhereKnown.{shapes, Sees, IsAnywhere, unit_anywhere, unit_there, library_there, ShowsClosed, closed_earlier}
use Rattle.legal_texts.proofs.GivenActuals.{AreGiven, given_types, instance_fits}
use Rattle.legal_texts.proofs.GrownWorlds.{IsGrown}
use Rattle.legal_texts.proofs.InstancePlaces.{IsAtInstance, IsInstanceWalked, env_at, at_instance}
use Rattle.legal_texts.proofs.InterfaceWalk.{IsAtUnit}
use Rattle.legal_texts.proofs.KeptActuals.{actuals_keep}
use Rattle.legal_texts.proofs.KnownObjects.{ObjectsAt}
use Rattle.legal_texts.proofs.UnitParts.{below_length, set_there, set_length}
use Rattle.legal_texts.proofs.OneOf.{in_first, in_second, in_either}
use Rattle.legal_texts.proofs.OwnNumbers.{own_numbers}
use Rattle.legal_texts.proofs.PackageItems.{no_subprogram}
use Rattle.legal_texts.proofs.ReplayedGenerics.{IsReplayed, replayed}
use Rattle.legal_texts.proofs.SeenParts.{shown_through}
use Rattle.legal_texts.proofs.SeenTypes.{IsOfInstance, types_through, old_through, world_through, seen_as, identity_through, apart_seen}
use Rattle.legal_texts.proofs.SeenWorlds.{IsRooted, IsHome, IsGenericWalked, IsInstanceKnown, IsSeenSo, IsStep, IsNewKnown, home_still, world_next}

-- the parts of an interface of an instance, and of an identity
abbrev generic_in : Interface → Option ℕ
generic_in (instance_interface o k actuals) = o
generic_in i = None

abbrev number_in : Interface → ℕ
number_in (instance_interface o k actuals) = k
number_in i = 0

abbrev instance_in : Identity → ℕ
instance_in (declared_in (of_instance k) m n) = k
instance_in i = 0

module _ (us : List LibraryUnit) (main : List ℕ) (p : Program) (legal : IsLegal (library_of whole_standard us) main p) (of_facts : AreFactsOf p legal.walked.world.instances)
    (in_order : IsWholeOrder (library_of whole_standard us)) (texts : AreUnitTexts us)
    (served : (o : Option ℕ) (inst : ℕ) → StandsIn p o inst → (s : State) → Extends s legal.walked.next → IsServed legal.walked.world.instances p o inst s)
    (closed : ShowsClosed legal.walk.seen.world) (rise : UnitsRise us) (have : HaveStaticActuals p) where
  abbrev l : Library
  l = library_of whole_standard us

  abbrev final : World
  final = legal.walk.seen.world

  abbrev last : State
  last = legal.walked.next

  module _ (x : Walked) (n : ℕ) (u : LibraryUnit) (y : Walked) (i : SourceInstance) (at : IsAtUnit l final last x n u y) (item : u.item ≡ library.Instance i)
      (h : IsSeenSo l main p legal x) where
    abbrev k : ℕ
    k = instance_number n us

    abbrev env : Env
    env = env_at whole_standard us main p legal rise x.world n u i

    -- which instance it is
    at_it : IsAtInstance whole_standard us main p legal rise x n u i y
    at_it = at_instance whole_standard us main p legal rise final x n u i y at item

    abbrev walked : IsInstanceWalked env x.next u.item_pos n k i y
    walked = at_it.walked

    abbrev g : ℕ
    g = walked.generic

    abbrev actuals : List Actual
    actuals = walked.given.value

    abbrev formals : Region
    formals = walked.there.formals

    abbrev region : Region
    region = walked.there.region

    generic_walked : IsGenericWalked l main p legal x g formals region
    generic_walked = h.generics g formals region walked.there.is

    generic_set : interface_of final g ≡ generic_interface formals region
    generic_set = of_either (at.grown g)
      where
        of_either : (interface_of x.world g ≡ no_interface) ⊎ (interface_of final g ≡ interface_of x.world g) → interface_of final g ≡ generic_interface formals region
        of_either (inl none) = absurd (cc (sym none ∙ walked.there.is))
        of_either (inr same) = same ∙ walked.there.is

    -- its actuals fit, and its generic is known in it
    env_known : IsEnv p 0 (IsOneOf h.types) (shapes p 0) (Sees p 0) env
    env_known =
        unit_there p h.types (IsOneOf h.types) (λ t z. z) h.integers h.booleans x.world h.standard h.shows 0 no_subprogram n (key i.name) (seen_in x.world l u hidden)
        (library_there p h.types (IsOneOf h.types) (λ t z. z) h.integers h.booleans x.world h.standard h.shows 0 no_subprogram l (clause_names u.withs)
        ((key (item_name u.item), hidden) ∷ []) (tt, tt))

    fits : AreGiven p (IsOneOf h.types) k [] formals actuals
    fits =
        instance_fits p (IsOneOf h.types) h.apart (shapes p 0) (Sees p 0) env x.next u.item_pos n k i y walked formals region walked.there.is env_known

    text_known : IsReplayed us main p legal of_facts in_order texts served have h.types g k region x.next.objects_declared
    text_known =
        replayed us main p legal of_facts in_order texts served have x h g formals region generic_walked generic_walked.names k actuals at_it.instance
        at_it.stands fits generic_set

    abbrev new : List AdaType
    new = text_known.new

    -- types
    abbrev es : List AdaType
    es = types_through p k actuals h.types new

    of_actuals : (j : ℕ) (t : AdaSubtype) → slice_get actuals j ≡ Some (type_actual t) → IsOneOf h.types (type_in t)
    of_actuals j t there = given_types p (IsOneOf h.types) k formals actuals j t fits there

    more : (t : AdaType) → IsOneOf h.types t → IsOneOf es t
    more t there = old_through p k actuals h.types new t there

    is_it : is_instance u.item ≡ true
    is_it = ap is_instance item

    no_home : (c m : ℕ) → IsHome l main p legal x.world c m → c ≡ k → ⊥
    no_home c m (inl z) same = subst (StandsIn p (Some g)) (sym same ∙ z.0) at_it.stands
    no_home c m (inr z) same =
        z.is_set (ap (interface_of x.world) (own_numbers us z.unit n z.home u z.there at.there z.instance_item is_it (z.number ∙ same)) ∙ at.fresh)

    fresh : (t : AdaType) → IsOneOf h.types t → IsOfInstance k (identity_of t) → ⊥
    fresh t there = by_identity (identity_of t) refl
      where
        by_identity : (j : Identity) → identity_of t ≡ j → IsOfInstance k j → ⊥
        by_identity integer e z = z
        by_identity natural e z = z
        by_identity positive e z = z
        by_identity boolean e z = z
        by_identity (declared_in here m d) e z = z
        by_identity (declared_in (of_instance c) m d) e z = no_home c m (h.homes t there c m d e) z

    apart : AreApart p (IsOneOf es)
    apart = apart_seen p k actuals h.types new g h.apart text_known.apart h.owned text_known.own fresh h.integers of_actuals

    seen_through : AreSeenAs p 0 k actuals (IsOneOf (h.types ++ new)) (IsOneOf es)
    seen_through = seen_as p k actuals h.types new h.owned h.integers of_actuals 0

    -- what is set
    set_now : interface_of y.world n ≡ instance_interface (Some g) k actuals
    set_now =
        let less : n < length x.world.interfaces = subst (λ m. n < m) (sym h.sized) (below_length us n u at.there) in
        ap (λ (v : Walked). interface_of v.world n) (sym walked.is)
        ∙ ap (λ o. unwrap_or o no_interface) (set_there x.world.interfaces n (instance_interface (Some g) k actuals) less)

    is_set : interface_of y.world n ≡ no_interface → ⊥
    is_set none = cc (sym none ∙ set_now)

    generic_still : interface_of y.world g ≡ generic_interface formals region
    generic_still = at.steps.others g (λ e. cc (sym at.fresh ∙ (ap (interface_of x.world) e ∙ walked.there.is))) ∙ walked.there.is

    grown_now : IsGrown x.world y.world
    grown_now m = by_number (nat_eq n m) refl
      where
        by_number : (b : Bool) → nat_eq n m ≡ b → (interface_of x.world m ≡ no_interface) ⊎ (interface_of y.world m ≡ interface_of x.world m)
        by_number true e = inl (ap (interface_of x.world) (sym (eqb-true n m e)) ∙ at.fresh)
        by_number false e = inr (at.steps.others m (λ same. false≢true (sym e ∙ eq-eqb n m same)))

    grown_later : IsGrown y.world final
    grown_later m = by_number (nat_eq n m) refl
      where
        of_either : interface_of y.world m ≡ interface_of x.world m → (interface_of x.world m ≡ no_interface) ⊎ (interface_of final m ≡ interface_of x.world m)
            → (interface_of y.world m ≡ no_interface) ⊎ (interface_of final m ≡ interface_of y.world m)
        of_either still (inl none) = inl (still ∙ none)
        of_either still (inr same) = inr (same ∙ sym still)

        by_number : (b : Bool) → nat_eq n m ≡ b → (interface_of y.world m ≡ no_interface) ⊎ (interface_of final m ≡ interface_of y.world m)
        by_number true e = inr (subst (λ j. interface_of final j ≡ interface_of y.world j) (eqb-true n m e) at.set)
        by_number false e = of_either (at.steps.others m (λ same. false≢true (sym e ∙ eq-eqb n m same))) (at.grown m)

    -- the actuals declare nothing
    quiet : OnlyStatics (at_unit x.next) walked.given.next
    quiet =
        of_ok (Behind (at_unit x.next)) (actuals_judged env (at_unit x.next) u.item_pos k [] formals i.actuals).answer walked.given walked.judged
        (actuals_keep env (at_unit x.next) u.item_pos k [] formals i.actuals)

    same_objects : y.next.objects_declared ≡ x.next.objects_declared
    same_objects = ap (λ (v : Walked). v.next.objects_declared) (sym walked.is) ∙ ap (λ (s : State). s.objects_declared) quiet

    same_words : y.next.words ≡ x.next.words
    same_words = ap (λ (v : Walked). v.next.words) (sym walked.is) ∙ ap (λ (s : State). s.words) quiet

    same_count : y.next.objects ≡ x.next.objects
    same_count = ap (λ (v : Walked). v.next.objects) (sym walked.is) ∙ ap (λ (s : State). s.objects) quiet

    step : IsStep l main p legal x n y
    step = record {
      fresh = at.fresh;
      steps = at.steps;
      grown = grown_now;
      more = [];
      objects = same_objects;
      of_text = tt;
      set_texts = tt;
      base = subst (λ (v : Walked). Everywhere AreFactsInBase v.world.instances) walked.is
          (set_in_base x.world.instances k (facts_made x.world (Some g) actuals) (reverse walked.given.next.constants_declared) h.base
          (made_in_base x.world (Some g) actuals h.base));
      sized = ap (λ (v : Walked). length v.world.interfaces) (sym walked.is)
          ∙ (set_length x.world.interfaces n (instance_interface (Some g) k actuals) ∙ h.sized);
      words = same_words ∙ h.words;
      counted = same_count ∙ (h.counted ∙ ap length (sym same_words));
    }

    -- what is known of it
    parts : (name : List ℕ) → IfSome (part_of_interface y.world name (interface_of y.world n)) (IsAnywhere p es)
    parts name =
        let part_is : part_of_interface y.world name (interface_of y.world n) ≡ part_of_generic k actuals name (generic_interface formals region) =
        ap (part_of_interface y.world name) set_now ∙ ap (part_of_generic k actuals name) generic_still in
        let shows_closed = (closed_earlier y.world final grown_later closed).parts n name in
        subst (λ o. IfSome o (IsAnywhere p es)) (sym part_is)
        (shown_through p k actuals (IsOneOf (h.types ++ new)) es seen_through formals region name text_known.known (subst (λ o. IfSome o (λ z. IsWhole z × IsClosedEntity z)) part_is shows_closed))

    joined_more : (t : AdaType) → IsOneOf (h.types ++ new) t → IsOneOf (es ++ new) t
    joined_more t there = of_either (in_either h.types new t there)
      where
        of_either : IsOneOf h.types t ⊎ IsOneOf new t → IsOneOf (es ++ new) t
        of_either (inl old) = in_first es new t (more t old)
        of_either (inr own) = in_second es new t own

    known_more : IsRegion p k (IsOneOf (es ++ new)) (shapes p k) (Sees p k) region
    known_more =
        region_wider p k (IsOneOf (h.types ++ new)) (IsOneOf (es ++ new)) joined_more (shapes p k) (Sees p k) (Sees p k) (λ o z. z) region text_known.known

    instance_known : (o : Option ℕ) (j : ℕ) (others : List Actual) → interface_of y.world n ≡ instance_interface o j others → IsInstanceKnown l main p legal es y n j o
    instance_known o j others e =
        let same = sym set_now ∙ e in
        let number_is : k ≡ j = ap number_in same in
        record {
          number = g;
          is = sym (ap generic_in same);
          formals = formals;
          region = region;
          shows = generic_still;
          counts = number_is;
          stands = subst (StandsIn p (Some g)) number_is at_it.stands;
          new = new;
          own = text_known.own;
          apart = text_known.apart;
          known = subst (λ c. IsRegion p c (IsOneOf (es ++ new)) (shapes p c) (Sees p c) region) number_is known_more;
          objects = subst (λ c. ObjectsAt p c y.next.objects_declared) number_is (subst (ObjectsAt p k) (sym same_objects) text_known.objects);
        }

    new_known : IsNewKnown l main p legal es y n
    new_known = record {
      parts = parts;
      is_unit = subst (λ j. IsAnywhere p es (entity_of_interface n j)) (sym set_now) (unit_anywhere p es n);
      region = λ r e. absurd (cc (sym set_now ∙ e));
      rooted = subst (IsRooted y.world) (sym set_now) (λ none. cc (sym none ∙ generic_still));
      generic = λ fs r e. absurd (cc (sym set_now ∙ e));
      instance = instance_known;
    }

    made_home : (c m : ℕ) → k ≡ c → IsHome l main p legal y.world c m
    made_home c m same = inr (record { unit = n; home = u; there = at.there; instance_item = is_it; number = same; is_set = is_set })

    homes : (t : AdaType) → IsOneOf es t → (c m j : ℕ) → identity_of t ≡ declared_in (of_instance c) m j → IsHome l main p legal y.world c m
    homes =
        identity_through p k actuals h.types new h.owned h.integers of_actuals g text_known.own
        (λ a. (c m j : ℕ) → a ≡ declared_in (of_instance c) m j → IsHome l main p legal y.world c m)
        (λ t there c m j e. home_still l main p legal x n y h step es more new_known c m (h.homes t there c m j e))
        (λ d c m j e. made_home c m (ap instance_in e))

    pub instance_step : IsSeenSo l main p legal y
    instance_step =
        world_next l main p legal x n y h step es more new_known apart (world_through p k actuals h.types new h.owned) homes
        (subst (ObjectsAt p 0) (sym same_objects) h.objects)
