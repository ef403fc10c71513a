-- An instance has the values of the constants of its generic, where these look no further than at what was declared before.
use Rattle.std.proofs.Common.{◌≡◌, ◌≤◌, ◌<◌, ℕ, zero, suc, pred, nat_eq, Bool, true, false, List, [], ◌∷◌, map, reverse, length, Option, Some, None, IfSome, IfOk, set, slice_get, refl, sym, ap, ◌∙◌, subst, arith, inl, inr}
use Rattle.std.specs.Prelude.{◌||◌, unwrap_or}
use Rattle.std.specs.Option.{option_and_then}
use Rattle.std.proofs.lemmas.Bool.{eqb-true, eq-eqb, false≢true}
use Rattle.cov_base.specs.Lists.{Everywhere}
use Rattle.cov_base.specs.declared.position.Pos.{Pos}
use Rattle.ada_syntax.specs.declared.name.Identifier.{Identifier}
use Rattle.ada_syntax.specs.declared.unit.Instance.{Instance as SourceInstance}
use Rattle.ada_syntax.specs.declared.unit.Unit.{Unit as LibraryUnit}
use Rattle.ada_meaning.specs.Program.{GenericConstant}
use Rattle.ada_meaning.specs.Statics.{constants_of}
use Rattle.ada_rules.specs.Entities.{key, Entity, hidden, mark, literal, object, formal_object, routine, raisable, component, test_io, unit, Region, Actual, visible}
use Rattle.ada_rules.specs.Environment.{typing, Interface, no_interface, package_interface, generic_interface, instance_interface, subprogram_interface, World, interface_of, State, Env, regions_of}
use Rattle.ada_rules.specs.Instances.{generic_number, generic_of, generic_or_any, generic_named, formals_of, actuals_judged, facts_made, typed_actual}
use Rattle.ada_rules.specs.Library.{count_instances, instance_number}
use Rattle.ada_rules.specs.Plan.{◌>>=◌, rule}
use Rattle.ada_rules.specs.Statics.{Facts, number_of_fact, bounds_of_fact, with_constants, instance_values}
use Rattle.ada_rules.specs.Units.{env_of, Walked, at_unit, with_instance, instance_judged}
use Rattle.legal_laws.proofs.Passing.{answered, part_so, ruled_so, if_then, both_ok}
use Rattle.legal_programs.specs.Growing.{Adds}
use Rattle.legal_programs.proofs.Adding.{Add, adds_both}
use Rattle.legal_programs.proofs.ExtendingUnits.{actuals_add, adds_at_unit}
use Rattle.legal_programs.proofs.FactsInBase.{made_in_base, set_in_base}
use Rattle.legal_programs.proofs.Lists.{longer_same, longer_both}
use Rattle.legal_instances.specs.Within.{Made, IsHere, count_in, had_by, IsRegionWithin, Goes, own_of, HasParts, IsInterfaceWithin}
use Rattle.legal_instances.proofs.Cycles.{In}
use Rattle.legal_instances.proofs.FormedActuals.{AreActualsWithin, actuals_so, AreFormed, formed_first, formed_stays, all_formed_stay}
use Rattle.legal_instances.proofs.InstanceNumbers.{IsInstanceAt, number_positive, number_counted, set_here, set_others}
use Rattle.legal_instances.proofs.KeptInstances.{numbers_apart}
use Rattle.legal_instances.proofs.KeptInterfaces.{StandOnce}
use Rattle.legal_instances.proofs.KeptWalk.{instance_so}
use Rattle.legal_instances.proofs.ValuesAgree.{AgreeAt, Agree, own_count, in_order_within, constants_agree, values_length}
use Rattle.legal_instances.proofs.WithinFormals.{actuals_go}
use Rattle.legal_instances.proofs.WithinMore.{IsMore, own_grown, region_more, constants_more}
use Rattle.legal_instances.proofs.WithinStatements.{Go}
use Rattle.legal_instances.proofs.WithinUnits.{made_by, made_from, key_made, key_instance, IsValued, IsReady, generic_same, other_same, set_world}
use Rattle.legal_instances.proofs.WithinWorld.{unit_here, own_is_longer}

-- the generic that an instance names
pub record IsGenericThere (w : World) (g : ℕ) : Type 0 where
  pub formals : Region
  pub region : Region
  pub is : interface_of w g ≡ generic_interface formals region

abbrev pub IsGeneric : World → Option ℕ → Type 0
IsGeneric w None = ⊥
IsGeneric w (Some g) = IsGenericThere w g

generic_is : (w : World) (n : ℕ) (name : List ℕ) (region : Region) (i : Identifier) → IfOk (generic_named (env_of typing w n name region) i).answer (IsGeneric w)
generic_is w n name region i =
    answered (IsGeneric w) i.pos (rule (option_and_then (λ x. generic_or_any env (generic_of w x)) (visible (key i) (regions_of env)))).outcome
    (ruled_so (IsGeneric w) _ (if_then (λ x. Unit {0}) (IsGeneric w) (λ x. generic_or_any env (generic_of w x)) (visible (key i) (regions_of env))
    (any_some (visible (key i) (regions_of env))) (λ x u. of_entity x)))
  where
    env : Env
    env = env_of typing w n name region

    any_some : (o : Option Entity) → IfSome o (λ x. Unit {0})
    any_some None = tt
    any_some (Some x) = tt

    of_interface : (g : ℕ) (j : Interface) → interface_of w g ≡ j → IfSome (generic_or_any env (generic_number w g j)) (IsGeneric w)
    of_interface g no_interface e = tt
    of_interface g (package_interface r) e = tt
    of_interface g (generic_interface f r) e = record { formals = f; region = r; is = e }
    of_interface g (instance_interface o k actuals) e = tt
    of_interface g (subprogram_interface r) e = tt

    of_entity : (x : Entity) → IfSome (generic_or_any env (generic_of w x)) (IsGeneric w)
    of_entity hidden = tt
    of_entity (mark j t) = tt
    of_entity (literal t x) = tt
    of_entity (object v) = tt
    of_entity (formal_object t e) = tt
    of_entity (routine r) = tt
    of_entity (raisable e) = tt
    of_entity component = tt
    of_entity test_io = tt
    of_entity (unit g) = of_interface g (interface_of w g) refl

-- facts that are the same give the same values
pub same_values : (fs gs : List Facts) (i : ℕ) → slice_get fs i ≡ slice_get gs i → (n : ℕ) → AgreeAt (instance_values fs) (instance_values gs) (suc i) n
same_values fs gs i e n = record {
  objects = λ k. ap (λ o. number_of_fact (option_and_then (λ f. slice_get f.formals k) o)) e;
  types = λ k. ap (λ o. bounds_of_fact (option_and_then (λ f. slice_get f.formals k) o)) e;
  constants = λ k less. ap (λ o. option_and_then (λ f. unwrap_or (slice_get f.constants k) None) o) e;
}

pub same_at : (fs gs : List Facts) (i : ℕ) → 1 ≤ i → slice_get fs (pred i) ≡ slice_get gs (pred i) → (n : ℕ) → AgreeAt (instance_values fs) (instance_values gs) i n
same_at fs gs zero less e n = absurd (none less)
  where
    none : 1 ≤ 0 → ⊥
    none l = omega (arith, l)
same_at fs gs (suc i) less e n = same_values fs gs i e n

module _ (us : List LibraryUnit) (ks ns : List ℕ) (n : ℕ) (at : IsInstanceAt us n) (once : StandOnce (n ∷ ns)) (w : World) (s : State)
    (ready : IsReady us ks (n ∷ ns) (record { world = w; next = s })) (i : SourceInstance) (g : ℕ) (generic : IsGenericThere w g) (actuals : List Actual) (t : State)
    (all : Adds s t) (goes : Goes (made_by us ks w.instances) None s t) (looks : AreActualsWithin (made_by us ks w.instances) actuals) where
  abbrev k : ℕ
  k = instance_number n us

  abbrev had : Made
  had = made_by us ks w.instances

  abbrev made : Facts
  made = facts_made w (Some g) actuals

  abbrev cs : List GenericConstant
  cs = t.constants_declared

  abbrev has : Facts
  has = with_constants (set w.instances (pred k) made) (reverse cs) k made

  abbrev facts : List Facts
  facts = set w.instances (pred k) has

  abbrev more : Made
  more = made_by us (n ∷ ks) facts

  key_at : (m : ℕ) → In ks m → IsInstanceAt us m
  key_at m there = key_instance us w.instances s.demands s.instances_declared ks m ready.made.kept there

  not_yet : In ks n → ⊥
  not_yet there = ready.apart n (inl refl) there

  key_other : (m : ℕ) → In ks m → pred k ≡ pred (instance_number m us) → ⊥
  key_other m there = numbers_apart us n m at (key_at m there) (λ e. not_yet (subst (In ks) (sym e) there))

  -- facts of instances that were made stay
  stays : (x : Facts) (m : ℕ) → In ks m → slice_get (set w.instances (pred k) x) (pred (instance_number m us)) ≡ slice_get w.instances (pred (instance_number m us))
  stays x m there = set_others w.instances (pred k) (pred (instance_number m us)) x (key_other m there)

  below : pred k < length w.instances
  below =
      let count = number_counted us n at in
      let positive = number_positive n us in
      let size = ready.made.counted in
      under k (count_instances us) (length w.instances) positive count size
    where
      under : (a b c : ℕ) → 1 ≤ a → a ≤ b → c ≡ b → pred a < c
      under zero b c e f h = absurd (none e)
        where
          none : 1 ≤ 0 → ⊥
          none l = omega (arith, l)
      under (suc a) b c e f h = omega (arith, f, h)

  is_set : slice_get facts (pred k) ≡ Some has
  is_set = set_here w.instances (pred k) has below

  count_at : (fs : List Facts) (j : ℕ) → 1 ≤ j → had_by fs j ≡ count_in (slice_get fs (pred j))
  count_at fs zero less = absurd (none less)
    where
      none : 1 ≤ 0 → ⊥
      none l = omega (arith, l)
  count_at fs (suc j) less = refl

  -- it has as many constants as its generic
  own_has : had_by facts k ≡ own_of (Some g) cs
  own_has =
      let long = values_length (instance_values (set w.instances (pred k) made)) k [] (constants_of g (reverse cs)) in
      let own = own_count g cs in
      count_at facts k (number_positive n us) ∙ (ap count_in is_set ∙ omega (arith, long, own))

  unmade_yet : had.is_made k ≡ false
  unmade_yet = by_test (had.is_made k) refl
    where
      by_test : (b : Bool) → had.is_made k ≡ b → b ≡ false
      by_test false e = refl
      by_test true e =
          let from = made_from us ks k e in
          absurd (key_other from.key from.there (sym (ap pred from.number)))

  grown : IsMore had more
  grown = record {
    made = λ j h. either_way (nat_eq k j) (had.is_made j) h;
    counts = λ j. by_number j (nat_eq k j) refl;
  }
    where
      either_way : (a b : Bool) → b ≡ true → (a || b) ≡ true
      either_way true b h = refl
      either_way false b h = h

      by_place : (j : ℕ) → (k ≡ suc j → ⊥) → had_by w.instances (suc j) ≤ had_by facts (suc j)
      by_place j other =
          let same = ap count_in (set_others w.instances (pred k) j has (λ e. other (place_of k j (number_positive n us) e))) in
          omega (arith, same)
        where
          place_of : (a b : ℕ) → 1 ≤ a → pred a ≡ b → a ≡ suc b
          place_of zero b h e = absurd (none h)
            where
              none : 1 ≤ 0 → ⊥
              none l = omega (arith, l)
          place_of (suc a) b h e = ap suc e

      of_other : (j : ℕ) → (k ≡ j → ⊥) → had_by w.instances j ≤ had_by facts j
      of_other zero other = omega (arith)
      of_other (suc j) other = by_place j other

      by_number : (j : ℕ) (b : Bool) → nat_eq k j ≡ b → had_by w.instances j ≤ had_by facts j
      by_number j true e =
          let none = ready.unmade n (inl refl) at in
          subst (λ m. had_by w.instances m ≤ had_by facts m) (eqb-true k j e) (omega (arith, none))
      by_number j false e = of_other j (λ same. false≢true (sym e ∙ eq-eqb k j same))

  -- values of instances that were made before stay
  agree_before : (bound : Made) → IsMore bound had → (x : Facts) → Agree bound (instance_values w.instances) (instance_values (set w.instances (pred k) x))
  agree_before bound less x j made_there =
      let from = made_from us ks j (less.made j made_there) in
      let number = from.number in
      subst (λ m. AgreeAt (instance_values w.instances) (instance_values (set w.instances (pred k) x)) m (bound.count j)) number
      (same_at w.instances (set w.instances (pred k) x) (instance_number from.key us) (number_positive from.key us) (sym (stays x from.key from.there)) (bound.count j))

  agree_between : (x y : Facts) → Agree had (instance_values (set w.instances (pred k) x)) (instance_values (set w.instances (pred k) y))
  agree_between x y j made_there =
      let from = made_from us ks j made_there in
      let number = from.number in
      subst (λ m. AgreeAt (instance_values (set w.instances (pred k) x)) (instance_values (set w.instances (pred k) y)) m (had.count j)) number
      (same_at (set w.instances (pred k) x) (set w.instances (pred k) y) (instance_number from.key us) (number_positive from.key us)
      (stays x from.key from.there ∙ sym (stays y from.key from.there)) (had.count j))

  -- its own formals
  own_object : (j : ℕ) → (instance_values (set w.instances (pred k) made)).object k j ≡ (instance_values facts).object k j
  own_object j = of_number k (number_positive n us) (set_here w.instances (pred k) made below) is_set
    where
      of_number : (m : ℕ) → 1 ≤ m → slice_get (set w.instances (pred m) made) (pred m) ≡ Some made → slice_get (set w.instances (pred m) has) (pred m) ≡ Some has
          → (instance_values (set w.instances (pred m) made)).object m j ≡ (instance_values (set w.instances (pred m) has)).object m j
      of_number zero h e f = refl
      of_number (suc m) h e f =
          ap (λ o. number_of_fact (option_and_then (λ x. slice_get x.formals j) o)) e
          ∙ sym (ap (λ o. number_of_fact (option_and_then (λ x. slice_get x.formals j) o)) f)

  own_type : (j : ℕ) → (instance_values (set w.instances (pred k) made)).type k j ≡ (instance_values facts).type k j
  own_type j = of_number k (number_positive n us) (set_here w.instances (pred k) made below) is_set
    where
      of_number : (m : ℕ) → 1 ≤ m → slice_get (set w.instances (pred m) made) (pred m) ≡ Some made → slice_get (set w.instances (pred m) has) (pred m) ≡ Some has
          → (instance_values (set w.instances (pred m) made)).type m j ≡ (instance_values (set w.instances (pred m) has)).type m j
      of_number zero h e f = refl
      of_number (suc m) h e f =
          ap (λ o. bounds_of_fact (option_and_then (λ x. slice_get x.formals j) o)) e
          ∙ sym (ap (λ o. bounds_of_fact (option_and_then (λ x. slice_get x.formals j) o)) f)

  valued_new : IsValued us (n ∷ ks) facts cs n
  valued_new = record {
    has = has;
    there = is_set;
    earlier = cs;
    longer = longer_same cs cs refl;
    values = constants_agree had (instance_values (set w.instances (pred k) made)) (instance_values facts) (agree_between made has) k own_object own_type
        [] (constants_of g (reverse cs)) (in_order_within had g cs goes.constants);
    pre = had;
    unmade = unmade_yet;
    more = grown;
    within = in_order_within had g cs goes.constants;
  }

  valued_old : (m : ℕ) → In ks m → IsValued us ks w.instances s.constants_declared m → IsValued us (n ∷ ks) facts cs m
  valued_old m there h =
      let same = same_at w.instances facts (instance_number m us) (number_positive m us) (sym (stays has m there)) 0 in record {
        has = h.has;
        there = stays has m there ∙ h.there;
        earlier = h.earlier;
        longer = longer_both h.earlier s.constants_declared cs h.longer all.constants;
        values = h.values ∙ constants_agree h.pre (instance_values w.instances) (instance_values facts) (agree_before h.pre h.more has) (instance_number m us)
            same.objects same.types [] (constants_of h.has.generic (reverse h.earlier)) h.within;
        pre = h.pre;
        unmade = h.unmade;
        more = record {
          made = λ j l. grown.made j (h.more.made j l);
          counts = λ j. (let first = h.more.counts j in let second = grown.counts j in omega (arith, first, second));
        };
        within = h.within;
      }

  all_valued_old : (ms : List ℕ) → ((m : ℕ) → In ms m → In ks m) → Everywhere (IsValued us ks w.instances s.constants_declared) ms → Everywhere (IsValued us (n ∷ ks) facts cs) ms
  all_valued_old [] inside h = tt
  all_valued_old (m ∷ ms) inside h = (valued_old m (inside m (inl refl)) h.0, all_valued_old ms (λ j l. inside j (inr l)) h.1)

  -- what is seen of its generic
  parts : HasParts more (record w { interfaces = set w.interfaces n (instance_interface (Some g) k actuals); instances = facts }) g (more.count k)
  parts =
      let own = subst (IsInterfaceWithin had w s.constants_declared g) generic.is (ready.world.interfaces g) in
      let count = own_has in
      let longer = own_is_longer g s.constants_declared cs all.constants in
      record {
        formals = generic.formals;
        region = generic.region;
        is = generic_same had more grown w s.constants_declared cs all.constants n (instance_interface (Some g) k actuals) facts (ready.fresh n (inl refl))
            g generic.formals generic.region generic.is;
        within = region_more had more grown true true (λ e. e) (own_of (Some g) s.constants_declared) (more.count k) (omega (arith, count, longer)) generic.region own.1;
      }

  pub instance_ready : (p : Pos) → p ≡ at.unit.item_pos → IsReady us (n ∷ ks) ns (with_instance w p n k i (Some g) actuals t)
  instance_ready p place = record {
    made = instance_so us ks w p n n i (Some g) actuals s t at place tt all not_yet ready.made;
    world = set_world had more grown w s.constants_declared cs all.constants n (instance_interface (Some g) k actuals) facts (ready.fresh n (inl refl))
        ready.world (constants_more had more grown cs goes.constants) (key_made us (n ∷ ks) n (inl refl), parts);
    valued = (valued_new, all_valued_old ks (λ m l. l) ready.valued);
    fresh = λ m there. other_same had more grown w s.constants_declared cs all.constants n (instance_interface (Some g) k actuals) facts (ready.fresh n (inl refl))
        m (λ e. once.0 (subst (In ns) (sym e) there)) ∙ ready.fresh m (inr there);
    unmade = λ m there here. (
        let other = numbers_apart us n m at here (λ e. once.0 (subst (In ns) (sym e) there)) in
        count_at facts (instance_number m us) (number_positive m us)
        ∙ (ap count_in (set_others w.instances (pred k) (pred (instance_number m us)) has other)
        ∙ (sym (count_at w.instances (instance_number m us) (number_positive m us)) ∙ ready.unmade m (inr there) here)));
    apart = λ m there h. not_both m there h;
    base = set_in_base w.instances k (facts_made w (Some g) actuals) (reverse cs) ready.base (made_in_base w (Some g) actuals ready.base);
    formed = (
      formed_stays had more grown w.instances facts (agree_before had (own_grown had) has) (map (typed_actual w.instances) actuals)
          (formed_first had w.instances actuals looks),
      subst (AreFormed more facts) (sym all.instances)
          (all_formed_stay had more grown w.instances facts (agree_before had (own_grown had) has) s.instances_declared ready.formed),
    );
  }
    where
      not_both : (m : ℕ) → In ns m → In (n ∷ ks) m → ⊥
      not_both m there (inl e) = once.0 (subst (In ns) (sym e) there)
      not_both m there (inr h) = ready.apart m (inr there) h

-- as the rules make it
pub instance_stepped : (us : List LibraryUnit) (ks ns : List ℕ) (n : ℕ) → (at : IsInstanceAt us n) → StandOnce (n ∷ ns) → (w : World) (s : State)
    → IsReady us ks (n ∷ ns) (record { world = w; next = s }) → (name : List ℕ) (region : Region) (p : Pos) (i : SourceInstance) → p ≡ at.unit.item_pos
    → IsRegionWithin (made_by us ks w.instances) false 0 region
    → IfOk (instance_judged (env_of typing w n name region) s p n (instance_number n us) i).answer (IsReady us (n ∷ ks) ns)
instance_stepped us ks ns n at once w s ready name region p i place h =
    answered Ready p _
    (part_so (IsGeneric w) Ready (generic_named env i.generic_name).answer
    (λ g. actuals_judged env (at_unit s) p (instance_number n us) [] (formals_of w g) i.actuals
    >>= (λ actuals. rule (Some (with_instance w p n (instance_number n us) i g actuals.value actuals.next))))
    (generic_is w n name region i.generic_name)
    (λ g there. part_so (λ actuals. (Add (at_unit s) actuals × Go had None (at_unit s) actuals) × AreActualsWithin had actuals.value) Ready (actuals_judged env (at_unit s) p (instance_number n us) [] (formals_of w g) i.actuals).answer
    (λ actuals. rule (Some (with_instance w p n (instance_number n us) i g actuals.value actuals.next)))
    (both_ok (λ actuals. Add (at_unit s) actuals × Go had None (at_unit s) actuals) (λ actuals. AreActualsWithin had actuals.value)
    (actuals_judged env (at_unit s) p (instance_number n us) [] (formals_of w g) i.actuals).answer
    (both_ok (Add (at_unit s)) (Go had None (at_unit s)) (actuals_judged env (at_unit s) p (instance_number n us) [] (formals_of w g) i.actuals).answer
    (actuals_add env (at_unit s) p (instance_number n us) [] (formals_of w g) i.actuals)
    (actuals_go had env (at_unit s) p (instance_number n us) [] (formals_of w g) i.actuals here))
    (actuals_so had w ready.base n name region (at_unit s) p (instance_number n us) [] (formals_of w g) i.actuals here tt))
    (λ actuals all. made_ready g there actuals.value actuals.next (adds_both s (at_unit s) actuals.next (adds_at_unit s) all.0.0)
    (record { constants = all.0.1.constants; more = all.0.1.more }) all.1)))
  where
    env : Env
    env = env_of typing w n name region

    had : Made
    had = made_by us ks w.instances

    Ready : Walked → Type 0
    Ready = IsReady us (n ∷ ks) ns

    here : IsHere had env (at_unit s)
    here = unit_here had w s.constants_declared ready.world n name region (at_unit s) refl h

    made_ready : (g : Option ℕ) → IsGeneric w g → (actuals : List Actual) (t : State) → Adds s t → Goes had None s t → AreActualsWithin had actuals
        → IsReady us (n ∷ ks) ns (with_instance w p n (instance_number n us) i g actuals t)
    made_ready None there actuals t all goes looks = absurd there
    made_ready (Some g) there actuals t all goes looks = instance_ready us ks ns n at once w s ready i g there actuals t all goes looks p place
