-- Constants of a legal program have the values of their expressions in each instance.
use Rattle.std.proofs.Common.{◌≡◌, ◌≤◌, ◌<◌, ◌+◌, ℕ, zero, suc, pred, nat_eq, pos, Bool, true, false, if◌then◌else◌, List, [], ◌∷◌, ◌++◌, reverse, length, Option, Some, None, option_map, slice_get, refl, sym, ap, ◌∙◌, subst, arith, inl, inr, append-nil}
use Rattle.std.specs.Prelude.{unwrap_or}
use Rattle.std.specs.Option.{option_and_then}
use Rattle.std.specs.List.{sum_by}
use Rattle.std.proofs.lemmas.List.{reverse-append}
use Rattle.std.proofs.lemmas.Bool.{eqb-true, false≢true}
use Rattle.cov_base.specs.Lists.{Everywhere, Somewhere}
use Rattle.ada_syntax.specs.declared.unit.Unit.{Unit as LibraryUnit}
use Rattle.ada_meaning.specs.Bodies.{StandsIn}
use Rattle.ada_meaning.specs.Arithmetic.{base_range}
use Rattle.ada_meaning.specs.Program.{FormalActual, actual_object, actual_type, actual_subprogram, GenericConstant, Instance, Program}
use Rattle.ada_meaning.specs.Resolved.{number_in}
use Rattle.ada_meaning.specs.Statics.{static_bounds, InstanceValues, constant_values, constants_of, values_of}
use Rattle.ada_rules.specs.Entities.{whole_standard}
use Rattle.ada_rules.specs.Environment.{typing, State, beginning_state}
use Rattle.ada_rules.specs.Instances.{number_of}
use Rattle.ada_rules.specs.Legal.{with_values}
use Rattle.ada_rules.specs.Library.{Library, is_instance, count_instances, instance_number, units_but_bodies, library_of}
use Rattle.ada_rules.specs.Statics.{Asked, Facts, number_of_fact, bounds_of_fact, with_constants, instance_values, instances_from}
use Rattle.ada_rules.specs.Units.{all_interfaces, all_bodies_judged, world_before, all_with_constants}
use Rattle.legal_laws.specs.Served.{HaveOwnValues}
use Rattle.legal_laws.specs.Scoped.{AreValued}
use Rattle.legal_laws.proofs.Passing.{every_so}
use Rattle.legal_laws.proofs.ScopedValues.{first_values, values_kept}
use Rattle.legal_laws.proofs.Values.{values_alike}
use Rattle.legal_programs.specs.Final.{IsServed}
use Rattle.legal_programs.specs.Growing.{IsLonger, Extends}
use Rattle.legal_programs.specs.Walked.{IsLegal}
use Rattle.legal_programs.proofs.Counted.{states_of}
use Rattle.legal_programs.proofs.Finals.{final_served}
use Rattle.legal_programs.proofs.Headings.{are_headed, have_homes}
use Rattle.legal_programs.proofs.Lists.{longer_both}
use Rattle.legal_programs.proofs.Passed.{of_ok}
use Rattle.legal_instances.specs.InOrder.{UnitsRise}
use Rattle.legal_instances.specs.Resolved.{HaveConstants, IsStaticActual, HaveStaticActuals}
use Rattle.legal_instances.specs.Within.{Made, count_in, AreConstantsWithin}
use Rattle.legal_instances.proofs.Cycles.{In}
use Rattle.legal_instances.proofs.FormedActuals.{IsFormed, AreFormed, all_formed_stay, formed_in_order, formed_with_values}
use Rattle.legal_instances.proofs.InstanceNumbers.{IsInstanceAt}
use Rattle.legal_instances.proofs.KeptWalk.{is_instance_there, with_instance_unit, instances_among}
use Rattle.legal_instances.proofs.LegalInstances.{instances_are, all_beside, in_places, facts_of_instances, looked_at}
use Rattle.legal_instances.proofs.Sums.{same_both, same_back, there_too}
use Rattle.legal_instances.proofs.TextInstances.{AreBeside, units_once, same_once, same_chosen, instance_no_body}
use Rattle.legal_instances.proofs.ValuesAgree.{Agree, AreListWithin, in_order_within, constants_agree, values_joined, values_length, AllLook, all_valued}
use Rattle.legal_instances.proofs.WholeOrder.{none_some, or_else, among_units, legal_order}
use Rattle.legal_instances.proofs.WithinLibrary.{IsAllReady, interfaces_ready, ready_at_first, all_bodies_so}
use Rattle.legal_instances.proofs.WithinMore.{own_grown}
use Rattle.legal_instances.proofs.WithinUnits.{made_by, made_from, IsValued}

-- items of lists
pub every_in : (P : ℕ → Type 0) (xs : List ℕ) (n : ℕ) → Everywhere P xs → In xs n → P n
every_in P [] n h there = absurd there
every_in P (x ∷ xs) n h (inl e) = subst P e h.0
every_in P (x ∷ xs) n h (inr there) = every_in P xs n h.1 there

-- an instance for each number
pub record IsNumbered (us : List LibraryUnit) (j : ℕ) : Type 0 where
  pub unit : ℕ
  pub at : IsInstanceAt us unit
  pub number : instance_number unit us ≡ suc j

numbered_later : (u : LibraryUnit) (us : List LibraryUnit) (j k : ℕ) (b : Bool) → is_instance u.item ≡ b → (if b then suc j + 1 else suc j) ≡ suc k → IsNumbered us j → IsNumbered (u ∷ us) k
numbered_later u us j k b e f h = record {
  unit = suc h.unit;
  at = record { unit = h.at.unit; there = h.at.there; is = h.at.is };
  number = ap (λ c. if c then instance_number h.unit us + 1 else instance_number h.unit us) e ∙ (ap (λ n. if b then n + 1 else n) h.number ∙ f);
}

pub unit_numbered : (us : List LibraryUnit) (j : ℕ) → j < count_instances us → IsNumbered us j
unit_numbered [] j less = absurd (none less)
  where
    none : j < 0 → ⊥
    none l = omega (arith, l)
unit_numbered (u ∷ us) j less = by_instance (is_instance u.item) refl j less (unit_numbered us)
  where
    by_instance : (b : Bool) → is_instance u.item ≡ b → (k : ℕ) → k < (if is_instance u.item then count_instances us + 1 else count_instances us)
        → ((m : ℕ) → m < count_instances us → IsNumbered us m) → IsNumbered (u ∷ us) k
    by_instance true e zero l rest = record { unit = 0; at = record { unit = u; there = refl; is = e }; number = refl }
    by_instance true e (suc k) l rest =
        let below = subst (λ c. suc k < (if c then count_instances us + 1 else count_instances us)) e l in
        numbered_later u us k (suc k) true e (omega (arith)) (rest k (omega (arith, below)))
    by_instance false e k l rest =
        let below = subst (λ c. k < (if c then count_instances us + 1 else count_instances us)) e l in
        numbered_later u us k k false e refl (rest k below)

-- facts with the values of all constants
valued_at : (facts : List Facts) (cs : List GenericConstant) (n : ℕ) (fs : List Facts) (j : ℕ)
    → slice_get (all_with_constants facts cs n fs) j ≡ option_map (with_constants facts cs (n + j)) (slice_get fs j)
valued_at facts cs n [] zero = refl
valued_at facts cs n [] (suc j) = refl
valued_at facts cs n (f ∷ fs) zero = let none : n ≡ n + 0 = omega (arith) in ap (λ m. Some (with_constants facts cs m f)) none
valued_at facts cs n (f ∷ fs) (suc j) =
    let count : n + 1 + j ≡ n + suc j = omega (arith) in
    valued_at facts cs (n + 1) fs j ∙ ap (λ m. option_map (with_constants facts cs m) (slice_get fs j)) count

-- the facts of an instance that is listed
pub record IsCounted (g n : ℕ) (fs : List Facts) (j : ℕ) : Type 0 where
  pub at : ℕ
  pub is : j ≡ n + at
  pub facts : Facts
  pub there : slice_get fs at ≡ Some facts
  pub generic : facts.generic ≡ g

counted_from : (all : List Facts) (g n : ℕ) (fs : List Facts) (j : ℕ) → Somewhere (λ x. x ≡ j) (instances_from all n g fs) → IsCounted g n fs j
counted_from all g n [] j h = absurd h
counted_from all g n (f ∷ fs) j h = by_generic (nat_eq f.generic g) refl h (counted_from all g (n + 1) fs j)
  where
    later : IsCounted g (n + 1) fs j → IsCounted g n (f ∷ fs) j
    later c = let is = c.is in record { at = suc c.at; is = omega (arith, is); facts = c.facts; there = c.there; generic = c.generic }

    by_generic : (b : Bool) → nat_eq f.generic g ≡ b → Somewhere (λ x. x ≡ j) (if b then n ∷ instances_from all (n + 1) g fs else instances_from all (n + 1) g fs)
        → (Somewhere (λ x. x ≡ j) (instances_from all (n + 1) g fs) → IsCounted g (n + 1) fs j) → IsCounted g n (f ∷ fs) j
    by_generic true e (inl same) rest = record { at = 0; is = omega (arith, same); facts = f; there = refl; generic = eqb-true f.generic g e }
    by_generic true e (inr k) rest = later (rest k)
    by_generic false e k rest = later (rest k)

-- constants in front of others
of_joined : (g : ℕ) (xs ys : List GenericConstant) → constants_of g (xs ++ ys) ≡ (constants_of g xs ++ constants_of g ys)
of_joined g [] ys = refl
of_joined g (c ∷ xs) ys = by_generic (nat_eq c.generic g) (of_joined g xs ys)
  where
    by_generic : (b : Bool) → constants_of g (xs ++ ys) ≡ (constants_of g xs ++ constants_of g ys)
        → (if b then c ∷ constants_of g (xs ++ ys) else constants_of g (xs ++ ys)) ≡ ((if b then c ∷ constants_of g xs else constants_of g xs) ++ constants_of g ys)
    by_generic true e = ap (λ zs. c ∷ zs) e
    by_generic false e = e

list_behind : (had : Made) (n : ℕ) (xs ys : List GenericConstant) → AreListWithin had n (xs ++ ys) → AreListWithin had (n + length xs) ys
list_behind had n [] ys h = let none : n ≡ n + 0 = omega (arith) in subst (λ m. AreListWithin had m ys) none h
list_behind had n (c ∷ xs) ys h =
    let count : n + 1 + length xs ≡ n + length (c ∷ xs) = omega (arith) in
    subst (λ m. AreListWithin had m ys) count (list_behind had (n + 1) xs ys h.1)

module _ (us : List LibraryUnit) (main : List ℕ) (p : Program) (is : IsLegal (library_of whole_standard us) main p) (rise : UnitsRise us) where
  abbrev l : Library
  l = library_of whole_standard us

  abbrev S : List Facts
  S = is.walk.seen.world.instances

  abbrev cs : List GenericConstant
  cs = is.walked.next.constants_declared

  abbrev F : List Facts
  F = all_with_constants S (reverse cs) 1 S

  abbrev first : InstanceValues
  first = instance_values S

  abbrev final : InstanceValues
  final = instance_values F

  facts_are : is.walked.world.instances ≡ F
  facts_are = ap (λ w. w.instances) is.walk.world

  pub ready_all : IsAllReady l l.order [] is.walk.seen
  ready_all =
      of_ok (IsAllReady l l.order []) (all_interfaces typing l (record { world = world_before l; next = beginning_state }) l.order).answer is.walk.seen is.walk.interfaces
      (interfaces_ready l [] l.order (same_once (units_but_bodies 0 us) l.order (legal_order whole_standard us main p is).units (units_once 0 us))
      (record { world = world_before l; next = beginning_state }) (ready_at_first us l.order))

  abbrev had : Made
  had = made_by us ready_all.keys S

  all_within : AreConstantsWithin had cs
  all_within =
      of_ok (λ t. AreConstantsWithin had t.constants_declared) (all_bodies_judged typing l is.walk.seen.world is.walk.seen.next 0 l.units).answer is.walked.next is.walk.bodies
      (all_bodies_so had l is.walk.seen.world is.walk.seen.next 0 l.units (have_homes l 0 l.units (are_headed l 0 l.units is.walk.headings)) ready_all.ready.world)

  longer : IsLonger is.walk.seen.next.constants_declared cs
  longer = (states_of l main p is).bodies.extends.constants

  objects : (i k : ℕ) → first.object i k ≡ final.object i k
  objects zero k = refl
  objects (suc i) k =
      of_option (slice_get S i) ∙ sym (ap (λ o. number_of_fact (option_and_then (λ f. slice_get f.formals k) o)) (valued_at S (reverse cs) 1 S i))
    where
      of_option : (o : Option Facts) → number_of_fact (option_and_then (λ f. slice_get f.formals k) o)
          ≡ number_of_fact (option_and_then (λ f. slice_get f.formals k) (option_map (with_constants S (reverse cs) (1 + i)) o))
      of_option None = refl
      of_option (Some f) = refl

  types : (i k : ℕ) → first.type i k ≡ final.type i k
  types zero k = refl
  types (suc i) k =
      of_option (slice_get S i) ∙ sym (ap (λ o. bounds_of_fact (option_and_then (λ f. slice_get f.formals k) o)) (valued_at S (reverse cs) 1 S i))
    where
      of_option : (o : Option Facts) → bounds_of_fact (option_and_then (λ f. slice_get f.formals k) o)
          ≡ bounds_of_fact (option_and_then (λ f. slice_get f.formals k) (option_map (with_constants S (reverse cs) (1 + i)) o))
      of_option None = refl
      of_option (Some f) = refl

  -- the constants of all, for an instance with these facts
  abbrev all_of : ℕ → List GenericConstant
  all_of g = constants_of g (reverse cs)

  final_constant : (i k : ℕ) (f : Facts) → slice_get S i ≡ Some f
      → final.constant (suc i) k ≡ unwrap_or (slice_get (constant_values first (1 + i) [] (all_of f.generic)) k) None
  final_constant i k f there =
      ap (λ o. option_and_then (λ x. unwrap_or (slice_get x.constants k) None) o) (valued_at S (reverse cs) 1 S i ∙ ap (option_map (with_constants S (reverse cs) (1 + i))) there)

  -- constants that stand earlier, and the others
  record IsSplit (earlier : List GenericConstant) (g : ℕ) : Type 0 where
    later : List GenericConstant
    joins : all_of g ≡ constants_of g (reverse earlier) ++ later

  split : (earlier : List GenericConstant) (g : ℕ) → IsLonger earlier cs → IsSplit earlier g
  split earlier g more = record {
    later = constants_of g (reverse more.more);
    joins = ap (λ ds. constants_of g (reverse ds)) more.is
        ∙ (ap (constants_of g) (reverse-append more.more earlier) ∙ of_joined g (reverse earlier) (reverse more.more));
  }

  -- what an instance had stays
  module _ (i n : ℕ) (number : instance_number n us ≡ suc i) (v : IsValued us ready_all.keys S is.walk.seen.next.constants_declared n) where
    there : slice_get S i ≡ Some v.has
    there = ap (λ m. slice_get S (pred m)) (sym number) ∙ v.there

    abbrev own : List GenericConstant
    own = constants_of v.has.generic (reverse v.earlier)

    its_values : v.has.constants ≡ constant_values first (suc i) [] own
    its_values = v.values ∙ ap (λ m. constant_values first m [] own) number

    its_split : IsSplit v.earlier v.has.generic
    its_split = split v.earlier v.has.generic (longer_both v.earlier is.walk.seen.next.constants_declared cs v.longer longer)

    its_count : had.count (suc i) ≡ length own
    its_count =
        let long = values_length first (suc i) [] own in
        ap count_in there ∙ (ap length its_values ∙ omega (arith, long))

    stays : (k : ℕ) → k < had.count (suc i) → first.constant (suc i) k ≡ final.constant (suc i) k
    stays k less =
        let long = values_length first (suc i) [] own in
        let count = its_count in
        let one : 1 + i ≡ suc i = omega (arith) in
        ap (λ o. option_and_then (λ f. unwrap_or (slice_get f.constants k) None) o) there
        ∙ (ap (λ xs. unwrap_or (slice_get xs k) None) its_values
        ∙ (ap (λ o. unwrap_or o None) (sym (first_values first (suc i) (constant_values first (suc i) [] own) its_split.later k (omega (arith, less, count, long))))
        ∙ (ap (λ xs. unwrap_or (slice_get xs k) None) (sym (values_joined first (suc i) [] own its_split.later))
        ∙ (ap (λ ds. unwrap_or (slice_get (constant_values first (suc i) [] ds) k) None) (sym its_split.joins)
        ∙ (ap (λ m. unwrap_or (slice_get (constant_values first m [] (all_of v.has.generic)) k) None) (sym one)
        ∙ sym (final_constant i k v.has there))))))

  made_stays : (i k : ℕ) → had.is_made i ≡ true → k < had.count i → first.constant i k ≡ final.constant i k
  made_stays i k made less = of_number i refl made less
    where
      of_number : (j : ℕ) → i ≡ j → had.is_made j ≡ true → k < had.count j → first.constant j k ≡ final.constant j k
      of_number zero e m below = refl
      of_number (suc j) e m below =
          let from = made_from us ready_all.keys (suc j) m in
          stays j from.key from.number (every_in (IsValued us ready_all.keys S is.walk.seen.next.constants_declared) ready_all.keys from.key ready_all.ready.valued from.there) k below

  agree : Agree had first final
  agree i made = record { objects = objects i; types = types i; constants = λ k less. made_stays i k made less }

  -- each constant of an instance looks far enough back
  module _ (i n : ℕ) (number : instance_number n us ≡ suc i) (v : IsValued us ready_all.keys S is.walk.seen.next.constants_declared n) where
    front : (m : ℕ) (ds : List GenericConstant) → AreListWithin v.pre m ds → AllLook first final (suc i) m ds
    front m [] h = tt
    front m (c ∷ ds) h = (
      record {
        bound = v.pre;
        value = h.0.0;
        range = h.0.1;
        own = λ made. absurd (false≢true (sym (sym (ap v.pre.is_made number) ∙ v.unmade) ∙ made));
        others = λ j k other made less. made_stays j k (v.more.made j made) (let grown = v.more.counts j in omega (arith, grown, less));
      },
      front (m + 1) ds h.1,
    )

    behind : (m : ℕ) (ds : List GenericConstant) → had.count (suc i) ≤ m → AreListWithin had m ds → AllLook first final (suc i) m ds
    behind m [] long h = tt
    behind m (c ∷ ds) long h = (
      record { bound = had; value = h.0.0; range = h.0.1; own = λ made. long; others = λ j k other made less. made_stays j k made less },
      behind (m + 1) ds (omega (arith, long)) h.1,
    )

    joined : (m : ℕ) (xs ys : List GenericConstant) → AllLook first final (suc i) m xs → AllLook first final (suc i) (m + length xs) ys → AllLook first final (suc i) m (xs ++ ys)
    joined m [] ys h k = let none : m + 0 ≡ m = omega (arith) in subst (λ j. AllLook first final (suc i) j ys) none k
    joined m (c ∷ xs) ys h k =
        let count : m + length (c ∷ xs) ≡ m + 1 + length xs = omega (arith) in
        (h.0, joined (m + 1) xs ys h.1 (subst (λ j. AllLook first final (suc i) j ys) count k))

    abbrev own_of_it : List GenericConstant
    own_of_it = constants_of v.has.generic (reverse v.earlier)

    all_look : AllLook first final (suc i) 0 (all_of v.has.generic)
    all_look =
        let parts = its_split i n number v in
        let count = its_count i n number v in
        subst (AllLook first final (suc i) 0) (sym parts.joins)
        (joined 0 own_of_it parts.later (front 0 own_of_it v.within)
        (behind (0 + length own_of_it) parts.later (omega (arith, count))
        (list_behind had 0 own_of_it parts.later (subst (AreListWithin had 0) parts.joins (in_order_within had v.has.generic cs all_within)))))

    valued : AreValued final (suc i) 0 (all_of v.has.generic)
    valued =
        let one : 1 + i ≡ suc i = omega (arith) in
        all_valued first final (suc i) objects types [] (all_of v.has.generic)
        (λ k. final_constant i k v.has (there i n number v)
        ∙ ap (λ m. unwrap_or (slice_get (constant_values first m [] (all_of v.has.generic)) k) None) one)
        all_look

    values_of_it : HaveOwnValues F (suc i) (Some v.has.generic) cs
    values_of_it = values_kept F (suc i) v.has.generic cs valued

  -- each number of an instance is that of one that was made
  key_there : (m : ℕ) → IsInstanceAt us m → In ready_all.keys m
  key_there m at =
      there_too m (instances_among us (units_but_bodies 0 us)) ready_all.keys
      (same_back ready_all.keys (instances_among us (units_but_bodies 0 us))
      (same_both ready_all.keys (instances_among us l.order ++ []) (instances_among us (units_but_bodies 0 us)) ready_all.same
      (same_both (instances_among us l.order ++ []) (instances_among us l.order) (instances_among us (units_but_bodies 0 us))
      (λ weight. ap (sum_by weight) (append-nil (instances_among us l.order)))
      (same_chosen us l.order (units_but_bodies 0 us) (same_back (units_but_bodies 0 us) l.order (legal_order whole_standard us main p is).units)))))
      (chosen_there (units_but_bodies 0 us) unit_there)
    where
      unit_there : In (units_but_bodies 0 us) m
      unit_there =
          let none : 0 + m ≡ m = omega (arith) in
          subst (In (units_but_bodies 0 us)) none (among_units 0 us m at.unit at.there (instance_no_body us rise S is.walked.next.demands at.unit.item at.is))

      chosen_if : (b : Bool) (x : ℕ) (xs : List ℕ) → In (instances_among us xs) m → In (with_instance_unit x b (instances_among us xs)) m
      chosen_if true x xs h = inr h
      chosen_if false x xs h = h

      chosen_here : (b : Bool) (x : ℕ) (xs : List ℕ) → b ≡ true → x ≡ m → In (with_instance_unit x b (instances_among us xs)) m
      chosen_here true x xs e f = inl f
      chosen_here false x xs e f = absurd (false≢true e)

      chosen_there : (xs : List ℕ) → In xs m → In (instances_among us xs) m
      chosen_there [] h = absurd h
      chosen_there (x ∷ xs) (inl e) =
          chosen_here (is_instance_there (slice_get us x)) x xs (ap (λ j. is_instance_there (slice_get us j)) e ∙ (ap is_instance_there at.there ∙ at.is)) e
      chosen_there (x ∷ xs) (inr h) = chosen_if (is_instance_there (slice_get us x)) x xs (chosen_there xs h)

  below_count : (i : ℕ) (f : Facts) → slice_get S i ≡ Some f → i < length S
  below_count i f h = of_list S i h
    where
      of_list : (fs : List Facts) (j : ℕ) → slice_get fs j ≡ Some f → j < length fs
      of_list [] zero e = absurd (none_some e)
      of_list [] (suc j) e = absurd (none_some e)
      of_list (x ∷ fs) zero e = omega (arith)
      of_list (x ∷ fs) (suc j) e = let rest = of_list fs j e in omega (arith, rest)

  some_before : (i : ℕ) (f : Facts) → slice_get F i ≡ Some f → (o : Option Facts) → slice_get S i ≡ o → (g : Facts) × ((slice_get S i ≡ Some g) × (g.generic ≡ f.generic))
  some_before i f h None e =
      absurd (none_some (sym (valued_at S (reverse cs) 1 S i ∙ ap (option_map (with_constants S (reverse cs) (1 + i))) e) ∙ h))
  some_before i f h (Some g) e =
      (g, (e, ap (λ o. (or_else f o).generic) (sym (valued_at S (reverse cs) 1 S i ∙ ap (option_map (with_constants S (reverse cs) (1 + i))) e) ∙ h)))

  values_at : (g i : ℕ) (f : Facts) → slice_get F i ≡ Some f → f.generic ≡ g → HaveOwnValues F (suc i) (Some g) cs
  values_at g i f h e =
      let before = some_before i f h (slice_get S i) refl in
      let size = ready_all.ready.made.counted in
      let less = below_count i before.0 before.1.0 in
      let unit = unit_numbered us i (omega (arith, size, less)) in
      let v = every_in (IsValued us ready_all.keys S is.walk.seen.next.constants_declared) ready_all.keys unit.unit ready_all.ready.valued (key_there unit.unit unit.at) in
      let same : v.has.generic ≡ g = ap (λ o. (or_else before.0 o).generic) (sym (there i unit.unit unit.number v) ∙ before.1.0) ∙ (before.1.1 ∙ e) in
      subst (λ x. HaveOwnValues F (suc i) (Some x) cs) same (values_of_it i unit.unit unit.number v)

  pub own_values : (o : Option ℕ) (inst : ℕ) → StandsIn p o inst → HaveOwnValues is.walked.world.instances inst o cs
  own_values None inst stands = tt
  own_values (Some g) inst stands =
      let looked = looked_at whole_standard us main p is rise (Some g) inst stands in
      let counted = counted_from is.walked.world.instances g 1 is.walked.world.instances inst looked.counted in
      let count = counted.is in
      let number : suc counted.at ≡ inst = omega (arith, count) in
      subst (λ j. HaveOwnValues is.walked.world.instances j (Some g) cs) number
      (subst (λ fs. HaveOwnValues fs (suc counted.at) (Some g) cs) (sym facts_are)
      (values_at g counted.at counted.facts (ap (λ fs. slice_get fs counted.at) (sym facts_are) ∙ counted.there) counted.generic))

  pub served : (o : Option ℕ) (inst : ℕ) → StandsIn p o inst → (s : State) → Extends s is.walked.next → IsServed is.walked.world.instances p o inst s
  served o inst stands s more =
      final_served l main p is o inst (looked_at whole_standard us main p is rise o inst stands) stands (own_values o inst stands) s more

  -- the constants of the typed program
  constants_at : (n : ℕ) (g : ℕ) → constant_values first n [] (all_of g) ≡ constant_values (values_of p) n [] (constants_of g p.constants)
  constants_at n g =
      constants_agree had first final agree n (objects n) (types n) [] (all_of g) (in_order_within had g cs all_within)
      ∙ (ap (λ v. constant_values v n [] (all_of g)) (ap instance_values (sym facts_are) ∙ sym (values_alike p is.walked.world.instances (facts_of_instances whole_standard us main p is rise).0))
      ∙ ap (λ ds. constant_values (values_of p) n [] (constants_of g ds)) (sym (ap (λ q. q.constants) is.made)))

  have_constants : (ds : List Asked) (k n : ℕ) (ins : List Instance) (fs : List Facts) → AreBeside ds k ins (all_with_constants S (reverse cs) n fs)
      → HaveConstants p n (with_values ins (all_with_constants S (reverse cs) n fs))
  have_constants ds k n [] [] h = tt
  have_constants ds k n [] (f ∷ fs) h = tt
  have_constants ds k n (i ∷ ins) [] h = absurd h
  have_constants ds k n (i ∷ ins) (f ∷ fs) h = (
    constants_at n f.generic ∙ ap (λ g. constant_values (values_of p) n [] (constants_of g p.constants)) (sym h.0.matches.generic),
    have_constants ds (k + 1) (n + 1) ins fs h.1,
  )

  pub all_constants : HaveConstants p 1 p.instances
  all_constants =
      subst (HaveConstants p 1) (sym (instances_are whole_standard us main p is rise ∙ ap (with_values (in_places whole_standard us main p is rise)) facts_are))
      (have_constants is.walked.next.demands 0 1 (in_places whole_standard us main p is rise) S
      (subst (AreBeside is.walked.next.demands 0 (in_places whole_standard us main p is rise)) facts_are (all_beside whole_standard us main p is rise)))

  -- and its actuals
  values_are : instance_values F ≡ values_of p
  values_are =
      ap instance_values (sym facts_are) ∙ sym (values_alike p is.walked.world.instances (facts_of_instances whole_standard us main p is rise).0)

  all_formed : AreFormed had F p.instances
  all_formed =
      subst (AreFormed had F) (sym (instances_are whole_standard us main p is rise ∙ ap (with_values (in_places whole_standard us main p is rise)) facts_are))
      (formed_with_values had F (in_places whole_standard us main p is rise) F
      (formed_in_order had F is.walk.seen.next.instances_declared
      (all_formed_stay had had (own_grown had) S F agree is.walk.seen.next.instances_declared ready_all.ready.formed)))

  static_actuals : (actuals : List FormalActual) → Everywhere (IsFormed had F) actuals → Everywhere (IsStaticActual p) actuals
  static_actuals [] h = tt
  static_actuals (actual_object e x ∷ actuals) h = (
    h.0.1 ∙ subst (λ z. number_of F z ≡ number_in p 0 z) (sym h.0.0.is) (ap (λ b. unwrap_or (if b then Some h.0.0.number else None) (pos 0)) h.0.0.base),
    static_actuals actuals h.1,
  )
  static_actuals (actual_type r b c ∷ actuals) h =
      (h.0.1 ∙ ap (λ v. unwrap_or (static_bounds v 0 r) base_range) values_are, static_actuals actuals h.1)
  static_actuals (actual_subprogram t ∷ actuals) h = (tt, static_actuals actuals h.1)

  pub all_actuals : HaveStaticActuals p
  all_actuals = every_so (λ i. Everywhere (IsFormed had F) i.actuals) (λ i. Everywhere (IsStaticActual p) i.actuals) p.instances (λ i h. static_actuals i.actuals h) all_formed
