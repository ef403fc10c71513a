-- Each unit that is an instance shows the text of a generic in the instance of its number; the instance that was made there is one of this generic. Other units show no instance.
use Rattle.std.proofs.Common.{◌≡◌, ◌≤◌, ◌<◌, ◌+◌, ℕ, zero, suc, nat_eq, Bool, true, false, if◌then◌else◌, List, [], ◌∷◌, map, length, Option, Some, None, IfSome, IfOk, set, slice_get, refl, sym, ap, ◌∙◌, subst, arith, inl, inr}
use Rattle.std.specs.Prelude.{◌⊎◌, unwrap_or}
use Rattle.std.specs.List.{sum_by}
use Rattle.std.specs.Option.{option_and_then}
use Rattle.std.proofs.lemmas.List.Sums.{sum_by-cons}
use Rattle.std.proofs.lemmas.Bool.{eqb-true, eq-eqb, false≢true}
use Rattle.cov_base.specs.Lists.{Somewhere}
use Rattle.ada_syntax.specs.declared.name.Identifier.{Identifier}
use Rattle.ada_syntax.specs.declared.unit.Instance.{Instance as SourceInstance}
use Rattle.ada_syntax.specs.declared.unit.LibraryItem.{LibraryItem}
use Rattle.ada_syntax.specs.declared.unit.LibraryItem.TheVariants as library
use Rattle.ada_syntax.specs.declared.unit.PackageSpecification.{PackageSpecification}
use Rattle.ada_syntax.specs.declared.unit.SubprogramBody.{SubprogramBody}
use Rattle.ada_syntax.specs.declared.unit.Unit.{Unit as LibraryUnit}
use Rattle.ada_meaning.specs.Program.{Instance}
use Rattle.ada_rules.specs.Denoted.{nowhere}
use Rattle.ada_rules.specs.Entities.{key, hidden, unit, Entity, visible, Region, Actual}
use Rattle.ada_rules.specs.Environment.{Step, naming, typing, Interface, no_interface, generic_interface, instance_interface, World, interface_of, State, beginning_state, Given, Env, regions_of}
use Rattle.ada_rules.specs.Instances.{formals_declared, generic_number, generic_of, generic_or_any, generic_named, formals_of, actuals_judged, instance_made}
use Rattle.ada_rules.specs.Library.{Library, is_instance, is_package_body, instance_number, units_but_bodies}
use Rattle.ada_rules.specs.Plan.{◌>>=◌, rule}
use Rattle.ada_rules.specs.Subprograms.{specified, declared_only, closed_by}
use Rattle.ada_rules.specs.Units.{env_of, is_generic_interface, package_items, interface_with, Walked, at_unit, formals_in, in_specification, with_package, package_judged, with_instance, instance_judged, with_subprogram, library_routine, library_subprogram, seen_in, interface_judged, interface_at, all_interfaces, world_before}
use Rattle.legal_laws.proofs.Passing.{answered, part_so, weaker_ok, any_answer, ruled_so, if_then, steps_apart}
use Rattle.legal_types.specs.legal_instances.specs.Ordered.{HaveSameItems}
use Rattle.legal_programs.specs.Growing.{Adds}
use Rattle.legal_programs.proofs.Adding.{Add, adds_both}
use Rattle.legal_programs.proofs.Extending.{specified_adds, items_add, formals_add}
use Rattle.legal_programs.proofs.ExtendingUnits.{actuals_add, adds_at_unit}
use Rattle.legal_counts.specs.Seen.{IsInterfaceOf, AreInterfacesOf, shown_of}
use Rattle.legal_counts.proofs.NotedUnits.{IsNoInstance}
use Rattle.legal_counts.proofs.SeenUnits.{interface_set, none_seen, seen_at, generic_shown, package_seen}

abbrev In : List ℕ → ℕ → Type 0
In ns n = Somewhere (λ m. m ≡ n) ns

-- what other units see of a unit that is no instance
abbrev pub IsOther : Interface → Type 0
IsOther (instance_interface g k actuals) = ⊥
IsOther i = Unit {0}

-- and of one that is
pub record IsShown (us : List LibraryUnit) (x : Walked) (n : ℕ) (u : LibraryUnit) : Type 0 where
  pub generic : ℕ
  pub actuals : List Actual
  pub shows : interface_of x.world n ≡ instance_interface (Some generic) (instance_number n us) actuals
  pub made : Instance
  pub there : Somewhere (λ i. i ≡ made) x.next.instances_declared
  pub place : made.place ≡ u.item_pos
  pub of_generic : made.generic ≡ generic
  pub formals : shown_of generic (slice_get us generic) ≡ Some generic

pub record AreShown (us : List LibraryUnit) (ns : List ℕ) (x : Walked) : Type 0 where
  pub sized : length x.world.interfaces ≡ length us
  pub kinds : AreInterfacesOf x.world.interfaces us
  pub others : (n : ℕ) → IsNoInstance (slice_get us n) → IsOther (interface_of x.world n)
  pub instances : (n : ℕ) (u : LibraryUnit) → slice_get us n ≡ Some u → is_instance u.item ≡ true → In ns n → IsShown us x n u

-- lists
same_some : {X : Type 0} {x y : X} → Some x ≡ Some y → x ≡ y
same_some {x = x} e = ap (λ o. unwrap_or o x) e

pub below_length : {X : Type 0} (xs : List X) (k : ℕ) (x : X) → slice_get xs k ≡ Some x → k < length xs
below_length [] zero x h = absurd (cc h)
below_length [] (suc k) x h = absurd (cc h)
below_length (y ∷ xs) zero x h = omega (arith)
below_length (y ∷ xs) (suc k) x h = let rest = below_length xs k x h in omega (arith, rest)

set_there : {X : Type 0} (xs : List X) (n : ℕ) (x : X) → n < length xs → slice_get (set xs n x) n ≡ Some x
set_there [] n x less = absurd (nothing_below n less)
  where
    nothing_below : (k : ℕ) → k < 0 → ⊥
    nothing_below k h = omega (arith, h)
set_there (y ∷ xs) zero x less = refl
set_there (y ∷ xs) (suc n) x less = set_there xs n x (omega (arith, less))

set_either : {X : Type 0} (P : Option X → Type 0) (xs : List X) (n : ℕ) (x : X) → P (Some x) → P None → P (slice_get (set xs n x) n)
set_either P [] zero x h k = k
set_either P [] (suc n) x h k = k
set_either P (y ∷ xs) zero x h k = h
set_either P (y ∷ xs) (suc n) x h k = set_either P xs n x h k

set_others : {X : Type 0} (xs : List X) (k j : ℕ) (x : X) → (k ≡ j → ⊥) → slice_get (set xs k x) j ≡ slice_get xs j
set_others [] zero j x h = refl
set_others [] (suc k) j x h = refl
set_others (y ∷ xs) zero zero x h = absurd (h refl)
set_others (y ∷ xs) zero (suc j) x h = refl
set_others (y ∷ xs) (suc k) zero x h = refl
set_others (y ∷ xs) (suc k) (suc j) x h = set_others xs k j x (λ e. h (ap suc e))

set_length : {X : Type 0} (xs : List X) (n : ℕ) (x : X) → length (set xs n x) ≡ length xs
set_length [] zero x = refl
set_length [] (suc n) x = refl
set_length (y ∷ xs) zero x = refl
set_length (y ∷ xs) (suc n) x = ap suc (set_length xs n x)

-- a unit sets its own interface
record Sets (x : Walked) (n : ℕ) (i : Interface) (y : Walked) : Type 0 where
  set_now : y.world.interfaces ≡ set x.world.interfaces n i
  kept : (m : Instance) → Somewhere (λ j. j ≡ m) x.next.instances_declared → Somewhere (λ j. j ≡ m) y.next.instances_declared

module _ (us : List LibraryUnit) where
  module _ (ns : List ℕ) (x : Walked) (h : AreShown us ns x) (n : ℕ) (u : LibraryUnit) (there : slice_get us n ≡ Some u) (i : Interface) (y : Walked) (sets : Sets x n i y) where
    others_same : (m : ℕ) → (n ≡ m → ⊥) → interface_of y.world m ≡ interface_of x.world m
    others_same m other =
        ap (λ (is : List Interface). unwrap_or (slice_get is m) no_interface) sets.set_now
        ∙ ap (λ o. unwrap_or o no_interface) (set_others x.world.interfaces n m i other)

    own_other : IsOther i → IsOther (interface_of y.world n)
    own_other is =
        subst (λ (js : List Interface). IsOther (unwrap_or (slice_get js n) no_interface)) (sym sets.set_now)
        (set_either (λ o. IsOther (unwrap_or o no_interface)) x.world.interfaces n i is tt)

    own_set : interface_of y.world n ≡ i
    own_set =
        ap (λ (is : List Interface). unwrap_or (slice_get is n) no_interface) sets.set_now
        ∙ ap (λ o. unwrap_or o no_interface) (set_there x.world.interfaces n i (subst (λ k. n < k) (sym h.sized) (below_length us n u there)))

    still_shown : (m : ℕ) (v : LibraryUnit) → (n ≡ m → ⊥) → IsShown us x m v → IsShown us y m v
    still_shown m v other is = record {
      generic = is.generic;
      actuals = is.actuals;
      shows = others_same m other ∙ is.shows;
      made = is.made;
      there = sets.kept is.made is.there;
      place = is.place;
      of_generic = is.of_generic;
      formals = is.formals;
    }

    now_kinds : IsInterfaceOf i u.item → AreInterfacesOf y.world.interfaces us
    now_kinds is = subst (λ js. AreInterfacesOf js us) (sym sets.set_now) (interface_set x.world.interfaces us n u i h.kinds there is)

    now_sized : length y.world.interfaces ≡ length us
    now_sized = ap length sets.set_now ∙ (set_length x.world.interfaces n i ∙ h.sized)

    of_behind : (m : ℕ) → (n ≡ m → ⊥) → In (n ∷ ns) m → In ns m
    of_behind m other (inl e) = absurd (other e)
    of_behind m other (inr k) = k

    -- one that is no instance
    other_set : is_instance u.item ≡ false → IsOther i → IsInterfaceOf i u.item → AreShown us (n ∷ ns) y
    other_set no_instance is of = record {
      sized = now_sized;
      kinds = now_kinds of;
      others = λ m none. by_place m none (nat_eq n m) refl;
      instances = λ m v at one among.
          let apart = λ (e : n ≡ m). apart_from m v at one e in still_shown m v apart (h.instances m v at one (of_behind m apart among));
    }
      where
        by_place : (m : ℕ) → IsNoInstance (slice_get us m) → (b : Bool) → nat_eq n m ≡ b → IsOther (interface_of y.world m)
        by_place m none true e = subst (λ k. IsOther (interface_of y.world k)) (eqb-true n m e) (own_other is)
        by_place m none false e = subst IsOther (sym (others_same m (λ same. false≢true (sym e ∙ eq-eqb n m same)))) (h.others m none)

        apart_from : (m : ℕ) (v : LibraryUnit) → slice_get us m ≡ Some v → is_instance v.item ≡ true → n ≡ m → ⊥
        apart_from m v at one e =
            let same : u ≡ v = same_some (sym there ∙ (ap (slice_get us) e ∙ at)) in
            false≢true (sym no_instance ∙ (ap (λ (w : LibraryUnit). is_instance w.item) same ∙ one))

    -- and an instance
    instance_set : is_instance u.item ≡ true → IsInterfaceOf i u.item → (interface_of y.world n ≡ i → IsShown us y n u) → AreShown us (n ∷ ns) y
    instance_set one of now = record {
      sized = now_sized;
      kinds = now_kinds of;
      others = λ m none. subst IsOther (sym (others_same m (λ e. apart_from m none e))) (h.others m none);
      instances = λ m v at is among. by_place m v at is among (nat_eq n m) refl;
    }
      where
        apart_from : (m : ℕ) → IsNoInstance (slice_get us m) → n ≡ m → ⊥
        apart_from m none e =
            let no_instance : is_instance u.item ≡ false = subst IsNoInstance (ap (slice_get us) (sym e) ∙ there) none in
            false≢true (sym no_instance ∙ one)

        by_place : (m : ℕ) (v : LibraryUnit) → slice_get us m ≡ Some v → is_instance v.item ≡ true → In (n ∷ ns) m → (b : Bool) → nat_eq n m ≡ b → IsShown us y m v
        by_place m v at is among true e =
            let same : n ≡ m = eqb-true n m e in
            let unit : u ≡ v = same_some (sym there ∙ (ap (slice_get us) same ∙ at)) in
            subst (λ k. IsShown us y k v) same (subst (IsShown us y n) unit (now own_set))
        by_place m v at is among false e =
            let apart = λ (f : n ≡ m). false≢true (sym e ∙ eq-eqb n m f) in
            still_shown m v apart (h.instances m v at is (of_behind m apart among))

  kept_adds : (s t : State) (y : Walked) → Adds s t → y.next.instances_declared ≡ t.instances_declared
      → (m : Instance) → Somewhere (λ j. j ≡ m) s.instances_declared → Somewhere (λ j. j ≡ m) y.next.instances_declared
  kept_adds s t y all same m there = subst (Somewhere (λ j. j ≡ m)) (sym (same ∙ all.instances)) there

-- the interfaces of packages
with_other : {A : Type 0} (o : Option A) (formals region : Region) → IsOther (interface_with o formals region)
with_other None formals region = tt
with_other (Some x) formals region = tt

-- the generic of an instance is seen as one
abbrev IsGenericIn : World → Option ℕ → Type 0
IsGenericIn w None = ⊥
IsGenericIn w (Some g) = is_generic_interface (interface_of w g) g ≡ Some g

generic_there : (env : Env) (i : Identifier) → env.step ≡ typing → IfOk (generic_named env i).answer (IsGenericIn env.world)
generic_there env i step =
    answered (IsGenericIn env.world) i.pos (rule (option_and_then (λ x. generic_or_any env (generic_of env.world x)) (visible (key i) (regions_of env)))).outcome
    (ruled_so (IsGenericIn env.world) _
    (if_then (λ x. Unit {0}) (IsGenericIn env.world) (λ x. generic_or_any env (generic_of env.world x)) (visible (key i) (regions_of env))
    (any_some (visible (key i) (regions_of env))) (λ x u. of_entity x)))
  where
    any_some : (o : Option Entity) → IfSome o (λ x. Unit {0})
    any_some None = tt
    any_some (Some x) = tt

    none_typed : (s : Step) → s ≡ typing → IfSome (generic_or_any (record env { step = s }) None) (IsGenericIn env.world)
    none_typed naming e = absurd (steps_apart e)
    none_typed typing e = tt

    of_interface : (n : ℕ) (j : Interface) → interface_of env.world n ≡ j → IfSome (generic_or_any env (generic_number env.world n j)) (IsGenericIn env.world)
    of_interface n (generic_interface formals region) e = ap (λ j. is_generic_interface j n) e
    of_interface n j e = none_typed env.step step

    of_entity : (x : Entity) → IfSome (generic_or_any env (generic_of env.world x)) (IsGenericIn env.world)
    of_entity (unit n) = of_interface n (interface_of env.world n) refl
    of_entity x = none_typed env.step step

module _ (l : Library) where
  abbrev Shown : List ℕ → Walked → Type 0
  Shown ns x = AreShown l.units ns x

  module _ (ns : List ℕ) (w : World) (s : State) (h : AreShown l.units ns (record { world = w; next = s })) (n : ℕ) (u : LibraryUnit) (there : slice_get l.units n ≡ Some u) where
    abbrev here : Walked
    here = record { world = w; next = s }

    package_shown : (env : Env) (x : PackageSpecification) → env.world ≡ w → u.item ≡ library.Package x → IfOk (package_judged env s u.item_pos n x).answer (Shown (n ∷ ns))
    package_shown env x same of =
        answered (Shown (n ∷ ns)) u.item_pos _
        (part_so (Add (at_unit s)) (Shown (n ∷ ns)) (formals_declared (in_specification env n x []) (at_unit s) u.item_pos 0 (formals_in x.formals)).answer
        (λ formals. package_items (in_specification env n x formals.value) formals.next u.item_pos x.items
        >>= (λ region. closed_by u.item_pos x.name x.end_name >>= (λ end. rule (Some (with_package env n x formals.value region)))))
        (formals_add (in_specification env n x []) (at_unit s) u.item_pos 0 (formals_in x.formals))
        (λ formals k. part_so (Add formals.next) (Shown (n ∷ ns)) (package_items (in_specification env n x formals.value) formals.next u.item_pos x.items).answer
        (λ region. closed_by u.item_pos x.name x.end_name >>= (λ end. rule (Some (with_package env n x formals.value region))))
        (items_add (in_specification env n x formals.value) formals.next u.item_pos x.items)
        (λ region m. part_so (λ v. Unit {0}) (Shown (n ∷ ns)) (closed_by u.item_pos x.name x.end_name).answer
        (λ end. rule (Some (with_package env n x formals.value region))) (any_answer (closed_by u.item_pos x.name x.end_name).answer)
        (λ end v. let shows = interface_with x.formals formals.value region.value in
        let y = with_package env n x formals.value region in
        other_set l.units ns here h n u there shows y
        (record {
          set_now = ap (λ (z : World). set z.interfaces n shows) same;
          kept = kept_adds l.units s region.next y
              (adds_both s (at_unit s) region.next (adds_at_unit s) (adds_both (at_unit s) formals.next region.next k m)) refl;
        })
        (ap is_instance of) (with_other x.formals formals.value region.value)
        (subst (IsInterfaceOf shows) (sym of) (package_seen x.formals x formals.value region.value refl))))))

    library_shown : (env : Env) (b : SubprogramBody) → env.world ≡ w → u.item ≡ library.Subprogram b → IfOk (library_subprogram env s n b).answer (Shown (n ∷ ns))
    library_shown env b same of =
        answered (Shown (n ∷ ns)) b.specification.pos _
        (part_so (Add (at_unit s)) (Shown (n ∷ ns)) (specified env (at_unit s) b.specification).answer
        (λ q. rule (Some (with_subprogram env.world n (library_routine env b q.value) (declared_only s q.next))))
        (specified_adds env (at_unit s) b.specification)
        (λ q k. let shows = library_routine env b q.value in
        let y = with_subprogram env.world n shows (declared_only s q.next) in
        other_set l.units ns here h n u there shows y
        (record {
          set_now = ap (λ (z : World). set z.interfaces n shows) same;
          kept = kept_adds l.units s q.next y (adds_both s (at_unit s) q.next (adds_at_unit s) k) refl;
        })
        (ap is_instance of) tt (subst (IsInterfaceOf shows) (sym of) tt)))

    with_shown : (env : Env) (i : SourceInstance) → env.world ≡ w → u.item ≡ library.Instance i → (g : Option ℕ) → IsGenericIn env.world g → (actuals : Given (List Actual)) → Adds s actuals.next
        → Shown (n ∷ ns) (with_instance env.world u.item_pos n (instance_number n l.units) i g actuals.value actuals.next)
    with_shown env i same of None named actuals all = absurd named
    with_shown env i same of (Some g) named actuals all =
        let shows = instance_interface (Some g) (instance_number n l.units) actuals.value in
        let y = with_instance env.world u.item_pos n (instance_number n l.units) i (Some g) actuals.value actuals.next in
        instance_set l.units ns here h n u there shows y
        (record {
          set_now = ap (λ (z : World). set z.interfaces n shows) same;
          kept = λ m among. inr (subst (Somewhere (λ j. j ≡ m)) (sym all.instances) among);
        })
        (ap is_instance of) (subst (IsInterfaceOf shows) (sym of) tt)
        (λ now. record {
          generic = g;
          actuals = actuals.value;
          shows = now;
          made = instance_made env.world u.item_pos i (Some g) actuals.value;
          there = inl refl;
          place = refl;
          of_generic = refl;
          formals = generic_shown (interface_of w g) (slice_get l.units g) g g (seen_at w.interfaces l.units g h.kinds)
              (ap (λ (v : World). is_generic_interface (interface_of v g) g) (sym same) ∙ named);
        })

    instance_shown : (env : Env) (i : SourceInstance) → env.world ≡ w → env.step ≡ typing → u.item ≡ library.Instance i
        → IfOk (instance_judged env s u.item_pos n (instance_number n l.units) i).answer (Shown (n ∷ ns))
    instance_shown env i same step of =
        let k = instance_number n l.units in
        answered (Shown (n ∷ ns)) u.item_pos _
        (part_so (IsGenericIn env.world) (Shown (n ∷ ns)) (generic_named env i.generic_name).answer
        (λ g. actuals_judged env (at_unit s) u.item_pos k [] (formals_of env.world g) i.actuals
        >>= (λ actuals. rule (Some (with_instance env.world u.item_pos n k i g actuals.value actuals.next))))
        (generic_there env i.generic_name step)
        (λ g named. part_so (Add (at_unit s)) (Shown (n ∷ ns)) (actuals_judged env (at_unit s) u.item_pos k [] (formals_of env.world g) i.actuals).answer
        (λ actuals. rule (Some (with_instance env.world u.item_pos n k i g actuals.value actuals.next)))
        (actuals_add env (at_unit s) u.item_pos k [] (formals_of env.world g) i.actuals)
        (λ actuals all. with_shown env i same of g named actuals (adds_both s (at_unit s) actuals.next (adds_at_unit s) all))))

    -- a body of a package shows nothing
    body_shown : is_instance u.item ≡ false → Shown (n ∷ ns) here
    body_shown other = record {
      sized = h.sized;
      kinds = h.kinds;
      others = h.others;
      instances = λ m v at one among. h.instances m v at one (of_others m v at one among);
    }
      where
        of_others : (m : ℕ) (v : LibraryUnit) → slice_get l.units m ≡ Some v → is_instance v.item ≡ true → In (n ∷ ns) m → In ns m
        of_others m v at one (inl e) =
            let same : u ≡ v = same_some (sym there ∙ (ap (slice_get l.units) e ∙ at)) in
            absurd (false≢true (sym other ∙ (ap (λ (z : LibraryUnit). is_instance z.item) same ∙ one)))
        of_others m v at one (inr k) = k

    interface_shown : (i : LibraryItem) → u.item ≡ i → IfOk (interface_judged typing l w s n u i).answer (Shown (n ∷ ns))
    interface_shown (library.Package x) e = package_shown (env_of typing w n (key x.name) (seen_in w l u (unit n))) x refl e
    interface_shown (library.Instance i) e = instance_shown (env_of typing w n (key i.name) (seen_in w l u hidden)) i refl refl e
    interface_shown (library.Subprogram b) e = library_shown (env_of typing w n (key b.specification.name) (seen_in w l u hidden)) b refl e
    interface_shown (library.PackageBody b) e = body_shown (ap is_instance e)

  -- a number of no unit
  none_shown : (ns : List ℕ) (x : Walked) (n : ℕ) → slice_get l.units n ≡ None → Shown ns x → Shown (n ∷ ns) x
  none_shown ns x n gone h = record {
    sized = h.sized;
    kinds = h.kinds;
    others = h.others;
    instances = λ m v at one among. h.instances m v at one (of_others m v at among);
  }
    where
      of_others : (m : ℕ) (v : LibraryUnit) → slice_get l.units m ≡ Some v → In (n ∷ ns) m → In ns m
      of_others m v at (inl e) = absurd (some_none (sym at ∙ (ap (slice_get l.units) (sym e) ∙ gone)))
        where
          some_none : Some v ≡ None → ⊥
          some_none f = cc
      of_others m v at (inr k) = k

  interface_at_shown : (ns : List ℕ) (x : Walked) (n : ℕ) (o : Option LibraryUnit) → slice_get l.units n ≡ o → Shown ns x
      → IfOk (interface_at typing l x n o).answer (Shown (n ∷ ns))
  interface_at_shown ns x n None there h = none_shown ns x n there h
  interface_at_shown ns x n (Some u) there h =
      answered (Shown (n ∷ ns)) u.pos _
      (part_so (Shown (n ∷ ns)) (Shown (n ∷ ns)) (interface_judged typing l x.world x.next n u u.item).answer (λ y. rule (Some y))
      (interface_shown ns x.world x.next h n u there u.item refl) (λ y k. k))

  -- those that were looked at, the latest first
  abbrev Later : List ℕ → List ℕ → List ℕ
  Later ns [] = ns
  Later ns (m ∷ ms) = Later (m ∷ ns) ms

  interfaces_shown : (ns : List ℕ) (x : Walked) (ms : List ℕ) → Shown ns x → IfOk (all_interfaces typing l x ms).answer (Shown (Later ns ms))
  interfaces_shown ns x [] h = h
  interfaces_shown ns x (m ∷ ms) h =
      answered (Shown (Later ns (m ∷ ms))) nowhere _
      (part_so (Shown (m ∷ ns)) (Shown (Later ns (m ∷ ms))) (interface_at typing l x m (slice_get l.units m)).answer
      (λ y. all_interfaces typing l y ms >>= (λ rest. rule (Some rest)))
      (interface_at_shown ns x m (slice_get l.units m) refl h)
      (λ y k. part_so (Shown (Later (m ∷ ns) ms)) (Shown (Later ns (m ∷ ms))) (all_interfaces typing l y ms).answer (λ rest. rule (Some rest))
      (interfaces_shown (m ∷ ns) y ms k) (λ rest r. r)))

  later_of : (ns ms : List ℕ) (n : ℕ) → In ns n → In (Later ns ms) n
  later_of ns [] n h = h
  later_of ns (m ∷ ms) n h = later_of (m ∷ ns) ms n (inr h)

  later_there : (ns ms : List ℕ) (n : ℕ) → In ms n → In (Later ns ms) n
  later_there ns [] n h = absurd h
  later_there ns (m ∷ ms) n (inl e) = later_of (m ∷ ns) ms n (inl e)
  later_there ns (m ∷ ms) n (inr h) = later_there (m ∷ ns) ms n h

-- before any unit
no_interfaces : (us : List LibraryUnit) (n : ℕ) → IsOther (unwrap_or (slice_get (map (λ u. no_interface) us) n) no_interface)
no_interfaces [] zero = tt
no_interfaces [] (suc n) = tt
no_interfaces (u ∷ us) zero = tt
no_interfaces (u ∷ us) (suc n) = no_interfaces us n

length_none : (us : List LibraryUnit) → length (map (λ u. no_interface) us) ≡ length us
length_none [] = refl
length_none (u ∷ us) = ap suc (length_none us)

-- each unit but bodies stands in the order
abbrev one_at : ℕ → ℕ → ℕ
one_at n m = if nat_eq m n then 1 else 0

there_counts : (n : ℕ) (ms : List ℕ) → In ms n → 1 ≤ sum_by (one_at n) ms
there_counts n [] h = absurd h
there_counts n (m ∷ ms) (inl e) =
    let first = sum_by-cons (one_at n) m ms in
    let one : one_at n m ≡ 1 = ap (λ b. if b then 1 else 0) (eq-eqb m n e) in
    omega (arith, first, one)
there_counts n (m ∷ ms) (inr h) =
    let first = sum_by-cons (one_at n) m ms in
    let rest = there_counts n ms h in
    omega (arith, first, rest)

counts_there : (n : ℕ) (ms : List ℕ) → 1 ≤ sum_by (one_at n) ms → In ms n
counts_there n [] h = absurd (none h)
  where
    none : 1 ≤ 0 → ⊥
    none k = omega (arith, k)
counts_there n (m ∷ ms) h = by_first (nat_eq m n) refl (counts_there n ms)
  where
    by_first : (b : Bool) → nat_eq m n ≡ b → (1 ≤ sum_by (one_at n) ms → In ms n) → (m ≡ n) ⊎ In ms n
    by_first true e rest = inl (eqb-true m n e)
    by_first false e rest =
        let first = sum_by-cons (one_at n) m ms in
        let none : one_at n m ≡ 0 = ap (λ b. if b then 1 else 0) e in
        inr (rest (omega (arith, first, none, h)))

in_both : (ns ms : List ℕ) → HaveSameItems ns ms → (n : ℕ) → In ns n → In ms n
in_both ns ms same n h =
    let count = there_counts n ns h in
    let equal = same (one_at n) in
    counts_there n ms (omega (arith, count, equal))

among_units : (us : List LibraryUnit) (n j : ℕ) (u : LibraryUnit) → slice_get us j ≡ Some u → is_package_body u.item ≡ false → In (units_but_bodies n us) (n + j)
among_units [] zero zero u there no_body = absurd (cc there)
among_units [] n j u there no_body = absurd (none_there j there)
  where
    none_there : (k : ℕ) → slice_get [] k ≡ Some u → ⊥
    none_there zero e = cc
    none_there (suc k) e = cc
among_units (v ∷ us) n zero u there no_body =
    let none : n ≡ n + 0 = omega (arith) in
    here (is_package_body v.item) (ap (λ (w : LibraryUnit). is_package_body w.item) (same_some there) ∙ no_body) none
  where
    here : (b : Bool) → b ≡ false → n ≡ n + 0 → In (if b then units_but_bodies (n + 1) us else n ∷ units_but_bodies (n + 1) us) (n + 0)
    here true e same = absurd (false≢true (sym e))
    here false e same = inl same
among_units (v ∷ us) n (suc j) u there no_body =
    let next : (n + 1) + j ≡ n + suc j = omega (arith) in
    subst (In (units_but_bodies n (v ∷ us))) next (behind (is_package_body v.item) (among_units us (n + 1) j u there no_body))
  where
    behind : (b : Bool) → In (units_but_bodies (n + 1) us) (n + 1 + j) → In (if b then units_but_bodies (n + 1) us else n ∷ units_but_bodies (n + 1) us) (n + 1 + j)
    behind true h = h
    behind false h = inr h

no_body_instance : (i : LibraryItem) → is_instance i ≡ true → is_package_body i ≡ false
no_body_instance (library.Package x) e = refl
no_body_instance (library.PackageBody x) e = absurd (false≢true e)
no_body_instance (library.Instance x) e = refl
no_body_instance (library.Subprogram x) e = refl

-- behind the walk over what other units see
pub shown_behind : (l : Library) → HaveSameItems (units_but_bodies 0 l.units) l.order
    → IfOk (all_interfaces typing l (record { world = world_before l; next = beginning_state }) l.order).answer (AreShown l.units (units_but_bodies 0 l.units))
shown_behind l same =
    weaker_ok (AreShown l.units (Later l [] l.order)) (AreShown l.units (units_but_bodies 0 l.units))
    (all_interfaces typing l (record { world = world_before l; next = beginning_state }) l.order).answer
    (interfaces_shown l [] (record { world = world_before l; next = beginning_state }) l.order
    (record { sized = length_none l.units; kinds = none_seen l.units; others = λ n none. no_interfaces l.units n; instances = λ n u there one among. absurd among }))
    (λ y h. record {
      sized = h.sized;
      kinds = h.kinds;
      others = h.others;
      instances = λ n u there one among. h.instances n u there one (later_there l [] l.order n (in_both (units_but_bodies 0 l.units) l.order same n among));
    })

-- an instance is one of them
pub instance_among : (us : List LibraryUnit) (n : ℕ) (u : LibraryUnit) → slice_get us n ≡ Some u → is_instance u.item ≡ true → In (units_but_bodies 0 us) n
instance_among us n u there one =
    let none : 0 + n ≡ n = omega (arith) in
    subst (In (units_but_bodies 0 us)) none (among_units us 0 n u there (no_body_instance u.item one))
