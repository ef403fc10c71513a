-- The instances of a legal program are those that its units are, by their generics.
use Rattle.std.proofs.Common.{◌≡◌, ◌<◌, ◌≤◌, ◌+◌, ℕ, suc, nat_eq, Bool, true, false, if◌then◌else◌, List, [], ◌∷◌, reverse, length, slice_get, Option, Some, None, IfSome, IfOk, refl, sym, ap, ◌∙◌, subst, inl, inr, arith}
use Rattle.std.specs.Prelude.{unwrap_or}
use Rattle.std.specs.Option.{option_and_then}
use Rattle.std.specs.List.{sum_by}
use Rattle.std.proofs.lemmas.Bool.{eqb-true, eq-eqb, false≢true}
use Rattle.std.proofs.lemmas.List.Sums.{sum_by-cons}
use Rattle.cov_base.specs.Lists.{Somewhere}
use Rattle.cov_base.specs.declared.position.Pos.{Pos}
use Rattle.ada_syntax.specs.declared.name.Identifier.{Identifier}
use Rattle.ada_syntax.specs.declared.unit.Instance.{Instance as SourceInstance}
use Rattle.ada_syntax.specs.declared.unit.LibraryItem.{LibraryItem}
use Rattle.ada_syntax.specs.declared.unit.LibraryItem.TheVariants as library
use Rattle.ada_syntax.specs.declared.unit.PackageSpecification.{PackageSpecification}
use Rattle.ada_syntax.specs.declared.unit.SubprogramBody.{SubprogramBody}
use Rattle.ada_syntax.specs.declared.unit.Unit.{Unit as LibraryUnit}
use Rattle.ada_tree.specs.Weights.{in_instance, in_instances}
use Rattle.ada_tree.specs.declared.program.UnitEntry.{UnitEntry}
use Rattle.cov_base.specs.TextOrder.{precedes}
use Rattle.ada_meaning.specs.Obligations.{inserted, in_order}
use Rattle.ada_meaning.specs.Program.{Instance, Program}
use Rattle.ada_rules.specs.Denoted.{nowhere}
use Rattle.ada_rules.specs.Entities.{key, hidden, unit, Entity, Region, Actual, visible}
use Rattle.ada_rules.specs.Environment.{Step, naming, typing, no_interface, instance_interface, World, interface_of, State, beginning_state, Given, Env, regions_of}
use Rattle.ada_rules.specs.Instances.{formals_declared, generic_named, generic_of, generic_or_any, formals_of, actuals_judged, instance_made}
use Rattle.ada_rules.specs.Legal.{with_values}
use Rattle.ada_rules.specs.Library.{Library, unit_named, instance_number, is_package_body, units_but_bodies}
use Rattle.ada_rules.specs.Plan.{Plan, ◌>>=◌, rule}
use Rattle.ada_rules.specs.Statics.{Facts}
use Rattle.ada_rules.specs.Subprograms.{specified, declared_only, closed_by}
use Rattle.ada_rules.specs.Units.{is_generic_interface, interface_with, env_of, package_items, Walked, at_unit, formals_in, in_specification, with_package, package_judged, with_instance, instance_judged, with_subprogram, library_routine, library_subprogram, seen_in, interface_judged, interface_at, all_interfaces, world_before}
use Rattle.legal_laws.proofs.Passing.{answered, part_so, any_answer, ruled_so, if_then, steps_apart}
use Rattle.legal_programs.specs.Homes.{IsThere}
use Rattle.legal_programs.specs.Walked.{IsLegal}
use Rattle.legal_programs.proofs.Adding.{Add}
use Rattle.legal_programs.proofs.Counted.{states_of}
use Rattle.legal_programs.proofs.Extending.{specified_adds, items_add, formals_add}
use Rattle.legal_programs.proofs.ExtendingUnits.{actuals_add}
use Rattle.legal_programs.proofs.Passed.{of_ok}
use Rattle.program_weights.specs.Entries.{text_role, role_by, role_of, entry_of, entries_from, entries_of}
use Rattle.legal_types.specs.legal_instances.specs.Ordered.{IsWholeOrder}
use Rattle.legal_counts.proofs.ExceptionNodes.{turned_sum}
use Rattle.legal_counts.proofs.ShownInterfaces.{below_length, set_is, Leaves, leaves_set, none_sized, one_at, there_counts}

-- the generic of an instance is there, in the step of types
generic_there : (env : Env) (i : Identifier) → env.step ≡ typing → IfOk (generic_named env i).answer IsThere
generic_there env i step =
    answered IsThere i.pos (rule (option_and_then (λ x. generic_or_any env (generic_of env.world x)) (visible (key i) (regions_of env)))).outcome
    (ruled_so IsThere _ (if_then (λ x. Unit {0}) IsThere (λ x. generic_or_any env (generic_of env.world x)) (visible (key i) (regions_of env))
    (any_some (visible (key i) (regions_of env))) (λ x u. some_generic (generic_of env.world x))))
  where
    any_some : (o : Option Entity) → IfSome o (λ x. Unit {0})
    any_some None = tt
    any_some (Some x) = tt

    some_generic : (o : Option ℕ) → IfSome (generic_or_any env o) IsThere
    some_generic None = none_typed env.step refl
      where
        none_named : (s : Step) → env.step ≡ s → s ≡ typing → IfSome (generic_or_any (record env { step = s }) None) IsThere
        none_named naming e f = absurd (steps_apart f)
        none_named typing e f = tt

        none_typed : (s : Step) → env.step ≡ s → IfSome (generic_or_any (record env { step = env.step }) None) IsThere
        none_typed s e = subst (λ t. IfSome (generic_or_any (record env { step = t }) None) IsThere) (sym step) (none_named typing step refl)
    some_generic (Some n) = tt

module _ (count : ℕ → ℕ) where
  abbrev held_by : List Instance → ℕ
  held_by is = sum_by (λ (i : Instance). count i.generic) is

  abbrev held : State → ℕ
  held s = held_by s.instances_declared

  -- text counts no instance
  no_instance : (o : Option ℕ) → in_instance count (text_role o) ≡ 0
  no_instance None = refl
  no_instance (Some g) = refl

  packages_none : {A : Type 0} (o : Option A) (formals region : Region) (n : ℕ) → in_instance count (role_by n (interface_with o formals region)) ≡ 0
  packages_none None formals region n = refl
  packages_none (Some x) formals region n = refl

  module _ (l : Library) where
    abbrev one_at_unit : World → ℕ → LibraryItem → ℕ
    one_at_unit w n i = in_instance count (role_of w l n i)

    abbrev at : World → ℕ → Option LibraryUnit → ℕ
    at w n None = 0
    at w n (Some u) = one_at_unit w n u.item

    item_same : (v w : World) (n : ℕ) (i : LibraryItem) → interface_of v n ≡ interface_of w n → one_at_unit v n i ≡ one_at_unit w n i
    item_same v w n (library.PackageBody b) e =
        no_instance (option_and_then (λ m. is_generic_interface (interface_of v m) m) (unit_named l.names (key b.name)))
        ∙ sym (no_instance (option_and_then (λ m. is_generic_interface (interface_of w m) m) (unit_named l.names (key b.name))))
    item_same v w n (library.Package x) e = ap (λ i. in_instance count (role_by n i)) e
    item_same v w n (library.Instance x) e = ap (λ i. in_instance count (role_by n i)) e
    item_same v w n (library.Subprogram x) e = ap (λ i. in_instance count (role_by n i)) e

    at_same : (v w : World) (n : ℕ) (o : Option LibraryUnit) → interface_of v n ≡ interface_of w n → at v n o ≡ at w n o
    at_same v w n None e = refl
    at_same v w n (Some u) e = item_same v w n u.item e

    -- what a unit leaves
    abbrev Steps : World → State → ℕ → LibraryItem → Walked → Type 0
    Steps w s n i y = Leaves w n y.world × (held y.next ≡ one_at_unit y.world n i + held s)

    none_more : (a b c : ℕ) → b ≡ 0 → a ≡ c → a ≡ b + c
    none_more a b c e h = omega (arith, e, h)

    module _ (env : Env) (s : State) (p : Pos) (n : ℕ) (x : PackageSpecification) (less : n < length env.world.interfaces) where
      abbrev Here : Walked → Type 0
      Here y = Steps env.world s n (library.Package x) y

      abbrev end_in : Given Region → Given Region → Plan Walked
      end_in formals region = closed_by p x.name x.end_name >>= (λ end. rule (Some (with_package env n x formals.value region)))

      abbrev items_in : Given Region → Plan Walked
      items_in formals = package_items (in_specification env n x formals.value) formals.next p x.items >>= end_in formals

      package_steps : IfOk (package_judged env s p n x).answer Here
      package_steps =
          answered Here p _
          (part_so (Add (at_unit s)) Here (formals_declared (in_specification env n x []) (at_unit s) p 0 (formals_in x.formals)).answer items_in
          (formals_add (in_specification env n x []) (at_unit s) p 0 (formals_in x.formals))
          (λ formals h. part_so (Add formals.next) Here (package_items (in_specification env n x formals.value) formals.next p x.items).answer (end_in formals)
          (items_add (in_specification env n x formals.value) formals.next p x.items)
          (λ region k. part_so (λ e. Unit {0}) Here (closed_by p x.name x.end_name).answer
          (λ end. rule (Some (with_package env n x formals.value region))) (any_answer (closed_by p x.name x.end_name).answer)
          (λ end z. let i = interface_with x.formals formals.value region.value in
          let after = with_package env n x formals.value region in (
            leaves_set env.world after.world n i refl,
            none_more (held after.next) (one_at_unit after.world n (library.Package x)) (held s)
                (ap (λ j. in_instance count (role_by n j)) (set_is env.world after.world n i less refl) ∙ packages_none x.formals formals.value region.value n)
                (ap held_by (k.instances ∙ h.instances)),
          )))))

    subprogram_steps : (env : Env) (s : State) (n : ℕ) (b : SubprogramBody) → n < length env.world.interfaces
        → IfOk (library_subprogram env s n b).answer (Steps env.world s n (library.Subprogram b))
    subprogram_steps env s n b less =
        answered (Steps env.world s n (library.Subprogram b)) b.specification.pos _
        (part_so (Add (at_unit s)) (Steps env.world s n (library.Subprogram b)) (specified env (at_unit s) b.specification).answer
        (λ q. rule (Some (with_subprogram env.world n (library_routine env b q.value) (declared_only s q.next))))
        (specified_adds env (at_unit s) b.specification)
        (λ q h. let j = library_routine env b q.value in
        let after = with_subprogram env.world n j (declared_only s q.next) in (
          leaves_set env.world after.world n j refl,
          none_more (held after.next) (one_at_unit after.world n (library.Subprogram b)) (held s)
              (ap (λ i. in_instance count (role_by n i)) (set_is env.world after.world n j less refl)) (ap held_by h.instances),
        )))

    instance_steps : (env : Env) → env.step ≡ typing → (s : State) (p : Pos) (n k : ℕ) (i : SourceInstance) → n < length env.world.interfaces
        → IfOk (instance_judged env s p n k i).answer (Steps env.world s n (library.Instance i))
    instance_steps env step s p n k i less =
        answered (Steps env.world s n (library.Instance i)) p _
        (part_so IsThere (Steps env.world s n (library.Instance i)) (generic_named env i.generic_name).answer
        (λ g. actuals_judged env (at_unit s) p k [] (formals_of env.world g) i.actuals
        >>= (λ actuals. rule (Some (with_instance env.world p n k i g actuals.value actuals.next))))
        (generic_there env i.generic_name step)
        (λ g there. part_so (Add (at_unit s)) (Steps env.world s n (library.Instance i)) (actuals_judged env (at_unit s) p k [] (formals_of env.world g) i.actuals).answer
        (λ actuals. rule (Some (with_instance env.world p n k i g actuals.value actuals.next)))
        (actuals_add env (at_unit s) p k [] (formals_of env.world g) i.actuals)
        (λ actuals h. of_generic g there actuals.value actuals.next (h.instances))))
      where
        of_generic : (g : Option ℕ) → IsThere g → (actuals : List Actual) (t : State) → t.instances_declared ≡ s.instances_declared
            → Steps env.world s n (library.Instance i) (with_instance env.world p n k i g actuals t)
        of_generic None there actuals t e = absurd there
        of_generic (Some g) there actuals t e =
            let j = instance_interface (Some g) k actuals in
            let after = with_instance env.world p n k i (Some g) actuals t in
            let role = ap (λ x. in_instance count (role_by n x)) (set_is env.world after.world n j less refl) in
            let sum : held after.next ≡ count g + held t = sum_by-cons (λ (i : Instance). count i.generic) (instance_made env.world p i (Some g) actuals) t.instances_declared in
            let before = ap held_by e in (
              leaves_set env.world after.world n j refl,
              both (held after.next) (one_at_unit after.world n (library.Instance i)) (count g) (held t) (held s) sum role before,
            )
          where
            both : (a b c d e : ℕ) → a ≡ c + d → b ≡ c → d ≡ e → a ≡ b + e
            both a b c d e h k m = omega (arith, h, k, m)

    interface_steps : (w : World) (s : State) (n : ℕ) (u : LibraryUnit) (i : LibraryItem) → n < length w.interfaces
        → IfOk (interface_judged typing l w s n u i).answer (Steps w s n i)
    interface_steps w s n u (library.Package x) less = package_steps (env_of typing w n (key x.name) (seen_in w l u (unit n))) s u.item_pos n x less
    interface_steps w s n u (library.Instance i) less =
        instance_steps (env_of typing w n (key i.name) (seen_in w l u hidden)) refl s u.item_pos n (instance_number n l.units) i less
    interface_steps w s n u (library.Subprogram b) less = subprogram_steps (env_of typing w n (key b.specification.name) (seen_in w l u hidden)) s n b less
    interface_steps w s n u (library.PackageBody b) less = (
      record { sized = refl; others = λ m other. refl },
      none_more (held s) (one_at_unit w n (library.PackageBody b)) (held s)
          (no_instance (option_and_then (λ m. is_generic_interface (interface_of w m) m) (unit_named l.names (key b.name)))) refl,
    )

    abbrev StepsAt : Walked → ℕ → Option LibraryUnit → Walked → Type 0
    StepsAt x n o y = Leaves x.world n y.world × (held y.next ≡ at y.world n o + held x.next)

    at_steps : (x : Walked) (n : ℕ) (o : Option LibraryUnit) → slice_get l.units n ≡ o → length x.world.interfaces ≡ length l.units
        → IfOk (interface_at typing l x n o).answer (StepsAt x n o)
    at_steps x n None e sized = (record { sized = refl; others = λ m other. refl }, none_more (held x.next) 0 (held x.next) refl refl)
    at_steps x n (Some u) e sized =
        answered (StepsAt x n (Some u)) u.pos _
        (part_so (Steps x.world x.next n u.item) (StepsAt x n (Some u)) (interface_judged typing l x.world x.next n u u.item).answer
        (λ y. rule (Some y)) (interface_steps x.world x.next n u u.item (subst (λ m. n < m) (sym sized) (below_length l.units n u e))) (λ y h. h))

    -- units that are looked at once
    abbrev StandOnce : List ℕ → Type 0
    StandOnce ns = (m : ℕ) → sum_by (one_at m) ns ≤ 1

    once_behind : (n : ℕ) (ns : List ℕ) → StandOnce (n ∷ ns) → StandOnce ns
    once_behind n ns h m = let first = sum_by-cons (one_at m) n ns in let all = h m in omega (arith, first, all)

    not_behind : (n : ℕ) (ns : List ℕ) → StandOnce (n ∷ ns) → Somewhere (λ k. k ≡ n) ns → ⊥
    not_behind n ns h again =
        let first = sum_by-cons (one_at n) n ns in
        let one : one_at n n ≡ 1 = ap (λ b. if b then 1 else 0) (eq-eqb n n refl) in
        let all = h n in
        let more = there_counts n ns again in
        none (one_at n n) (sum_by (one_at n) ns) (sum_by (one_at n) (n ∷ ns)) first one all more
      where
        none : (a b c : ℕ) → c ≡ a + b → a ≡ 1 → c ≤ 1 → 1 ≤ b → ⊥
        none a b c e h k m = omega (arith, e, h, k, m)

    record Walks (ns : List ℕ) (x y : Walked) : Type 0 where
      others : (m : ℕ) → (Somewhere (λ k. k ≡ m) ns → ⊥) → interface_of y.world m ≡ interface_of x.world m
      sum : held y.next ≡ sum_by (λ n. at y.world n (slice_get l.units n)) ns + held x.next

    one_walks : (x y rest : Walked) (n : ℕ) (ns : List ℕ) → StandOnce (n ∷ ns) → StepsAt x n (slice_get l.units n) y → Walks ns y rest → Walks (n ∷ ns) x rest
    one_walks x y rest n ns once h k = record {
      others = λ m apart. k.others m (λ later. apart (inr later)) ∙ h.0.others m (λ same. apart (inl same));
      sum = joined (held rest.next) (held y.next) (held x.next) (sum_by (λ n. at rest.world n (slice_get l.units n)) ns)
          (at y.world n (slice_get l.units n)) (at rest.world n (slice_get l.units n)) (sum_by (λ n. at rest.world n (slice_get l.units n)) (n ∷ ns))
          k.sum h.1 (at_same rest.world y.world n (slice_get l.units n) (k.others n (not_behind n ns once)))
          (sum_by-cons (λ n. at rest.world n (slice_get l.units n)) n ns);
    }
      where
        joined : (r y x s a b t : ℕ) → r ≡ s + y → y ≡ a + x → b ≡ a → t ≡ b + s → r ≡ t + x
        joined r y x s a b t e f g h = omega (arith, e, f, g, h)

    interfaces_walk : (x : Walked) (ns : List ℕ) → StandOnce ns → length x.world.interfaces ≡ length l.units → IfOk (all_interfaces typing l x ns).answer (Walks ns x)
    interfaces_walk x [] once sized =
        record { others = λ m apart. refl; sum = none_more (held x.next) (sum_by (λ n. at x.world n (slice_get l.units n)) []) (held x.next) refl refl }
    interfaces_walk x (n ∷ ns) once sized =
        answered (Walks (n ∷ ns) x) nowhere _
        (part_so (StepsAt x n (slice_get l.units n)) (Walks (n ∷ ns) x) (interface_at typing l x n (slice_get l.units n)).answer
        (λ y. all_interfaces typing l y ns >>= (λ rest. rule (Some rest)))
        (at_steps x n (slice_get l.units n) refl sized)
        (λ y h. part_so (Walks ns y) (Walks (n ∷ ns) x) (all_interfaces typing l y ns).answer (λ rest. rule (Some rest))
        (interfaces_walk y ns (once_behind n ns once) (h.0.sized ∙ sized))
        (λ rest k. one_walks x y rest n ns once h k)))

    -- by the units in their order
    body_none : (w : World) (n : ℕ) (i : LibraryItem) → is_package_body i ≡ true → one_at_unit w n i ≡ 0
    body_none w n (library.PackageBody b) h = no_instance (option_and_then (λ m. is_generic_interface (interface_of w m) m) (unit_named l.names (key b.name)))
    body_none w n (library.Package x) h = absurd (false≢true h)
    body_none w n (library.Instance x) h = absurd (false≢true h)
    body_none w n (library.Subprogram x) h = absurd (false≢true h)

    module _ (w : World) (f : ℕ → ℕ) where
      counted : (n : ℕ) (us : List LibraryUnit) → ((i : ℕ) → f (n + i) ≡ at w (n + i) (slice_get us i))
          → sum_by f (units_but_bodies n us) ≡ in_instances count (entries_from w l n us)
      counted n [] h = refl
      counted n (u ∷ us) h =
          by_item (is_package_body u.item) refl
          (counted (n + 1) us (λ i. let next : (n + 1) + i ≡ n + suc i = omega arith in
          ap f next ∙ (h (suc i) ∙ ap (λ m. at w m (slice_get us i)) (sym next))))
        where
          by_item : (b : Bool) → is_package_body u.item ≡ b → sum_by f (units_but_bodies (n + 1) us) ≡ in_instances count (entries_from w l (n + 1) us)
              → sum_by f (if b then units_but_bodies (n + 1) us else n ∷ units_but_bodies (n + 1) us) ≡ in_instances count (entries_from w l n (u ∷ us))
          by_item true e all =
              let none = body_none w n u.item e in
              let sum = sum_by-cons (λ (e : UnitEntry). in_instance count e.role) (entry_of w l n u) (entries_from w l (n + 1) us) in
              omega (arith, none, all, sum)
          by_item false e all =
              let own : f n ≡ one_at_unit w n u.item =
              (let place : n ≡ n + 0 = omega arith in ap f place ∙ (h 0 ∙ ap (λ m. one_at_unit w m u.item) (sym place))) in
              let left = sum_by-cons f n (units_but_bodies (n + 1) us) in
              let sum = sum_by-cons (λ (e : UnitEntry). in_instance count e.role) (entry_of w l n u) (entries_from w l (n + 1) us) in
              omega (arith, own, left, sum, all)

  -- in whatever order, and with the values of constants
  inserted_sum : (before : Instance → Instance → Bool) (x : Instance) (xs : List Instance) → held_by (inserted before x xs) ≡ count x.generic + held_by xs
  inserted_sum before x [] = sum_by-cons (λ (i : Instance). count i.generic) x []
  inserted_sum before x (y ∷ ys) = by_order (before y x) (inserted_sum before x ys)
    where
      by_order : (b : Bool) → held_by (inserted before x ys) ≡ count x.generic + held_by ys
          → held_by (if b then y ∷ inserted before x ys else x ∷ (y ∷ ys)) ≡ count x.generic + held_by (y ∷ ys)
      by_order true e =
          let left = sum_by-cons (λ (i : Instance). count i.generic) y (inserted before x ys) in
          let right = sum_by-cons (λ (i : Instance). count i.generic) y ys in
          omega (arith, left, right, e)
      by_order false e = sum_by-cons (λ (i : Instance). count i.generic) x (y ∷ ys)

  in_order_sum : (before : Instance → Instance → Bool) (xs : List Instance) → held_by (in_order before xs) ≡ held_by xs
  in_order_sum before [] = refl
  in_order_sum before (x ∷ xs) =
      let first = inserted_sum before x (in_order before xs) in
      let all = sum_by-cons (λ (i : Instance). count i.generic) x xs in
      let rest = in_order_sum before xs in
      omega (arith, first, all, rest)

  valued_sum : (is : List Instance) (fs : List Facts) → held_by (with_values is fs) ≡ held_by is
  valued_sum [] fs = refl
  valued_sum (i ∷ is) [] = refl
  valued_sum (i ∷ is) (f ∷ fs) =
      let left = sum_by-cons (λ (i : Instance). count i.generic) (record i { constants = f.constants }) (with_values is fs) in
      let right = sum_by-cons (λ (i : Instance). count i.generic) i is in
      let rest = valued_sum is fs in
      omega (arith, left, right, rest)

-- each unit but bodies of packages stands once among these
abbrev one_of : Bool → ℕ
one_of b = if b then 1 else 0

none_before : (m n : ℕ) (us : List LibraryUnit) → m < n → sum_by (one_at m) (units_but_bodies n us) ≡ 0
none_before m n [] less = refl
none_before m n (u ∷ us) less = by_item (is_package_body u.item) (none_before m (n + 1) us (omega (arith, less)))
  where
    apart : (b : Bool) → nat_eq n m ≡ b → one_of b ≡ 0
    apart true e = let same = eqb-true n m e in absurd (none same)
      where
        none : n ≡ m → ⊥
        none same = omega (arith, same, less)
    apart false e = refl

    by_item : (b : Bool) → sum_by (one_at m) (units_but_bodies (n + 1) us) ≡ 0
        → sum_by (one_at m) (if b then units_but_bodies (n + 1) us else n ∷ units_but_bodies (n + 1) us) ≡ 0
    by_item true h = h
    by_item false h =
        let first = sum_by-cons (one_at m) n (units_but_bodies (n + 1) us) in
        let none = apart (nat_eq n m) refl in
        omega (arith, first, none, h)

units_once : (m n : ℕ) (us : List LibraryUnit) → sum_by (one_at m) (units_but_bodies n us) ≤ 1
units_once m n [] = few (sum_by (one_at m) []) refl
  where
    few : (k : ℕ) → k ≡ 0 → k ≤ 1
    few k e = omega (arith, e)
units_once m n (u ∷ us) = by_item (is_package_body u.item) (units_once m (n + 1) us)
  where
    by_number : (b : Bool) → nat_eq n m ≡ b → sum_by (one_at m) (units_but_bodies (n + 1) us) ≤ 1
        → one_of b + sum_by (one_at m) (units_but_bodies (n + 1) us) ≤ 1
    by_number true e h =
        let same = eqb-true n m e in
        let none = none_before m (n + 1) us (omega (arith, same)) in
        omega (arith, none)
    by_number false e h = omega (arith, h)

    by_item : (b : Bool) → sum_by (one_at m) (units_but_bodies (n + 1) us) ≤ 1
        → sum_by (one_at m) (if b then units_but_bodies (n + 1) us else n ∷ units_but_bodies (n + 1) us) ≤ 1
    by_item true h = h
    by_item false h =
        let first = sum_by-cons (one_at m) n (units_but_bodies (n + 1) us) in
        let few = by_number (nat_eq n m) refl h in
        omega (arith, first, few)

module _ (l : Library) (main : List ℕ) (p : Program) (is : IsLegal l main p) (whole : IsWholeOrder l) (count : ℕ → ℕ) where
  order_once : StandOnce count l l.order
  order_once m = subst (λ n. n ≤ 1) (whole.units (one_at m)) (units_once m 0 l.units)

  all_walk : Walks count l l.order (record { world = world_before l; next = beginning_state }) is.walk.seen
  all_walk =
      of_ok (Walks count l l.order (record { world = world_before l; next = beginning_state }))
      (all_interfaces typing l (record { world = world_before l; next = beginning_state }) l.order).answer is.walk.seen is.walk.interfaces
      (interfaces_walk count l (record { world = world_before l; next = beginning_state }) l.order order_once (none_sized l.units))

  pub instances_are : (w : World) → w.interfaces ≡ is.walk.seen.world.interfaces
      → sum_by (λ (i : Instance). count i.generic) p.instances ≡ in_instances count (entries_of w l)
  instances_are w same =
      let f = λ (n : ℕ). at count l is.walk.seen.world n (slice_get l.units n) in
      let ds = is.walked.next.instances_declared in
      let made = ap (λ (q : Program). held_by count q.instances) is.made in
      let valued = valued_sum count (in_order (λ a b. precedes a.place b.place) (reverse ds)) is.walked.world.instances in
      let ordered = in_order_sum count (λ a b. precedes a.place b.place) (reverse ds) in
      let turned = turned_sum (λ (i : Instance). count i.generic) ds in
      let seen = ap (held_by count) (states_of l main p is).bodies.instances in
      let walk = all_walk.sum in
      let units = whole.units f in
      let entries = counted count l w f 0 l.units (λ i. let none : 0 + i ≡ i = omega arith in
      ap f none ∙ (at_same count l is.walk.seen.world w i (slice_get l.units i) (ap (λ is. unwrap_or (slice_get is i) no_interface) (sym same))
      ∙ ap (λ m. at count l w m (slice_get l.units i)) (sym none))) in
      made ∙ (valued ∙ (ordered ∙ (turned ∙ (seen ∙ (walk ∙ (behind _ ∙ (sym units ∙ entries)))))))
    where
      behind : (n : ℕ) → n + 0 ≡ n
      behind n = omega (arith)
