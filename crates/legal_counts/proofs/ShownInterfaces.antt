-- What other units see of a unit is a generic just where its text has formals, so units have the roles of their texts.
use Rattle.std.proofs.Common.{◌≡◌, ◌<◌, ◌≤◌, ◌+◌, ℕ, zero, suc, nat_eq, Bool, true, false, if◌then◌else◌, List, [], ◌∷◌, map, length, set, slice_get, Option, Some, None, IfSome, IfOk, refl, sym, ap, ◌∙◌, subst, inl, inr, arith}
use Rattle.std.specs.Prelude.{◌⊎◌, unwrap_or}
use Rattle.std.specs.Option.{option_and_then}
use Rattle.std.specs.List.{sum_by}
use Rattle.std.proofs.lemmas.List.Sums.{sum_by-cons}
use Rattle.std.proofs.lemmas.Bool.{eqb-true, eq-eqb, false≢true}
use Rattle.cov_base.specs.Lists.{Somewhere}
use Rattle.cov_base.specs.declared.position.Pos.{Pos}
use Rattle.ada_syntax.specs.Nodes.{unit_nodes}
use Rattle.ada_syntax.specs.declared.unit.Instance.{Instance}
use Rattle.ada_syntax.specs.declared.unit.LibraryItem.{LibraryItem}
use Rattle.ada_syntax.specs.declared.unit.LibraryItem.TheVariants as library
use Rattle.ada_syntax.specs.declared.unit.PackageSpecification.{PackageSpecification}
use Rattle.ada_syntax.specs.declared.unit.SubprogramBody.{SubprogramBody}
use Rattle.ada_syntax.specs.declared.unit.Unit.{Unit as LibraryUnit}
use Rattle.ada_tree.specs.Weights.{unit_nodes_in, text_nodes}
use Rattle.ada_tree.specs.declared.program.UnitEntry.{UnitEntry}
use Rattle.ada_meaning.specs.Program.{Program}
use Rattle.ada_rules.specs.Denoted.{nowhere}
use Rattle.ada_rules.specs.Entities.{key, hidden, unit, Region}
use Rattle.ada_rules.specs.Environment.{Step, typing, Interface, no_interface, package_interface, generic_interface, instance_interface, subprogram_interface, World, interface_of, State, beginning_state, Given, Env}
use Rattle.ada_rules.specs.Instances.{formals_declared, generic_named, formals_of, actuals_judged}
use Rattle.ada_rules.specs.Library.{Library, unit_named, instance_number, is_package_body, units_but_bodies}
use Rattle.ada_rules.specs.Plan.{Plan, ◌>>=◌, rule}
use Rattle.ada_rules.specs.Subprograms.{specified, declared_only, closed_by}
use Rattle.ada_rules.specs.Units.{generic_at, is_generic_interface, interface_with, env_of, package_items, Walked, at_unit, formals_in, in_specification, with_package, package_judged, with_instance, instance_judged, with_subprogram, library_routine, library_subprogram, seen_in, interface_judged, interface_at, all_interfaces, world_before}
use Rattle.legal_laws.proofs.Passing.{answered, part_so, any_answer}
use Rattle.legal_programs.specs.Walked.{IsLegal}
use Rattle.legal_programs.proofs.Passed.{of_ok}
use Rattle.program_weights.specs.Entries.{text_role, instance_role, role_by, role_of, entry_of, entries_from, entries_of}
use Rattle.legal_types.specs.legal_instances.specs.Ordered.{IsWholeOrder, HaveSameItems}
use Rattle.legal_types.specs.TextGenerics as text
use Rattle.legal_types.specs.TextGenerics.{shown_in, text_generic, part_in}
use Rattle.legal_counts.specs.TextParts.{text_nodes_in, role_nodes_in, AreCounted}

-- an item that is set, and the others
set_here : (xs : List Interface) (k : ℕ) (x : Interface) → k < length xs → slice_get (set xs k x) k ≡ Some x
set_here [] k x h = absurd (none h)
  where
    none : k < 0 → ⊥
    none l = omega (arith, l)
set_here (y ∷ xs) zero x h = refl
set_here (y ∷ xs) (suc k) x h = set_here xs k x (omega (arith, h))

set_others : (xs : List Interface) (k j : ℕ) (x : Interface) → (k ≡ j → ⊥) → slice_get (set xs k x) j ≡ slice_get xs j
set_others [] zero j x h = refl
set_others [] (suc k) j x h = refl
set_others (y ∷ xs) zero zero x h = absurd (h refl)
set_others (y ∷ xs) zero (suc j) x h = refl
set_others (y ∷ xs) (suc k) zero x h = refl
set_others (y ∷ xs) (suc k) (suc j) x h = set_others xs k j x (λ e. h (ap suc e))

set_length : (xs : List Interface) (k : ℕ) (x : Interface) → length (set xs k x) ≡ length xs
set_length [] zero x = refl
set_length [] (suc k) x = refl
set_length (y ∷ xs) zero x = refl
set_length (y ∷ xs) (suc k) x = ap suc (set_length xs k x)

pub below_length : {X : Type 0} (xs : List X) (n : ℕ) (x : X) → slice_get xs n ≡ Some x → n < length xs
below_length [] n x e = absurd (let y : ⊥ = cc e in y)
below_length (y ∷ xs) zero x e = positive (length xs)
  where
    positive : (m : ℕ) → 0 < suc m
    positive m = omega (arith)
below_length (y ∷ xs) (suc n) x e = let less = below_length xs n x e in omega (arith, less)

-- of a unit that is no body of a package
abbrev pub IsRight : World → ℕ → LibraryItem → Type 0
IsRight w n i = is_package_body i ≡ false → is_generic_interface (interface_of w n) n ≡ shown_in n i

abbrev IsRightAt : World → ℕ → Option LibraryUnit → Type 0
IsRightAt w n o = IfSome o (λ u. IsRight w n u.item)

-- a unit leaves what others show
pub record Leaves (w : World) (n : ℕ) (v : World) : Type 0 where
  pub sized : length v.interfaces ≡ length w.interfaces
  pub others : (m : ℕ) → (n ≡ m → ⊥) → interface_of v m ≡ interface_of w m

pub leaves_set : (w v : World) (n : ℕ) (i : Interface) → v.interfaces ≡ set w.interfaces n i → Leaves w n v
leaves_set w v n i e = record {
  sized = ap length e ∙ set_length w.interfaces n i;
  others = λ m other. ap (λ is. unwrap_or (slice_get is m) no_interface) e ∙ ap (λ o. unwrap_or o no_interface) (set_others w.interfaces n m i other);
}

pub set_is : (w v : World) (n : ℕ) (i : Interface) → n < length w.interfaces → v.interfaces ≡ set w.interfaces n i → interface_of v n ≡ i
set_is w v n i less e =
    ap (λ is. unwrap_or (slice_get is n) no_interface) e ∙ ap (λ o. unwrap_or o no_interface) (set_here w.interfaces n i less)

abbrev Steps : World → ℕ → LibraryItem → Walked → Type 0
Steps w n i y = Leaves w n y.world × IsRight y.world n i

-- a package with formals is a generic
with_generic : {A : Type 0} (o : Option A) (formals region : Region) (n : ℕ) → is_generic_interface (interface_with o formals region) n ≡ generic_at o n
with_generic None formals region n = refl
with_generic (Some x) formals region n = refl

module _ (env : Env) (s : State) (p : Pos) (n : ℕ) (x : PackageSpecification) (less : n < length env.world.interfaces) where
  abbrev end_in : Given Region → Given Region → Plan Walked
  end_in formals region = closed_by p x.name x.end_name >>= (λ end. rule (Some (with_package env n x formals.value region)))

  abbrev items_in : Given Region → Plan Walked
  items_in formals = package_items (in_specification env n x formals.value) formals.next p x.items >>= end_in formals

  package_steps : IfOk (package_judged env s p n x).answer (Steps env.world n (library.Package x))
  package_steps =
      answered (Steps env.world n (library.Package x)) p _
      (part_so (λ g. Unit {0}) (Steps env.world n (library.Package x)) (formals_declared (in_specification env n x []) (at_unit s) p 0 (formals_in x.formals)).answer items_in
      (any_answer (formals_declared (in_specification env n x []) (at_unit s) p 0 (formals_in x.formals)).answer)
      (λ formals u. part_so (λ g. Unit {0}) (Steps env.world n (library.Package x)) (package_items (in_specification env n x formals.value) formals.next p x.items).answer (end_in formals)
      (any_answer (package_items (in_specification env n x formals.value) formals.next p x.items).answer)
      (λ region v. part_so (λ e. Unit {0}) (Steps env.world n (library.Package x)) (closed_by p x.name x.end_name).answer
      (λ end. rule (Some (with_package env n x formals.value region))) (any_answer (closed_by p x.name x.end_name).answer)
      (λ end z. let i = interface_with x.formals formals.value region.value in
      let after = (with_package env n x formals.value region).world in (
        leaves_set env.world after n i refl,
        λ body. ap (λ j. is_generic_interface j n) (set_is env.world after n i less refl) ∙ with_generic x.formals formals.value region.value n,
      )))))

instance_steps : (env : Env) (s : State) (p : Pos) (n k : ℕ) (i : Instance) → n < length env.world.interfaces
    → IfOk (instance_judged env s p n k i).answer (Steps env.world n (library.Instance i))
instance_steps env s p n k i less =
    answered (Steps env.world n (library.Instance i)) p _
    (part_so (λ g. Unit {0}) (Steps env.world n (library.Instance i)) (generic_named env i.generic_name).answer
    (λ g. actuals_judged env (at_unit s) p k [] (formals_of env.world g) i.actuals
    >>= (λ actuals. rule (Some (with_instance env.world p n k i g actuals.value actuals.next))))
    (any_answer (generic_named env i.generic_name).answer)
    (λ g u. part_so (λ x. Unit {0}) (Steps env.world n (library.Instance i)) (actuals_judged env (at_unit s) p k [] (formals_of env.world g) i.actuals).answer
    (λ actuals. rule (Some (with_instance env.world p n k i g actuals.value actuals.next)))
    (any_answer (actuals_judged env (at_unit s) p k [] (formals_of env.world g) i.actuals).answer)
    (λ actuals v. let j = instance_interface g k actuals.value in
    let after = (with_instance env.world p n k i g actuals.value actuals.next).world in
    (leaves_set env.world after n j refl, λ body. ap (λ x. is_generic_interface x n) (set_is env.world after n j less refl)))))

subprogram_steps : (env : Env) (s : State) (n : ℕ) (b : SubprogramBody) → n < length env.world.interfaces
    → IfOk (library_subprogram env s n b).answer (Steps env.world n (library.Subprogram b))
subprogram_steps env s n b less =
    answered (Steps env.world n (library.Subprogram b)) b.specification.pos _
    (part_so (λ q. Unit {0}) (Steps env.world n (library.Subprogram b)) (specified env (at_unit s) b.specification).answer
    (λ q. rule (Some (with_subprogram env.world n (library_routine env b q.value) (declared_only s q.next))))
    (any_answer (specified env (at_unit s) b.specification).answer)
    (λ q u. let j = library_routine env b q.value in
    let after = (with_subprogram env.world n j (declared_only s q.next)).world in
    (leaves_set env.world after n j refl, λ body. ap (λ x. is_generic_interface x n) (set_is env.world after n j less refl))))

module _ (step : Step) (l : Library) where
  interface_steps : (w : World) (s : State) (n : ℕ) (u : LibraryUnit) (i : LibraryItem) → n < length w.interfaces
      → IfOk (interface_judged step l w s n u i).answer (Steps w n i)
  interface_steps w s n u (library.Package x) less = package_steps (env_of step w n (key x.name) (seen_in w l u (unit n))) s u.item_pos n x less
  interface_steps w s n u (library.Instance i) less =
      instance_steps (env_of step w n (key i.name) (seen_in w l u hidden)) s u.item_pos n (instance_number n l.units) i less
  interface_steps w s n u (library.Subprogram b) less = subprogram_steps (env_of step w n (key b.specification.name) (seen_in w l u hidden)) s n b less
  interface_steps w s n u (library.PackageBody b) less =
      (record { sized = refl; others = λ m other. refl }, λ body. absurd (false≢true (sym body)))

  abbrev StepsAt : World → ℕ → Option LibraryUnit → Walked → Type 0
  StepsAt w n o y = Leaves w n y.world × IsRightAt y.world n o

  at_steps : (x : Walked) (n : ℕ) (o : Option LibraryUnit) → slice_get l.units n ≡ o → length x.world.interfaces ≡ length l.units
      → IfOk (interface_at step l x n o).answer (StepsAt x.world n o)
  at_steps x n None e sized = (record { sized = refl; others = λ m other. refl }, tt)
  at_steps x n (Some u) e sized =
      answered (StepsAt x.world n (Some u)) u.pos _
      (part_so (Steps x.world n u.item) (StepsAt x.world n (Some u)) (interface_judged step l x.world x.next n u u.item).answer
      (λ y. rule (Some y)) (interface_steps x.world x.next n u u.item (subst (λ m. n < m) (sym sized) (below_length l.units n u e))) (λ y h. h))

  -- what was right stays so, and what is looked at comes to be so
  abbrev Shows : List ℕ → World → Walked → Type 0
  Shows ns w y = (m : ℕ) → IsRightAt w m (slice_get l.units m) ⊎ Somewhere (λ k. k ≡ m) ns → IsRightAt y.world m (slice_get l.units m)

  right_still : (w v : World) (m : ℕ) (o : Option LibraryUnit) → interface_of v m ≡ interface_of w m → IsRightAt w m o → IsRightAt v m o
  right_still w v m None e h = tt
  right_still w v m (Some u) e h = λ body. ap (λ i. is_generic_interface i m) e ∙ h body

  one_shows : (x y rest : Walked) (n : ℕ) (ns : List ℕ) → StepsAt x.world n (slice_get l.units n) y → Shows ns y.world rest → Shows (n ∷ ns) x.world rest
  one_shows x y rest n ns h k m before = k m (by_number (nat_eq n m) refl before)
    where
      by_number : (b : Bool) → nat_eq n m ≡ b → IsRightAt x.world m (slice_get l.units m) ⊎ Somewhere (λ k. k ≡ m) (n ∷ ns)
          → IsRightAt y.world m (slice_get l.units m) ⊎ Somewhere (λ k. k ≡ m) ns
      by_number true e either = inl (subst (λ j. IsRightAt y.world j (slice_get l.units j)) (eqb-true n m e) h.1)
      by_number false e (inl right) =
          inl (right_still x.world y.world m (slice_get l.units m) (h.0.others m (λ same. false≢true (sym e ∙ eq-eqb n m same))) right)
      by_number false e (inr (inl same)) = absurd (false≢true (sym e ∙ eq-eqb n m same))
      by_number false e (inr (inr later)) = inr later

  interfaces_show : (x : Walked) (ns : List ℕ) → length x.world.interfaces ≡ length l.units → IfOk (all_interfaces step l x ns).answer (Shows ns x.world)
  interfaces_show x [] sized = λ m before. at_end m before
    where
      at_end : (m : ℕ) → IsRightAt x.world m (slice_get l.units m) ⊎ Somewhere (λ k. k ≡ m) [] → IsRightAt x.world m (slice_get l.units m)
      at_end m (inl right) = right
      at_end m (inr none) = absurd none
  interfaces_show x (n ∷ ns) sized =
      answered (Shows (n ∷ ns) x.world) nowhere _
      (part_so (StepsAt x.world n (slice_get l.units n)) (Shows (n ∷ ns) x.world) (interface_at step l x n (slice_get l.units n)).answer
      (λ y. all_interfaces step l y ns >>= (λ rest. rule (Some rest)))
      (at_steps x n (slice_get l.units n) refl sized)
      (λ y h. part_so (Shows ns y.world) (Shows (n ∷ ns) x.world) (all_interfaces step l y ns).answer (λ rest. rule (Some rest))
      (interfaces_show y ns (h.0.sized ∙ sized))
      (λ rest k. one_shows x y rest n ns h k)))

-- each unit but bodies of packages is looked at
listed : (n : ℕ) (us : List LibraryUnit) (i : ℕ) (u : LibraryUnit) → slice_get us i ≡ Some u → is_package_body u.item ≡ false
    → Somewhere (λ k. k ≡ n + i) (units_but_bodies n us)
listed n [] i u e body = absurd (let y : ⊥ = cc e in y)
listed n (v ∷ us) zero u e body =
    subst (λ b. Somewhere (λ k. k ≡ n + 0) (if b then units_but_bodies (n + 1) us else n ∷ units_but_bodies (n + 1) us))
    (sym (ap (λ o. is_package_body (unwrap_or o v).item) e ∙ body)) (inl (omega (arith)))
listed n (v ∷ us) (suc i) u e body =
    by_item (is_package_body v.item) (subst (λ m. Somewhere (λ k. k ≡ m) (units_but_bodies (n + 1) us)) (omega (arith)) (listed (n + 1) us i u e body))
  where
    by_item : (b : Bool) → Somewhere (λ k. k ≡ n + suc i) (units_but_bodies (n + 1) us)
        → Somewhere (λ k. k ≡ n + suc i) (if b then units_but_bodies (n + 1) us else n ∷ units_but_bodies (n + 1) us)
    by_item true h = h
    by_item false h = inr h

pub none_sized : (us : List LibraryUnit) → length (map (λ u. no_interface) us) ≡ length us
none_sized [] = refl
none_sized (u ∷ us) = ap suc (none_sized us)

-- what is as often in both lists
-- how often a number comes
abbrev pub one_at : ℕ → ℕ → ℕ
one_at n x = if nat_eq x n then 1 else 0

pub there_counts : (n : ℕ) (xs : List ℕ) → Somewhere (λ x. x ≡ n) xs → 1 ≤ sum_by (one_at n) xs
there_counts n [] h = absurd h
there_counts n (x ∷ xs) (inl e) =
    let first = sum_by-cons (one_at n) x xs in
    let one : one_at n x ≡ 1 = ap (λ b. if b then 1 else 0) (eq-eqb x n e) in
    omega (arith, first, one)
there_counts n (x ∷ xs) (inr h) =
    let first = sum_by-cons (one_at n) x xs in
    let rest = there_counts n xs h in
    omega (arith, first, rest)

counts_there : (n : ℕ) (xs : List ℕ) → 1 ≤ sum_by (one_at n) xs → Somewhere (λ x. x ≡ n) xs
counts_there n [] h = absurd (none h)
  where
    none : 1 ≤ 0 → ⊥
    none k = omega (arith, k)
counts_there n (x ∷ xs) h = by_first (nat_eq x n) refl (counts_there n xs)
  where
    by_first : (b : Bool) → nat_eq x n ≡ b → (1 ≤ sum_by (one_at n) xs → Somewhere (λ y. y ≡ n) xs)
        → (x ≡ n) ⊎ Somewhere (λ y. y ≡ n) xs
    by_first true e rest = inl (eqb-true x n e)
    by_first false e rest =
        let first = sum_by-cons (one_at n) x xs in
        let none : one_at n x ≡ 0 = ap (λ b. if b then 1 else 0) e in
        inr (rest (omega (arith, first, none, h)))

there_too : (n : ℕ) (xs ys : List ℕ) → HaveSameItems xs ys → Somewhere (λ x. x ≡ n) xs → Somewhere (λ y. y ≡ n) ys
there_too n xs ys same h =
    let count = there_counts n xs h in
    let equal = same (one_at n) in
    counts_there n ys (omega (arith, count, equal))

-- the nodes of a unit with a role
same_number : (g h : ℕ) → nat_eq h g ≡ nat_eq g h
same_number g h = by_number (nat_eq g h) refl
  where
    other_way : (b : Bool) → nat_eq h g ≡ b → nat_eq g h ≡ false → b ≡ false
    other_way true e apart = absurd (false≢true (sym apart ∙ eq-eqb g h (sym (eqb-true h g e))))
    other_way false e apart = refl

    by_number : (b : Bool) → nat_eq g h ≡ b → nat_eq h g ≡ nat_eq g h
    by_number true e = eq-eqb h g (sym (eqb-true g h e)) ∙ sym e
    by_number false e = other_way (nat_eq h g) refl e ∙ sym e

pub text_role_so : (g : Option ℕ) (c : ℕ) (o : Option ℕ) → unit_nodes_in g (text_role o) c ≡ part_in g o c
text_role_so None c None = refl
text_role_so None c (Some h) = refl
text_role_so (Some g) c None = refl
text_role_so (Some g) c (Some h) = ap (λ b. if b then c else 0) (same_number g h)

instance_role_so : (g : Option ℕ) (c : ℕ) (o : Option ℕ) → unit_nodes_in g (instance_role o) c ≡ part_in g None c
instance_role_so None c None = refl
instance_role_so None c (Some h) = refl
instance_role_so (Some g) c None = refl
instance_role_so (Some g) c (Some h) = refl

role_by_so : (g : Option ℕ) (n c : ℕ) (i : Interface) → unit_nodes_in g (role_by n i) c ≡ part_in g (is_generic_interface i n) c
role_by_so g n c no_interface = text_role_so g c None
role_by_so g n c (package_interface region) = text_role_so g c None
role_by_so g n c (generic_interface formals region) = text_role_so g c (Some n)
role_by_so g n c (instance_interface h k actuals) = instance_role_so g c h
role_by_so g n c (subprogram_interface r) = text_role_so g c None

module _ (l : Library) (main : List ℕ) (p : Program) (is : IsLegal l main p) (whole : IsWholeOrder l) where
  all_show : Shows typing l l.order (world_before l) is.walk.seen
  all_show =
      of_ok (Shows typing l l.order (world_before l))
      (all_interfaces typing l (record { world = world_before l; next = beginning_state }) l.order).answer is.walk.seen is.walk.interfaces
      (interfaces_show typing l (record { world = world_before l; next = beginning_state }) l.order (none_sized l.units))

  pub all_right : (n : ℕ) (u : LibraryUnit) → slice_get l.units n ≡ Some u → IsRight is.walk.seen.world n u.item
  all_right n u e body =
      let same : 0 + n ≡ n = omega (arith) in
      let at : Somewhere (λ k. k ≡ n) (units_but_bodies 0 l.units) = subst (λ m. Somewhere (λ k. k ≡ m) (units_but_bodies 0 l.units)) same (listed 0 l.units n u e body) in
      subst (IsRightAt is.walk.seen.world n) e (all_show n (inr (there_too n (units_but_bodies 0 l.units) l.order whole.units at))) body

  -- the roles in a world with these interfaces
  module _ (w : World) (same : w.interfaces ≡ is.walk.seen.world.interfaces) (g : Option ℕ) where
    interface_same : (n : ℕ) → interface_of w n ≡ interface_of is.walk.seen.world n
    interface_same n = ap (λ is. unwrap_or (slice_get is n) no_interface) same

    generic_same : (o : Option ℕ) → option_and_then (λ n. is_generic_interface (interface_of w n) n) o ≡ text.generic_at is.walk.seen.world o
    generic_same None = refl
    generic_same (Some n) = ap (λ i. is_generic_interface i n) (interface_same n)

    shown_role : (n c : ℕ) (i : LibraryItem) → IsRight is.walk.seen.world n i → is_package_body i ≡ false
        → unit_nodes_in g (role_by n (interface_of w n)) c ≡ part_in g (shown_in n i) c
    shown_role n c i right body =
        role_by_so g n c (interface_of w n) ∙ ap (λ o. part_in g o c) (ap (λ j. is_generic_interface j n) (interface_same n) ∙ right body)

    unit_role : (n c : ℕ) (i : LibraryItem) → IsRight is.walk.seen.world n i
        → unit_nodes_in g (role_of w l n i) c ≡ part_in g (text_generic is.walk.seen.world l n i) c
    unit_role n c (library.PackageBody b) right =
        text_role_so g c (option_and_then (λ m. is_generic_interface (interface_of w m) m) (unit_named l.names (key b.name)))
        ∙ ap (λ o. part_in g o c) (generic_same (unit_named l.names (key b.name)))
    unit_role n c (library.Package x) right = shown_role n c (library.Package x) right refl
    unit_role n c (library.Instance i) right = shown_role n c (library.Instance i) right refl
    unit_role n c (library.Subprogram b) right = shown_role n c (library.Subprogram b) right refl

    roles_from : (n : ℕ) (us : List LibraryUnit) → ((i : ℕ) (u : LibraryUnit) → slice_get us i ≡ Some u → IsRight is.walk.seen.world (n + i) u.item)
        → text_nodes_in g is.walk.seen.world l n us ≡ role_nodes_in g w l n us
    roles_from n [] right = refl
    roles_from n (u ∷ us) right =
        let first = unit_role n (unit_nodes u) u.item (let at : n + 0 ≡ n = omega (arith) in subst (λ m. IsRight is.walk.seen.world m u.item) at (right 0 u refl)) in
        let rest = roles_from (n + 1) us
        (λ i v e. let at : n + suc i ≡ (n + 1) + i = omega (arith) in subst (λ m. IsRight is.walk.seen.world m v.item) at (right (suc i) v e)) in
        omega (arith, first, rest)

    pub roles_are : text_nodes_in g is.walk.seen.world l 0 l.units ≡ role_nodes_in g w l 0 l.units
    roles_are =
        roles_from 0 l.units (λ i u e. let at : i ≡ 0 + i = omega (arith) in subst (λ m. IsRight is.walk.seen.world m u.item) at (all_right i u e))

    entries_from_are : (n : ℕ) (us : List LibraryUnit) → AreCounted us → role_nodes_in g w l n us ≡ text_nodes g (entries_from w l n us)
    entries_from_are n [] h = refl
    entries_from_are n (u ∷ us) h =
        let sum = sum_by-cons (λ (e : UnitEntry). unit_nodes_in g e.role e.nodes) (entry_of w l n u) (entries_from w l (n + 1) us) in
        let first = ap (unit_nodes_in g (role_of w l n u.item)) h.0 in
        let rest = entries_from_are (n + 1) us h.1 in
        omega (arith, sum, first, rest)

    pub entries_are : AreCounted l.units → text_nodes_in g is.walk.seen.world l 0 l.units ≡ text_nodes g (entries_of w l)
    entries_are counted = roles_are ∙ entries_from_are 0 l.units counted
