-- Each statement obligation and each condition of a program is marked once in each of its instances, and nothing else is.
use Rattle.std.proofs.Common.{◌≡◌, ◌≢◌, ℕ, zero, suc, ◌+◌, ◌<◌, ◌≤◌, ◌⊎◌, inl, inr, nat_eq, nat_lt, Bool, true, false, ◌&&◌, List, [], ◌∷◌, map, length, sum_by, Option, Some, None, refl, sym, ap, subst, ◌∙◌, arith}
use Rattle.std.specs.Prelude.{if◌then◌else◌}
use Rattle.std.proofs.lemmas.Bool.Decides.{eqb_tells, nat_tests}
use Rattle.std.proofs.lemmas.List.Sums.{sum_by-cons, sum_by-append}
use Rattle.cov_base.specs.declared.position.DecId.{DecId}
use Rattle.cov_base.specs.Graph as logic
use Rattle.cov_base.specs.Graph.{Edges}
use Rattle.cov_base.specs.Lists.{Everywhere, Somewhere}
use Rattle.ada_meaning.specs.Bodies.{Body, instances_from, instances_of, bodies_from, bodies_of, IsBody}
use Rattle.ada_meaning.proofs.BodyLaws.{bodies_law}
use Rattle.ada_meaning.specs.Collected.{Decision, block_labels, in_block, labels_of, decisions_of}
use Rattle.ada_meaning.specs.Obligations.{inserted, in_order, ordered_labels, ordered_decisions, numbers, IsNumbered}
use Rattle.ada_meaning.specs.Program.{Subprogram, Instance, Program}
use Rattle.ada_meaning.specs.Tree as tree
use Rattle.kernel_ir.specs.Obligations.{Row, Condition}
use Rattle.statement_code.specs.Fragments.{HaveOthers, AreOwn, row_in, condition_in, conditions_in}
use Rattle.statement_code.specs.Kernels.{text_at, rows_of, conditions_of}
use Rattle.statement_code.specs.Own.{one_if, row_times, is_row, condition_times, is_condition, MarksOnce}

-- sums over a list that is made of another, and over one in order
pub sum_map : {X Y : Type 0} (weight : Y → ℕ) (f : X → Y) (xs : List X) → sum_by weight (map f xs) ≡ sum_by (λ x. weight (f x)) xs
sum_map weight f [] = refl
sum_map weight f (x ∷ xs) = omega (arith, sum_by-cons weight (f x) (map f xs), sum_by-cons (λ y. weight (f y)) x xs, sum_map weight f xs)

inserted_sum : {X : Type 0} (before : X → X → Bool) (weight : X → ℕ) (x : X) (ys : List X) → sum_by weight (inserted before x ys) ≡ weight x + sum_by weight ys
inserted_sum before weight x [] = omega (arith, sum_by-cons weight x [])
inserted_sum before weight x (y ∷ ys) = by_test (before y x) (inserted_sum before weight x ys)
  where
    by_test : (b : Bool) → sum_by weight (inserted before x ys) ≡ weight x + sum_by weight ys
        → sum_by weight (if b then y ∷ inserted before x ys else x ∷ (y ∷ ys)) ≡ weight x + sum_by weight (y ∷ ys)
    by_test true later = omega (arith, sum_by-cons weight y (inserted before x ys), sum_by-cons weight y ys, later)
    by_test false later = sum_by-cons weight x (y ∷ ys)

in_order_sum : {X : Type 0} (before : X → X → Bool) (weight : X → ℕ) (xs : List X) → sum_by weight (in_order before xs) ≡ sum_by weight xs
in_order_sum before weight [] = refl
in_order_sum before weight (x ∷ xs) = omega (arith, inserted_sum before weight x (in_order before xs), sum_by-cons weight x xs, in_order_sum before weight xs)

-- how often a number is among numbers
abbrev pub times : (n : ℕ) → List ℕ → ℕ
times n ns = sum_by (λ m. one_if (nat_eq m n)) ns

numbers_low : (n from count : ℕ) → n < from → times n (numbers from count) ≡ 0
numbers_low n from zero lt = refl
numbers_low n from (suc count) lt = by_test (eqb_tells from n) (numbers_low n (suc from) count (omega (arith, lt)))
  where
    by_test : ((nat_eq from n ≡ true) × (from ≡ n)) ⊎ ((nat_eq from n ≡ false) × (from ≢ n)) → times n (numbers (suc from) count) ≡ 0 → times n (from ∷ numbers (suc from) count) ≡ 0
    by_test (inl is) later = absurd (omega (arith, is.1, lt))
    by_test (inr not) later = omega (arith, sum_by-cons (λ m. one_if (nat_eq m n)) from (numbers (suc from) count), ap one_if not.0, later)

numbers_within : (n from count : ℕ) → from ≤ n → times n (numbers from count) ≡ one_if (nat_lt n (from + count))
numbers_within n from zero le = sym (ap one_if (past le))
  where
    past : from ≤ n → nat_lt n (from + 0) ≡ false
    past l = grind (arith, nat_tests, l)
numbers_within n from (suc count) le = by_test (eqb_tells from n) (λ l. numbers_within n (suc from) count l)
  where
    reached : from ≡ n → nat_lt n (from + suc count) ≡ true
    reached is = grind (arith, nat_tests, is)

    by_test : ((nat_eq from n ≡ true) × (from ≡ n)) ⊎ ((nat_eq from n ≡ false) × (from ≢ n)) → (suc from ≤ n → times n (numbers (suc from) count) ≡ one_if (nat_lt n (suc from + count)))
        → times n (from ∷ numbers (suc from) count) ≡ one_if (nat_lt n (from + suc count))
    by_test (inl is) later =
        omega (
          arith,
          sum_by-cons (λ m. one_if (nat_eq m n)) from (numbers (suc from) count),
          ap one_if is.0,
          numbers_low n (suc from) count (omega (arith, is.1)),
          ap one_if (reached is.1),
        )
    by_test (inr not) later =
        let behind : suc from ≤ n = omega (arith, le, not.1) in
        let same : from + suc count ≡ suc from + count = omega arith in
        omega (
          arith,
          sum_by-cons (λ m. one_if (nat_eq m n)) from (numbers (suc from) count),
          ap one_if not.0,
          later behind,
          ap (λ l. one_if (nat_lt n l)) same,
        )

few_if : (b : Bool) → one_if b ≤ 1
few_if true = omega arith
few_if false = omega arith

numbers_once : (n count : ℕ) → times n (numbers 0 count) ≤ 1
numbers_once n count = omega (arith, numbers_within n 0 count (omega arith), few_if (nat_lt n (0 + count)))

-- how often it is that of a label, or of a decision
abbrev label_times : (n : ℕ) → List tree.Label → ℕ
label_times n ls = sum_by (λ l. one_if (nat_eq l.number n)) ls

abbrev decision_times : (n : ℕ) → List Decision → ℕ
decision_times n hs = sum_by (λ h. one_if (nat_eq h.label.number n)) hs

labels_once : (p : Program) → IsNumbered p → (n : ℕ) → label_times n (labels_of p.subprograms) ≤ 1
labels_once p numbered n =
    subst (λ m. m ≤ 1)
    (sym (ap (λ ns. times n ns) numbered.statements) ∙ (sum_map (λ m. one_if (nat_eq m n)) (λ l. l.number) (ordered_labels p)
    ∙ in_order_sum _ (λ l. one_if (nat_eq l.number n)) (labels_of p.subprograms)))
    (numbers_once n (length (ordered_labels p)))

decisions_once : (p : Program) → IsNumbered p → (n : ℕ) → decision_times n (decisions_of p.subprograms) ≤ 1
decisions_once p numbered n =
    subst (λ m. m ≤ 1)
    (sym (ap (λ ns. times n ns) numbered.decisions) ∙ (sum_map (λ m. one_if (nat_eq m n)) (λ h. h.label.number) (ordered_decisions p)
    ∙ in_order_sum _ (λ h. one_if (nat_eq h.label.number n)) (decisions_of p.subprograms)))
    (numbers_once n (length (ordered_decisions p)))

-- decisions that are numbered so, with their graphs, are own
none_others : (n : ℕ) (hs : List Decision) → decision_times n hs ≡ 0 → HaveOthers n hs
none_others n [] none = tt
none_others n (h ∷ hs) none = by_test (eqb_tells h.label.number n) (none_others n hs)
  where
    by_test : ((nat_eq h.label.number n ≡ true) × (h.label.number ≡ n)) ⊎ ((nat_eq h.label.number n ≡ false) × (h.label.number ≢ n)) → (decision_times n hs ≡ 0 → HaveOthers n hs)
        → HaveOthers n (h ∷ hs)
    by_test (inl is) later = absurd (omega (arith, none, sum_by-cons (λ (g : Decision). one_if (nat_eq g.label.number n)) h hs, ap one_if is.0))
    by_test (inr not) later = (λ e. not.1 (sym e), later (omega (arith, none, sum_by-cons (λ (g : Decision). one_if (nat_eq g.label.number n)) h hs)))

own_from : (graph : DecId → List Edges) (hs : List Decision) → ((n : ℕ) → decision_times n hs ≤ 1)
    → Everywhere (λ h. graph (record { 0 = h.label.number }) ≡ logic.graph (tree.shape_of h.test)) hs → Everywhere (λ h. tree.conditions_of h.test ≤ 32) hs → AreOwn graph hs
own_from graph [] once graphs few = tt
own_from graph (h ∷ hs) once graphs few =
    let cons : (n : ℕ) → decision_times n (h ∷ hs) ≡ one_if (nat_eq h.label.number n) + decision_times n hs = λ n. sum_by-cons (λ (g : Decision). one_if (nat_eq g.label.number n)) h hs in
    let here : one_if (nat_eq h.label.number h.label.number) ≡ 1 = ap one_if (itself h.label.number) in (
      graphs.0,
      (
        few.0,
        (
          none_others h.label.number hs (omega (arith, once h.label.number, cons h.label.number, here)),
          own_from graph hs (λ n. omega (arith, once n, cons n)) graphs.1 few.1,
        ),
      ),
    )
  where
    itself : (n : ℕ) → nat_eq n n ≡ true
    itself n = grind (arith, nat_tests)

pub own_law : (p : Program) → IsNumbered p → (graph : DecId → List Edges)
    → Everywhere (λ h. graph (record { 0 = h.label.number }) ≡ logic.graph (tree.shape_of h.test)) (decisions_of p.subprograms)
    → Everywhere (λ h. tree.conditions_of h.test ≤ 32) (decisions_of p.subprograms) → AreOwn graph (decisions_of p.subprograms)
own_law p numbered graph graphs few = own_from graph (decisions_of p.subprograms) (decisions_once p numbered) graphs few

-- some item is so where sums say so, and the other way round
record Picked {X : Type 0} (P : X → Type 0) (xs : List X) : Type 0 where
  item : X
  is : P item
  there : Somewhere (λ y. y ≡ item) xs

picked : {X : Type 0} (P : X → Type 0) (xs : List X) → Somewhere P xs → Picked P xs
picked P [] there = absurd there
picked P (x ∷ xs) (inl is) = record { item = x; is = is; there = inl refl }
picked P (x ∷ xs) (inr there) = let more = picked P xs there in record { item = more.item; is = more.is; there = inr more.there }

pub some_weighs : {X : Type 0} (weight : X → ℕ) (P : X → Type 0) → ((x : X) → 1 ≤ weight x → P x) → (xs : List X) → 1 ≤ sum_by weight xs → Somewhere P xs
some_weighs weight P so [] le = absurd (omega (arith, le))
some_weighs weight P so (x ∷ xs) le = by_weight (weight x) refl (λ l. some_weighs weight P so xs l)
  where
    by_weight : (n : ℕ) → weight x ≡ n → (1 ≤ sum_by weight xs → Somewhere P xs) → Somewhere P (x ∷ xs)
    by_weight zero is later = inr (later (omega (arith, le, is, sum_by-cons weight x xs)))
    by_weight (suc n) is later = inl (so x (omega (arith, is)))

pub weighs_some : {X : Type 0} (weight : X → ℕ) (P : X → Type 0) → ((x : X) → P x → 1 ≤ weight x) → (xs : List X) → Somewhere P xs → 1 ≤ sum_by weight xs
weighs_some weight P so [] there = absurd there
weighs_some weight P so (x ∷ xs) (inl is) = omega (arith, so x is, sum_by-cons weight x xs)
weighs_some weight P so (x ∷ xs) (inr there) = omega (arith, weighs_some weight P so xs there, sum_by-cons weight x xs)

pub equal_numbers : (m n : ℕ) → 1 ≤ one_if (nat_eq m n) → m ≡ n
equal_numbers m n le = by_test (eqb_tells m n)
  where
    by_test : ((nat_eq m n ≡ true) × (m ≡ n)) ⊎ ((nat_eq m n ≡ false) × (m ≢ n)) → m ≡ n
    by_test (inl is) = is.1
    by_test (inr not) = absurd (omega (arith, le, ap one_if not.0))

pub numbers_equal : (m n : ℕ) → m ≡ n → 1 ≤ one_if (nat_eq m n)
numbers_equal m n is = omega (arith, ap one_if (tested is))
  where
    tested : m ≡ n → nat_eq m n ≡ true
    tested e = grind (arith, nat_tests, e)

-- an instance is listed once for a generic
instances_low : (g i n : ℕ) (is : List Instance) → i < n → times i (instances_from g n is) ≡ 0
instances_low g i n [] lt = refl
instances_low g i n (x ∷ is) lt = by_test (nat_eq x.generic g) (instances_low g i (n + 1) is (omega (arith, lt)))
  where
    other : i < n → nat_eq n i ≡ false
    other l = grind (arith, nat_tests, l)

    by_test : (b : Bool) → times i (instances_from g (n + 1) is) ≡ 0 → times i (if b then n ∷ instances_from g (n + 1) is else instances_from g (n + 1) is) ≡ 0
    by_test true later = omega (arith, sum_by-cons (λ m. one_if (nat_eq m i)) n (instances_from g (n + 1) is), ap one_if (other lt), later)
    by_test false later = later

instances_few : (g i n : ℕ) (is : List Instance) → times i (instances_from g n is) ≤ 1
instances_few g i n [] = omega arith
instances_few g i n (x ∷ is) = by_test (nat_eq x.generic g) (eqb_tells n i) (instances_few g i (n + 1) is)
  where
    by_test : (b : Bool) → ((nat_eq n i ≡ true) × (n ≡ i)) ⊎ ((nat_eq n i ≡ false) × (n ≢ i)) → times i (instances_from g (n + 1) is) ≤ 1
        → times i (if b then n ∷ instances_from g (n + 1) is else instances_from g (n + 1) is) ≤ 1
    by_test true (inl same) later =
        omega (arith, sum_by-cons (λ m. one_if (nat_eq m i)) n (instances_from g (n + 1) is), ap one_if same.0, instances_low g i (n + 1) is (omega (arith, same.1)))
    by_test true (inr not) later = omega (arith, sum_by-cons (λ m. one_if (nat_eq m i)) n (instances_from g (n + 1) is), ap one_if not.0, later)
    by_test false test later = later

pub instances_once : (g : Option ℕ) (i : ℕ) (is : List Instance) → times i (instances_of g is) ≤ 1
instances_once None i is = omega (arith, sum_by-cons (λ m. one_if (nat_eq m i)) 0 [], few_if (nat_eq 0 i))
instances_once (Some g) i is = instances_few g i 1 is

-- what texts weigh in one instance, by a weight of texts
module _ (texts : List Subprogram) (i : ℕ) (weight : tree.Block → ℕ) where
  abbrev share : Body → ℕ
  share b = if nat_eq b.instance i then weight (text_at texts b.subprogram) else 0

  abbrev bodies_at : (m : ℕ) → List ℕ → List Body
  bodies_at m js = map (λ j. record { instance = j; subprogram = m }) js

  shares_none : (m : ℕ) (js : List ℕ) → times i js ≡ 0 → sum_by share (bodies_at m js) ≡ 0
  shares_none m [] none = refl
  shares_none m (j ∷ js) none = by_test (nat_eq j i) refl (shares_none m js)
    where
      by_test : (b : Bool) → nat_eq j i ≡ b → (times i js ≡ 0 → sum_by share (bodies_at m js) ≡ 0) → sum_by share (bodies_at m (j ∷ js)) ≡ 0
      by_test true is later = absurd (omega (arith, none, sum_by-cons (λ n. one_if (nat_eq n i)) j js, ap one_if is))
      by_test false is later =
          omega (
            arith,
            sum_by-cons share (record { instance = j; subprogram = m }) (bodies_at m js),
            ap (λ b. if b then weight (text_at texts m) else 0) is,
            later (omega (arith, none, sum_by-cons (λ n. one_if (nat_eq n i)) j js)),
          )

  shares_few : (m : ℕ) (js : List ℕ) → times i js ≤ 1 → sum_by share (bodies_at m js) ≤ weight (text_at texts m)
  shares_few m [] few = omega arith
  shares_few m (j ∷ js) few = by_test (nat_eq j i) refl (shares_few m js)
    where
      by_test : (b : Bool) → nat_eq j i ≡ b → (times i js ≤ 1 → sum_by share (bodies_at m js) ≤ weight (text_at texts m))
          → sum_by share (bodies_at m (j ∷ js)) ≤ weight (text_at texts m)
      by_test true is later =
          omega (
            arith,
            sum_by-cons share (record { instance = j; subprogram = m }) (bodies_at m js),
            ap (λ b. if b then weight (text_at texts m) else 0) is,
            shares_none m js (omega (arith, few, sum_by-cons (λ n. one_if (nat_eq n i)) j js, ap one_if is)),
          )
      by_test false is later =
          omega (
            arith,
            sum_by-cons share (record { instance = j; subprogram = m }) (bodies_at m js),
            ap (λ b. if b then weight (text_at texts m) else 0) is,
            later (omega (arith, few, sum_by-cons (λ n. one_if (nat_eq n i)) j js)),
          )

  -- all of them weigh no more than each text once
  shares_within : (m : ℕ) (ss : List Subprogram) (is : List Instance) → ((n : ℕ) → text_at texts (m + n) ≡ text_at ss n)
      → sum_by share (bodies_from m ss is) ≤ sum_by (λ s. weight s.body) ss
  shares_within m [] is same = omega arith
  shares_within m (s ∷ ss) is same =
      let here : text_at texts m ≡ s.body = ap (text_at texts) (no_more m) ∙ same 0 in
      omega (
        arith,
        sum_by-append share (bodies_at m (instances_of s.generic is)) (bodies_from (m + 1) ss is),
        sum_by-cons (λ (t : Subprogram). weight t.body) s ss,
        shares_few m (instances_of s.generic is) (instances_once s.generic i is),
        ap weight here,
        shares_within (m + 1) ss is (λ n. ap (text_at texts) (later m n) ∙ same (suc n)),
      )
    where
      no_more : (m : ℕ) → m ≡ m + 0
      no_more m = omega arith

      later : (m n : ℕ) → m + 1 + n ≡ m + suc n
      later m n = omega arith

  -- a body in the instance weighs what its text does
  share_is : (b : Body) → b.instance ≡ i → share b ≡ weight (text_at texts b.subprogram)
  share_is b is = ap (λ c. if c then weight (text_at texts b.subprogram) else 0) (tested is)
    where
      tested : b.instance ≡ i → nat_eq b.instance i ≡ true
      tested e = grind (arith, nat_tests, e)

  share_some : (b : Body) → 1 ≤ share b → (b.instance ≡ i) × (1 ≤ weight (text_at texts b.subprogram))
  share_some b le = by_test (eqb_tells b.instance i)
    where
      by_test : ((nat_eq b.instance i ≡ true) × (b.instance ≡ i)) ⊎ ((nat_eq b.instance i ≡ false) × (b.instance ≢ i))
          → (b.instance ≡ i) × (1 ≤ weight (text_at texts b.subprogram))
      by_test (inl is) = (is.1, omega (arith, le, ap (λ c. if c then weight (text_at texts b.subprogram) else 0) is.0))
      by_test (inr not) = absurd (omega (arith, le, ap (λ c. if c then weight (text_at texts b.subprogram) else 0) not.0))

-- the shares of all bodies of a program
module _ (p : Program) (i : ℕ) (weight : tree.Block → ℕ) where
  abbrev shares : ℕ
  shares = sum_by (share p.subprograms i weight) (bodies_of p)

  shares_small : shares ≤ sum_by (λ s. weight s.body) p.subprograms
  shares_small = shares_within p.subprograms i weight 0 p.subprograms p.instances (λ n. ap (text_at p.subprograms) (let e : 0 + n ≡ n = omega arith in e))

  shares_once : sum_by (λ s. weight s.body) p.subprograms ≤ 1 → (m : ℕ) → IsBody p (record { instance = i; subprogram = m }) → 1 ≤ weight (text_at p.subprograms m) → shares ≡ 1
  shares_once few m is le =
      let at : Body = record { instance = i; subprogram = m } in
      omega (
        arith,
        few,
        shares_small,
        weighs_some (share p.subprograms i weight) (λ c. c ≡ at) (λ x e. subst (λ y. 1 ≤ share p.subprograms i weight y) (sym e) (omega (arith, le, share_is p.subprograms i weight at refl)))
            (bodies_of p) ((bodies_law p at).1 is),
      )

  -- a body that weighs something
  record Weighs : Type 0 where
    subprogram : ℕ
    is : IsBody p (record { instance = i; subprogram = subprogram })
    some : 1 ≤ weight (text_at p.subprograms subprogram)

  share_of_one : 1 ≤ shares → Weighs
  share_of_one le =
      let one = picked (λ b. (b.instance ≡ i) × (1 ≤ weight (text_at p.subprograms b.subprogram))) (bodies_of p)
      (some_weighs (share p.subprograms i weight) (λ b. (b.instance ≡ i) × (1 ≤ weight (text_at p.subprograms b.subprogram))) (share_some p.subprograms i weight) (bodies_of p) le) in
      record {
        subprogram = one.item.subprogram;
        is = subst (λ j. IsBody p (record { instance = j; subprogram = one.item.subprogram })) one.is.0 ((bodies_law p one.item).0 one.there);
        some = one.is.1;
      }

-- the rows of a text in an instance
rows_weigh : (i j n : ℕ) (ls : List tree.Label) → row_times i n (map (row_in j) ls) ≡ (if nat_eq j i then label_times n ls else 0)
rows_weigh i j n ls = sum_map (λ r. one_if (is_row i n r)) (row_in j) ls ∙ by_test (nat_eq j i) ls
  where
    by_test : (b : Bool) (ls : List tree.Label) → sum_by (λ l. one_if (b && nat_eq l.number n)) ls ≡ (if b then label_times n ls else 0)
    by_test true ls = refl
    by_test false [] = refl
    by_test false (l ∷ ls) = omega (arith, sum_by-cons (λ (k : tree.Label). one_if (false && nat_eq k.number n)) l ls, by_test false ls)

rows_shared : (p : Program) (i n : ℕ) (bs : List Body) → row_times i n (rows_of p bs) ≡ sum_by (share p.subprograms i (λ t. label_times n (block_labels t))) bs
rows_shared p i n [] = refl
rows_shared p i n (b ∷ bs) =
    omega (
      arith,
      sum_by-append (λ r. one_if (is_row i n r)) (map (row_in b.instance) (block_labels (text_at p.subprograms b.subprogram))) (rows_of p bs),
      sum_by-cons (share p.subprograms i (λ t. label_times n (block_labels t))) b bs,
      rows_weigh i b.instance n (block_labels (text_at p.subprograms b.subprogram)),
      rows_shared p i n bs,
    )

texts_labelled : (n : ℕ) (ss : List Subprogram) → sum_by (λ s. label_times n (block_labels s.body)) ss ≡ label_times n (labels_of ss)
texts_labelled n [] = refl
texts_labelled n (s ∷ ss) =
    omega (
      arith,
      sum_by-cons (λ (t : Subprogram). label_times n (block_labels t.body)) s ss,
      sum_by-append (λ (l : tree.Label). one_if (nat_eq l.number n)) (block_labels s.body) (labels_of ss),
      texts_labelled n ss,
    )

-- how often a decision that has a condition at a place is among decisions
abbrev held : (d c : ℕ) → Decision → ℕ
held d c h = if nat_eq h.label.number d then one_if (nat_lt c (tree.conditions_of h.test)) else 0

abbrev held_times : (d c : ℕ) → List Decision → ℕ
held_times d c hs = sum_by (held d c) hs

held_few : (d c : ℕ) (hs : List Decision) → held_times d c hs ≤ decision_times d hs
held_few d c [] = omega arith
held_few d c (h ∷ hs) =
    omega (arith, sum_by-cons (held d c) h hs, sum_by-cons (λ (g : Decision). one_if (nat_eq g.label.number d)) h hs, held_few d c hs, by_test (nat_eq h.label.number d))
  where
    by_test : (b : Bool) → (if b then one_if (nat_lt c (tree.conditions_of h.test)) else 0) ≤ one_if b
    by_test true = few_if (nat_lt c (tree.conditions_of h.test))
    by_test false = omega arith

-- the conditions of a decision
condition_weighs : (i j d c k count : ℕ)
    → condition_times i d c (map (condition_in j k) (numbers 0 count)) ≡ (if nat_eq j i then (if nat_eq k d then one_if (nat_lt c count) else 0) else 0)
condition_weighs i j d c k count =
    sum_map (λ x. one_if (is_condition i d c x)) (condition_in j k) (numbers 0 count) ∙ by_tests (nat_eq j i) (nat_eq k d)
  where
    none : (ns : List ℕ) → sum_by (λ m. one_if false) ns ≡ 0
    none [] = refl
    none (m ∷ ns) = omega (arith, sum_by-cons (λ (x : ℕ). one_if false) m ns, none ns)

    from_nothing : 0 + count ≡ count
    from_nothing = omega arith

    by_tests : (b e : Bool) → sum_by (λ m. one_if (b && (e && nat_eq m c))) (numbers 0 count) ≡ (if b then (if e then one_if (nat_lt c count) else 0) else 0)
    by_tests true true = numbers_within c 0 count (omega arith) ∙ ap (λ l. one_if (nat_lt c l)) from_nothing
    by_tests true false = none (numbers 0 count)
    by_tests false e = none (numbers 0 count)

conditions_weigh : (i j d c : ℕ) (hs : List Decision) → condition_times i d c (conditions_in j hs) ≡ (if nat_eq j i then held_times d c hs else 0)
conditions_weigh i j d c [] = by_test (nat_eq j i)
  where
    by_test : (b : Bool) → condition_times i d c [] ≡ (if b then held_times d c [] else 0)
    by_test true = refl
    by_test false = refl
conditions_weigh i j d c (h ∷ hs) =
    sum_by-append (λ x. one_if (is_condition i d c x)) (map (condition_in j h.label.number) (numbers 0 (tree.conditions_of h.test))) (conditions_in j hs)
    ∙ by_test (nat_eq j i) (condition_weighs i j d c h.label.number (tree.conditions_of h.test)) (conditions_weigh i j d c hs)
  where
    by_test : (b : Bool) {m n : ℕ} → m ≡ (if b then held d c h else 0) → n ≡ (if b then held_times d c hs else 0) → m + n ≡ (if b then held_times d c (h ∷ hs) else 0)
    by_test true here later = omega (arith, here, later, sum_by-cons (held d c) h hs)
    by_test false here later = omega (arith, here, later)

conditions_shared : (p : Program) (i d c : ℕ) (bs : List Body) → condition_times i d c (conditions_of p bs) ≡ sum_by (share p.subprograms i (λ t. held_times d c (in_block t))) bs
conditions_shared p i d c [] = refl
conditions_shared p i d c (b ∷ bs) =
    omega (
      arith,
      sum_by-append (λ x. one_if (is_condition i d c x)) (conditions_in b.instance (in_block (text_at p.subprograms b.subprogram))) (conditions_of p bs),
      sum_by-cons (share p.subprograms i (λ t. held_times d c (in_block t))) b bs,
      conditions_weigh i b.instance d c (in_block (text_at p.subprograms b.subprogram)),
      conditions_shared p i d c bs,
    )

texts_decided : (d c : ℕ) (ss : List Subprogram) → sum_by (λ s. held_times d c (in_block s.body)) ss ≡ held_times d c (decisions_of ss)
texts_decided d c [] = refl
texts_decided d c (s ∷ ss) =
    omega (
      arith,
      sum_by-cons (λ (t : Subprogram). held_times d c (in_block t.body)) s ss,
      sum_by-append (held d c) (in_block s.body) (decisions_of ss),
      texts_decided d c ss,
    )

held_is : (d c : ℕ) (h : Decision) → 1 ≤ held d c h → (h.label.number ≡ d) × (c < tree.conditions_of h.test)
held_is d c h le = by_test (eqb_tells h.label.number d)
  where
    before : 1 ≤ one_if (nat_lt c (tree.conditions_of h.test)) → c < tree.conditions_of h.test
    before l = by (nat_lt c (tree.conditions_of h.test)) refl l
      where
        by : (b : Bool) → nat_lt c (tree.conditions_of h.test) ≡ b → 1 ≤ one_if b → c < tree.conditions_of h.test
        by true is l = grind (arith, nat_tests, is)
        by false is l = absurd (omega (arith, l))

    by_test : ((nat_eq h.label.number d ≡ true) × (h.label.number ≡ d)) ⊎ ((nat_eq h.label.number d ≡ false) × (h.label.number ≢ d)) → (h.label.number ≡ d) × (c < tree.conditions_of h.test)
    by_test (inl is) = (is.1, before (omega (arith, le, ap (λ b. if b then one_if (nat_lt c (tree.conditions_of h.test)) else 0) is.0)))
    by_test (inr not) = absurd (omega (arith, le, ap (λ b. if b then one_if (nat_lt c (tree.conditions_of h.test)) else 0) not.0))

is_held : (d c : ℕ) (h : Decision) → (h.label.number ≡ d) × (c < tree.conditions_of h.test) → 1 ≤ held d c h
is_held d c h is =
    omega (arith, ap (λ b. if b then one_if (nat_lt c (tree.conditions_of h.test)) else 0) (equal is.0), ap one_if (before is.1))
  where
    equal : h.label.number ≡ d → nat_eq h.label.number d ≡ true
    equal e = grind (arith, nat_tests, e)

    before : c < tree.conditions_of h.test → nat_lt c (tree.conditions_of h.test) ≡ true
    before l = grind (arith, nat_tests, l)

-- rows and conditions that are a program's are marked once
pub once_law : (p : Program) → IsNumbered p → (rows : List Row) (conditions : List Condition) → rows ≡ rows_of p (bodies_of p)
    → ((weight : Condition → ℕ) → sum_by weight conditions ≡ sum_by weight (conditions_of p (bodies_of p))) → MarksOnce p rows conditions
once_law p numbered rows conditions are weigh = record {
  row_once = λ i n is.
      row_is i n ∙ shares_once p i (λ t. label_times n (block_labels t)) (labels_few n) is.subprogram is.stands
      (weighs_some (λ l. one_if (nat_eq l.number n)) (λ l. l.number ≡ n) (λ l e. numbers_equal l.number n e) (block_labels (text_at p.subprograms is.subprogram)) is.among);
  row_own = λ i n le.
      let one = share_of_one p i (λ t. label_times n (block_labels t)) (subst (λ m. 1 ≤ m) (row_is i n) le) in
      record {
        subprogram = one.subprogram;
        stands = one.is;
        among = some_weighs (λ l. one_if (nat_eq l.number n)) (λ l. l.number ≡ n) (λ l e. equal_numbers l.number n e) (block_labels (text_at p.subprograms one.subprogram)) one.some;
      };
  condition_once = λ i d c is.
      condition_is i d c ∙ shares_once p i (λ t. held_times d c (in_block t)) (decisions_few d c) is.subprogram is.stands
      (weighs_some (held d c) (λ h. (h.label.number ≡ d) × (c < tree.conditions_of h.test)) (is_held d c) (in_block (text_at p.subprograms is.subprogram)) is.among);
  condition_own = λ i d c le.
      let one = share_of_one p i (λ t. held_times d c (in_block t)) (subst (λ m. 1 ≤ m) (condition_is i d c) le) in
      record {
        subprogram = one.subprogram;
        stands = one.is;
        among = some_weighs (held d c) (λ h. (h.label.number ≡ d) × (c < tree.conditions_of h.test)) (held_is d c) (in_block (text_at p.subprograms one.subprogram)) one.some;
      };
}
  where
    row_is : (i n : ℕ) → row_times i n rows ≡ shares p i (λ t. label_times n (block_labels t))
    row_is i n = ap (row_times i n) are ∙ rows_shared p i n (bodies_of p)

    condition_is : (i d c : ℕ) → condition_times i d c conditions ≡ shares p i (λ t. held_times d c (in_block t))
    condition_is i d c = weigh (λ x. one_if (is_condition i d c x)) ∙ conditions_shared p i d c (bodies_of p)

    labels_few : (n : ℕ) → sum_by (λ (s : Subprogram). label_times n (block_labels s.body)) p.subprograms ≤ 1
    labels_few n = omega (arith, texts_labelled n p.subprograms, labels_once p numbered n)

    decisions_few : (d c : ℕ) → sum_by (λ (s : Subprogram). held_times d c (in_block s.body)) p.subprograms ≤ 1
    decisions_few d c = omega (arith, texts_decided d c p.subprograms, held_few d c (decisions_of p.subprograms), decisions_once p numbered d)
