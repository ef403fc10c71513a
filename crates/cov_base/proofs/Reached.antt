-- Each node but the root is entered, and on a tree by one path.
use Rattle.std.proofs.Common.{◌≡◌, ℕ, ◌+◌, ◌<◌, ◌≤◌, suc, Bool, true, false, cond, List, [], ◌∷◌, ◌++◌, length, eqb, refl, sym, ap, subst, ◌∙◌, eq-eqb, ne_eqb, arith, length-append, ⊎_elim}
use Rattle.std.proofs.lemmas.Bool.{eqb-false, cases_order}
use Rattle.cov_base.specs.Expr.{Expr, condition, negation, operator, size}
use Rattle.cov_base.specs.Graph.{Next, node, leaf, Edges, target, nodes, graph, next_from, next_in, IsTree}
use Rattle.cov_base.specs.Path.{Step, LeadsTo}
use Rattle.cov_base.proofs.Edges.{length-nodes, edges_rise}

-- some edge of nodes that are numbered from n on leads to a place
pub record Enters (n : ℕ) (es : List Edges) (x : Next) : Type 0 where
  pub at_node : ℕ
  pub value : Bool
  pub from : n ≤ at_node
  pub below : at_node < n + length es
  pub leads : next_from n es at_node value ≡ x

pub next_left : (n : ℕ) (xs ys : List Edges) (k : ℕ) (b : Bool) → n ≤ k → k < n + length xs → next_from n (xs ++ ys) k b ≡ next_from n xs k b
next_left n [] ys k b from below = absurd (omega arith)
next_left n (edges ∷ xs) ys k b from below = by_place (next_left (suc n) xs ys k b) (eqb k n) refl
  where
    by_place : (suc n ≤ k → k < suc n + length xs → next_from (suc n) (xs ++ ys) k b ≡ next_from (suc n) xs k b) → (x : Bool) → eqb k n ≡ x
        → cond x (target edges b) (next_from (suc n) (xs ++ ys) k b) ≡ cond x (target edges b) (next_from (suc n) xs k b)
    by_place later true is = refl
    by_place later false is = let other = eqb-false k n is in later (omega arith) (omega arith)

pub next_right : (n m : ℕ) (xs ys : List Edges) (k : ℕ) (b : Bool) → m ≡ n + length xs → m ≤ k → next_from n (xs ++ ys) k b ≡ next_from m ys k b
next_right n m [] ys k b is from = let here : m ≡ n = omega arith in rw here refl
next_right n m (edges ∷ xs) ys k b is from =
    let other : k ≡ n → ⊥ = λ e. absurd (omega arith) in
    rw (ne_eqb k n other) (next_right (suc n) m xs ys k b (omega arith) from)

enters_left : (n : ℕ) (xs ys : List Edges) (x : Next) → Enters n xs x → Enters n (xs ++ ys) x
enters_left n xs ys x enters = record {
  at_node = enters.at_node;
  value = enters.value;
  from = enters.from;
  below = omega (arith, enters.below, length-append xs ys);
  leads = next_left n xs ys enters.at_node enters.value enters.from enters.below ∙ enters.leads;
}

enters_right : (n m : ℕ) (xs ys : List Edges) (x : Next) → m ≡ n + length xs → Enters m ys x → Enters n (xs ++ ys) x
enters_right n m xs ys x is enters = record {
  at_node = enters.at_node;
  value = enters.value;
  from = omega (arith, enters.from);
  below = omega (arith, enters.below, length-append xs ys);
  leads = next_right n m xs ys enters.at_node enters.value is enters.from ∙ enters.leads;
}

-- both exits of an expression are entered
pub exits_entered : (e : Expr) (n : ℕ) (t f : Next) → Enters n (nodes e n t f) t × Enters n (nodes e n t f) f
exits_entered condition n t f = (
  record { at_node = n; value = true; from = omega arith; below = omega arith; leads = rw (eq-eqb n n refl) refl },
  record { at_node = n; value = false; from = omega arith; below = omega arith; leads = rw (eq-eqb n n refl) refl },
)
exits_entered (negation e) n t f = let exits = exits_entered e n f t in (exits.1, exits.0)
exits_entered (operator true left right) n t f =
    let middle : ℕ = n + size left in
    let lefts : List Edges = nodes left n (node middle) f in
    let rights : List Edges = nodes right middle t f in
    let exits = exits_entered right middle t f in
    let is : middle ≡ n + length lefts = omega (arith, length-nodes left n (node middle) f) in
    (enters_right n middle lefts rights t is exits.0, enters_right n middle lefts rights f is exits.1)
exits_entered (operator false left right) n t f =
    let middle : ℕ = n + size left in
    let lefts : List Edges = nodes left n t (node middle) in
    let rights : List Edges = nodes right middle t f in
    let exits = exits_entered right middle t f in
    let is : middle ≡ n + length lefts = omega (arith, length-nodes left n t (node middle)) in
    (enters_right n middle lefts rights t is exits.0, enters_right n middle lefts rights f is exits.1)

-- so is each node of it but the first
pub nodes_entered : (e : Expr) (n : ℕ) (t f : Next) (k : ℕ) → n < k → k < n + size e → Enters n (nodes e n t f) (node k)
nodes_entered condition n t f k after below = absurd (omega arith)
nodes_entered (negation e) n t f k after below = nodes_entered e n f t k after below
nodes_entered (operator true left right) n t f k after below =
    let middle : ℕ = n + size left in
    let lefts : List Edges = nodes left n (node middle) f in
    let rights : List Edges = nodes right middle t f in
    let is : middle ≡ n + length lefts = omega (arith, length-nodes left n (node middle) f) in
    let at_middle : k ≡ middle → Enters n (lefts ++ rights) (node k) = λ here.
    subst (λ (i : ℕ). Enters n (lefts ++ rights) (node i)) (sym here)
    (enters_left n lefts rights (node middle) (exits_entered left n (node middle) f).0) in
    let before : k < middle → Enters n (lefts ++ rights) (node k) = λ less.
    enters_left n lefts rights (node k) (nodes_entered left n (node middle) f k after less) in
    let past : middle < k → Enters n (lefts ++ rights) (node k) = λ more.
    enters_right n middle lefts rights (node k) is (nodes_entered right middle t f k more (omega arith)) in
    ⊎_elim at_middle (⊎_elim before past) (cases_order k middle)
nodes_entered (operator false left right) n t f k after below =
    let middle : ℕ = n + size left in
    let lefts : List Edges = nodes left n t (node middle) in
    let rights : List Edges = nodes right middle t f in
    let is : middle ≡ n + length lefts = omega (arith, length-nodes left n t (node middle)) in
    let at_middle : k ≡ middle → Enters n (lefts ++ rights) (node k) = λ here.
    subst (λ (i : ℕ). Enters n (lefts ++ rights) (node i)) (sym here)
    (enters_left n lefts rights (node middle) (exits_entered left n t (node middle)).1) in
    let before : k < middle → Enters n (lefts ++ rights) (node k) = λ less.
    enters_left n lefts rights (node k) (nodes_entered left n t (node middle) k after less) in
    let past : middle < k → Enters n (lefts ++ rights) (node k) = λ more.
    enters_right n middle lefts rights (node k) is (nodes_entered right middle t f k more (omega arith)) in
    ⊎_elim at_middle (⊎_elim before past) (cases_order k middle)

-- each node of a decision's graph but the root is entered
pub node_entered : (e : Expr) (k : ℕ) → 0 < k → k < size e → Enters 0 (graph e) (node k)
node_entered e k some below = nodes_entered e 0 (leaf true) (leaf false) k some (omega arith)

-- the root is not entered
pub root_not_entered : (e : Expr) (k : ℕ) (b : Bool) → next_in (graph e) k b ≡ node 0 → ⊥
root_not_entered e k b leads = absurd (omega (arith, (edges_rise e k b 0 leads).0))

-- two paths of a tree to one node are one path
pub one_path : (e : Expr) → IsTree (graph e) → (p q : List Step) (k : ℕ) → LeadsTo (graph e) p (node k) → LeadsTo (graph e) q (node k) → p ≡ q
one_path e tree [] [] k first second = refl
one_path e tree [] (step ∷ older) k first second =
    let at_root : node k ≡ node 0 = first in
    absurd (root_not_entered e step.at_node step.value (second.0 ∙ at_root))
one_path e tree (step ∷ older) [] k first second =
    let at_root : node k ≡ node 0 = second in
    absurd (root_not_entered e step.at_node step.value (first.0 ∙ at_root))
one_path e tree (step ∷ older) (step' ∷ older') k first second =
    let one = tree step.at_node step'.at_node k step.value step'.value first.0 second.0 in
    let before : older ≡ older' = one_path e tree older older' step.at_node first.1 (subst (λ (i : ℕ). LeadsTo (graph e) older' (node i)) (sym one.0) second.1) in
    let same_step : step ≡ step' = λ i. record { at_node = one.0 i; value = one.1 i } in
    ap (λ (s : Step). s ∷ older) same_step ∙ ap (λ (rest : List Step). step' ∷ rest) before
