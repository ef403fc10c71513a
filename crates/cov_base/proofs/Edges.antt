-- The edges of a graph lead ahead.
use Rattle.std.proofs.Common.{◌≡◌, ℕ, ◌+◌, ◌<◌, ◌≤◌, suc, Bool, true, false, cond, List, [], ◌∷◌, ◌++◌, length, eqb, refl, sym, subst, eqb-true, arith, length-append}
use Rattle.cov_base.specs.Expr.{Expr, condition, negation, operator, size}
use Rattle.cov_base.specs.Graph.{Next, node, leaf, Edges, target, nodes, graph, next_from, next_in}

-- there is a node for each condition
pub length-nodes : (e : Expr) (n : ℕ) (t f : Next) → length (nodes e n t f) ≡ size e
length-nodes condition n t f = refl
length-nodes (negation e) n t f = length-nodes e n f t
length-nodes (operator true left right) n t f =
    omega (
      arith,
      length-append (nodes left n (node (n + size left)) f) (nodes right (n + size left) t f),
      length-nodes left n (node (n + size left)) f,
      length-nodes right (n + size left) t f,
    )
length-nodes (operator false left right) n t f =
    omega (
      arith,
      length-append (nodes left n t (node (n + size left))) (nodes right (n + size left) t f),
      length-nodes left n t (node (n + size left)),
      length-nodes right (n + size left) t f,
    )

-- there is a condition
pub size_some : (e : Expr) → 0 < size e
size_some condition = omega arith
size_some (negation e) = size_some e
size_some (operator neutral left right) = omega (arith, size_some left)

-- this is so of each edge of nodes that are numbered from n on
abbrev pub EachEdge : (ℕ → Next → Type 0) → ℕ → List Edges → Type 0
EachEdge P n [] = Unit {0}
EachEdge P n (edges ∷ rest) = P n edges.on_true × P n edges.on_false × EachEdge P (suc n) rest

each_append : (P : ℕ → Next → Type 0) (n m : ℕ) (xs ys : List Edges) → m ≡ n + length xs → EachEdge P n xs → EachEdge P m ys → EachEdge P n (xs ++ ys)
each_append P n m [] ys is first second = let here : m ≡ n = omega arith in subst (λ (k : ℕ). EachEdge P k ys) here second
each_append P n m (edges ∷ xs) ys is first second =
    (first.0, first.1, each_append P (suc n) m xs ys (omega arith) first.2 second)

pub each_next : (P : ℕ → Next → Type 0) (n : ℕ) (es : List Edges) (k : ℕ) (b : Bool) (j : ℕ) → EachEdge P n es → next_from n es k b ≡ node j → P k (node j)
each_next P n [] k b j each leads = cc
each_next P n (edges ∷ rest) k b j each leads = by_place (each_next P (suc n) rest k b j each.2) (eqb k n) refl leads
  where
    here : (b : Bool) → target edges b ≡ node j → P n (node j)
    here true leads = subst (P n) leads each.0
    here false leads = subst (P n) leads each.1

    by_place : (next_from (suc n) rest k b ≡ node j → P k (node j)) → (x : Bool) → eqb k n ≡ x → cond x (target edges b) (next_from (suc n) rest k b) ≡ node j → P k (node j)
    by_place later true is leads = subst (λ (i : ℕ). P i (node j)) (sym (eqb-true k n is)) (here b leads)
    by_place later false is leads = later leads

-- what is so of an expression's exits at each of its nodes, and of edges from its nodes ahead, is so of its edges
pub each_nodes : (P : ℕ → Next → Type 0) (e : Expr) (n : ℕ) (t f : Next)
    → ((k : ℕ) → n ≤ k → k < n + size e → P k t) → ((k : ℕ) → n ≤ k → k < n + size e → P k f)
    → ((k j : ℕ) → n ≤ k → k < j → j < n + size e → P k (node j)) → EachEdge P n (nodes e n t f)
each_nodes P condition n t f to_t to_f ahead = (to_t n (omega arith) (omega arith), to_f n (omega arith) (omega arith), tt)
each_nodes P (negation e) n t f to_t to_f ahead = each_nodes P e n f t to_f to_t ahead
each_nodes P (operator true left right) n t f to_t to_f ahead =
    let middle : ℕ = n + size left in
    let some = size_some right in
    each_append P n middle (nodes left n (node middle) f) (nodes right middle t f) (omega (arith, length-nodes left n (node middle) f))
    (each_nodes P left n (node middle) f (λ k from below. ahead k middle from below (omega arith)) (λ k from below. to_f k from (omega arith))
    (λ k j from before below. ahead k j from before (omega arith)))
    (each_nodes P right middle t f (λ k from below. to_t k (omega arith) (omega arith)) (λ k from below. to_f k (omega arith) (omega arith))
    (λ k j from before below. ahead k j (omega arith) before (omega arith)))
each_nodes P (operator false left right) n t f to_t to_f ahead =
    let middle : ℕ = n + size left in
    let some = size_some right in
    each_append P n middle (nodes left n t (node middle)) (nodes right middle t f) (omega (arith, length-nodes left n t (node middle)))
    (each_nodes P left n t (node middle) (λ k from below. to_t k from (omega arith)) (λ k from below. ahead k middle from below (omega arith))
    (λ k j from before below. ahead k j from before (omega arith)))
    (each_nodes P right middle t f (λ k from below. to_t k (omega arith) (omega arith)) (λ k from below. to_f k (omega arith) (omega arith))
    (λ k j from before below. ahead k j (omega arith) before (omega arith)))

-- an edge from node k leads to a leaf, or to a node after k and below m
abbrev pub Rises : ℕ → ℕ → Next → Type 0
Rises m k (node j) = (k < j) × (j < m)
Rises m k (leaf ends) = Unit {0}

-- edges lead to later nodes of the graph
pub edges_rise : (e : Expr) (k : ℕ) (b : Bool) (j : ℕ) → next_in (graph e) k b ≡ node j → (k < j) × (j < size e)
edges_rise e k b j leads =
    each_next (Rises (size e)) 0 (graph e) k b j
    (each_nodes (Rises (size e)) e 0 (leaf true) (leaf false) (λ k from below. tt) (λ k from below. tt)
    (λ k j from before below. (before, omega arith)))
    leads

pub length_graph : (e : Expr) → length (graph e) ≡ size e
length_graph e = length-nodes e 0 (leaf true) (leaf false)
