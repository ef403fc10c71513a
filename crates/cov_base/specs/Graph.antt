-- The condition graph of an expression: a node for each condition, and two leaves, the outcomes.
use Rattle.std.specs.Prelude.{◌≡◌, ℕ, suc, ◌+◌, nat_eq, Bool, true, false, List, [], ◌∷◌, ◌++◌, if◌then◌else◌}
use Rattle.cov_base.specs.Expr.{Expr, condition, negation, operator, size}

-- where an edge leads: to the node of a condition, or to an outcome
pub data Next : Type 0 where
  node : ℕ → Next
  leaf : Bool → Next

-- where the two edges of a node lead
pub record Edges : Type 0 where
  pub on_true : Next
  pub on_false : Next

-- where the edge of a value leads
abbrev pub target : Edges → Bool → Next
target edges true = edges.on_true
target edges false = edges.on_false

-- the nodes of an expression whose first condition has the number n, in the order of their numbers: a True outcome leads to t, a False
-- outcome to f
abbrev pub nodes : Expr → ℕ → Next → Next → List Edges
nodes condition n t f = record { on_true = t; on_false = f } ∷ []
nodes (negation e) n t f = nodes e n f t
nodes (operator true left right) n t f = nodes left n (node (n + size left)) f ++ nodes right (n + size left) t f
nodes (operator false left right) n t f = nodes left n t (node (n + size left)) ++ nodes right (n + size left) t f

-- the graph of a decision: its root is condition 0, and its outcomes are the leaves
abbrev pub graph : Expr → List Edges
graph e = nodes e 0 (leaf true) (leaf false)

-- where the edge of node k for a value leads, in nodes that are numbered from n on; past the last node, to a leaf
abbrev pub next_from : ℕ → List Edges → ℕ → Bool → Next
next_from n [] k value = leaf value
next_from n (edges ∷ rest) k value = if nat_eq k n then target edges value else next_from (suc n) rest k value

-- where the edge of node k for a value leads
abbrev pub next_in : List Edges → ℕ → Bool → Next
next_in graph k value = next_from 0 graph k value

-- no node has two incoming edges: two edges that lead to one node are one edge
abbrev pub IsTree : List Edges → Type 0
IsTree graph =
    (j k to : ℕ) (a b : Bool) → next_in graph j a ≡ node to → next_in graph k b ≡ node to → (j ≡ k) × (a ≡ b)
