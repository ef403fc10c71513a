-- Paths of a graph from its root, as lists of steps and as vectors.
use Rattle.std.specs.Prelude.{◌≡◌, ℕ, suc, ◌^◌, nat_eq, bit_or, Bool, List, [], ◌∷◌, if◌then◌else◌}
use Rattle.cov_base.specs.declared.event.Vector.{Vector}
use Rattle.cov_base.specs.Graph.{Next, node, leaf, Edges, target, next_in}

-- a step of a path: a node, and the value by which it is left
pub record Step : Type 0 where
  pub at_node : ℕ
  pub value : Bool

-- these steps, the latest first, lead from the root to x
abbrev pub LeadsTo : List Edges → List Step → Next → Type 0
LeadsTo graph [] x = x ≡ node 0
LeadsTo graph (step ∷ older) x = (next_in graph step.at_node step.value ≡ x) × LeadsTo graph older (node step.at_node)

-- the vector of a path: its nodes' conditions were evaluated, to the values by which the nodes are left
abbrev pub vector_of : List Step → Vector
vector_of [] = record { seen = 0; value = 0 }
vector_of (step ∷ older) =
    let earlier = vector_of older in
    record {
      seen = bit_or earlier.seen (2 ^ step.at_node);
      value = if step.value then bit_or earlier.value (2 ^ step.at_node) else earlier.value;
    }

-- v is the vector of a path from the root to a leaf
pub record IsPathVector (graph : List Edges) (v : Vector) : Type 0 where
  pub path : List Step
  pub ends : Bool
  pub leads : LeadsTo graph path (leaf ends)
  pub shown : v ≡ vector_of path

-- where a walk stands that comes to node n, or passes it by: at the node it takes the edge of its condition's value
abbrev pub passed : ℕ → Edges → (ℕ → Bool) → Next → Next
passed n edges value (node k) = if nat_eq k n then target edges (value n) else node k
passed n edges value (leaf ends) = leaf ends

-- where a walk from x stands after these nodes, which are numbered from n on
abbrev pub walked_from : ℕ → List Edges → (ℕ → Bool) → Next → Next
walked_from n [] value x = x
walked_from n (edges ∷ rest) value x = walked_from (suc n) rest value (passed n edges value x)

-- where the walk from the root ends that takes at each node the edge of its condition's value
abbrev pub walked : List Edges → (ℕ → Bool) → Next
walked graph value = walked_from 0 graph value (node 0)

-- a place is an outcome
abbrev pub IsOutcome : Next → Type 0
IsOutcome (node k) = ⊥
IsOutcome (leaf ends) = Unit {0}

-- v is the vector of a path from the root to a leaf whose last step leaves node k by this value
pub record IsVectorOfLeaf (graph : List Edges) (k : ℕ) (value : Bool) (v : Vector) : Type 0 where
  pub older : List Step
  pub ends : Bool
  pub leads : LeadsTo graph (record { at_node = k; value = value } ∷ older) (leaf ends)
  pub shown : v ≡ vector_of (record { at_node = k; value = value } ∷ older)
