-- The edges by which the nodes of a graph are entered.
use Rattle.std.specs.Prelude.{ℕ, zero, suc, nat_eq, Bool, true, false, ◌&&◌, List, [], ◌∷◌, Option, Some, None, if◌then◌else◌}
use Rattle.cov_base.specs.Graph.{node, leaf, Edges, Next as Place}
use Rattle.cov_base.specs.Marks.{same}
use Rattle.cov_base.specs.Path.{Step as PathStep}
use Rattle.condition_graph.specs.declared.node.Step.{Step}

-- the step of a path
abbrev pub step_of : Step → PathStep
step_of s = record { at_node = s.node.0; value = s.value }

abbrev pub is_node : Place → ℕ → Bool
is_node (node j) k = nat_eq j k
is_node (leaf ends) k = false

-- the first edge that leads to node k, in nodes that are numbered from n on
abbrev pub entry_from : ℕ → List Edges → ℕ → Option PathStep
entry_from n [] k = None
entry_from n (edges ∷ rest) k =
    if is_node edges.on_true k then Some (record { at_node = n; value = true })
    else if is_node edges.on_false k then Some (record { at_node = n; value = false })
    else entry_from (suc n) rest k

-- whether a step is that of node n for a value
abbrev pub is_step : Option PathStep → ℕ → Bool → Bool
is_step None n value = false
is_step (Some step) n value = nat_eq step.at_node n && same step.value value

-- whether the edge of node n for a value leads to a leaf, or is the first one that leads to its node
abbrev pub is_first : List Edges → ℕ → Bool → Place → Bool
is_first graph n value (node k) = is_step (entry_from 0 graph k) n value
is_first graph n value (leaf ends) = true

-- whether this is so of all edges of nodes that are numbered from n on
abbrev pub all_first : List Edges → ℕ → List Edges → Bool
all_first graph n [] = true
all_first graph n (edges ∷ rest) =
    is_first graph n true edges.on_true && (is_first graph n false edges.on_false && all_first graph (suc n) rest)

abbrev pub climbed_by : Option PathStep → (ℕ → List PathStep) → List PathStep
climbed_by None older = []
climbed_by (Some step) older = step ∷ older step.at_node

-- the steps that lead to node k by first entries, the latest first: so many at most
abbrev pub climbed : ℕ → List Edges → ℕ → List PathStep
climbed zero graph k = []
climbed (suc more) graph k = climbed_by (entry_from 0 graph k) (climbed more graph)
