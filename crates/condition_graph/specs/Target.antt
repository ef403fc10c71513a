-- What the program's nodes say, in the words of the definitions.
use Rattle.std.specs.Prelude.{Bool, false}
use Rattle.cov_base.specs.Graph.{node, leaf, Edges, Next as Place}
use Rattle.condition_graph.specs.declared.node.Next.{Next}
use Rattle.condition_graph.specs.declared.node.Next.TheVariants.{Node, Leaf}
use Rattle.condition_graph.specs.declared.node.Exits.{Exits}

-- where an edge leads
abbrev pub place_of : Next → Place
place_of (Node c) = node c.0
place_of (Leaf value) = leaf value

-- the two edges of a node
abbrev pub edges_of : Exits → Edges
edges_of exits = record { on_true = place_of exits.on_true; on_false = place_of exits.on_false }

-- the outcome at a place, where it is one
abbrev pub outcome_at : Place → Bool
outcome_at (node k) = false
outcome_at (leaf ends) = ends
