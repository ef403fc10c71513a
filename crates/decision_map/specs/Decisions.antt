-- The decisions of an object: their expressions and their graphs.
use Rattle.std.specs.Prelude.{ℕ, Bool, List, slice_get, option_map, unwrap_or}
use Rattle.cov_base.specs.declared.obligations.DecEntry.{DecEntry}
use Rattle.condition_graph.specs.Entry.{all_first}
use Rattle.cov_base.specs.Expr.{Expr, condition}
use Rattle.cov_base.specs.Expression.{expression_of}
use Rattle.cov_base.specs.Graph.{Edges, graph}
use Rattle.decision_map.specs.declared.graphs.DecisionGraph.{DecisionGraph}
use Rattle.object_format.specs.declared.object.Object.{Object}

-- the expression of a decision by its number; a lone condition for a number that no decision has
abbrev pub expression_at : Object → ℕ → Expr
expression_at o decision =
    unwrap_or (option_map (λ entry. expression_of entry.expression.postfix) (slice_get o.obligations.decisions decision)) condition

-- its graph
abbrev pub graph_at : Object → ℕ → List Edges
graph_at o decision = graph (expression_at o decision)

-- whether a graph is a tree: each edge that leads to a node is the first one that does
unfoldable pub is_tree : List Edges → Bool
is_tree graph = all_first graph 0 graph

-- whether the graph of a decision is a tree
abbrev pub is_tree_at : Object → ℕ → Bool
is_tree_at o decision = is_tree (graph_at o decision)

-- what is kept of a decision
abbrev pub graph_of_entry : DecEntry → DecisionGraph
graph_of_entry entry =
    let graph = graph (expression_of entry.expression.postfix) in
    record { graph = graph; is_tree = is_tree graph }
