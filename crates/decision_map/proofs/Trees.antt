-- The test for a tree.
use Rattle.std.proofs.Common.{◌≡◌, ◌↔◌, Bool, true, false, List, refl, sym, ap, ◌∙◌}
use Rattle.condition_graph.proofs.Trees.{tree_from_first, first_from_tree}
use Rattle.cov_base.specs.declared.obligations.DecEntry.{DecEntry}
use Rattle.cov_base.specs.Expr.{Expr, IsPostfixOf}
use Rattle.cov_base.specs.Graph.{Edges, graph, IsTree}
use Rattle.decision_map.specs.declared.graphs.DecisionGraph.{DecisionGraph}
use Rattle.decision_map.specs.Decisions.{is_tree, graph_of_entry}
use Rattle.cov_base.proofs.Postfix.{read_postfix}

pub tree_law : (graph : List Edges) → is_tree graph ≡ true ↔ IsTree graph
unfolding is_tree
tree_law graph = (tree_from_first graph, first_from_tree graph)

-- two truth values that hold exactly where one fact does
both_hold : (a b : Bool) (P : Type 0) → a ≡ true ↔ P → b ≡ true ↔ P → a ≡ b
both_hold true true P f g = refl
both_hold true false P f g = sym (g.1 (f.0 refl))
both_hold false true P f g = f.1 (g.0 refl)
both_hold false false P f g = refl

-- what answers whether a graph is a tree is the test
pub test_is_tree : (answer : Bool) (graph : List Edges) → answer ≡ true ↔ IsTree graph → answer ≡ is_tree graph
test_is_tree answer graph is = both_hold answer (is_tree graph) (IsTree graph) is (tree_law graph)

-- a graph, and an answer whether it is a tree
abbrev pub graph_with : List Edges → Bool → DecisionGraph
graph_with g answer = record { graph = g; is_tree = answer }

-- what is made of a decision: the graph of its expression, and the answer whether that is a tree
pub made_of_entry : (entry : DecEntry) (e : Expr) → IsPostfixOf entry.expression.postfix e → (made : List Edges) → made ≡ graph e
    → (answer : Bool) → answer ≡ true ↔ IsTree made → graph_with made answer ≡ graph_of_entry entry
made_of_entry entry e spelled made is answer test =
    ap (graph_with made) (test_is_tree answer made test)
    ∙ ap (λ (g : List Edges). graph_with g (is_tree g)) (is ∙ ap graph (sym (read_postfix entry.expression.postfix e spelled)))
