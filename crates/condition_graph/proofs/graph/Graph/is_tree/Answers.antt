use Rattle.std.proofs.Common.{◌≡◌, List, map, ap, sym, ◌∙◌}
use Rattle.cov_base.specs.Graph.{Edges}
use Rattle.condition_graph.specs.declared.node.Exits.{Exits}
use Rattle.condition_graph.specs.Target.{edges_of}
use Rattle.condition_graph.specs.Entry.{all_first}
use Rattle.condition_graph.proofs.Trees.{tree_from_first, first_from_tree}
use Rattle.condition_graph.proofs.graph.Graph.is_tree.Goals as goal

pub returns : goal.returns
returns c =
    let is : c.are_entered_once.result ≡ all_first c.args.self.now 0 c.args.self.now =
    c.are_entered_once.ensures
    ∙ ap (λ (nodes : List Exits). all_first (map edges_of nodes) 0 (map edges_of nodes)) c.as_slice.ensures.value
    ∙ ap (λ (nodes : List Edges). all_first nodes 0 nodes) c.self.view_is in
    (λ yes. tree_from_first c.args.self.now (sym is ∙ yes), λ tree. is ∙ first_from_tree c.args.self.now tree)
