use Rattle.decision_map.proofs.Trees.{made_of_entry}
use Rattle.decision_map.proofs.graphs.graph_of_entry.Goals as goal

pub returns : goal.returns
returns c =
    made_of_entry c.args.entry.now c.requires.0 c.requires.1 c.in_ok-graph.graph (c.in_ok-graph.ensures c.requires.0 c.requires.1)
    c.is_tree-is_tree.result c.is_tree-is_tree.ensures
