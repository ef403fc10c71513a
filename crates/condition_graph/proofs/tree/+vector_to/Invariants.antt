use Rattle.condition_graph.proofs.tree.+vector_to.Given as goal

abbrev pub decreases-vector_to : goal.decreases-vector_to
decreases-vector_to l = l.at_most
