use Rattle.std.proofs.Common.{List, map, ap, ◌∙◌}
use Rattle.cov_base.specs.Graph.{Edges}
use Rattle.cov_base.specs.Marks.{bit}
use Rattle.cov_base.specs.Path.{walked}
use Rattle.cov_base.proofs.Walks.{walk_law}
use Rattle.condition_graph.specs.declared.node.Exits.{Exits}
use Rattle.condition_graph.specs.Target.{edges_of, outcome_at}
use Rattle.condition_graph.proofs.graph.Graph.outcome.Goals as goal

pub returns : goal.returns
returns c e is =
    let value = bit c.args.v.value in
    c.end_of_walk.ensures
    ∙ ap (λ (nodes : List Exits). outcome_at (walked (map edges_of nodes) value)) c.as_slice.ensures.value
    ∙ ap (λ (nodes : List Edges). outcome_at (walked nodes value)) (c.self.view_is ∙ is)
    ∙ ap outcome_at (walk_law e value)
