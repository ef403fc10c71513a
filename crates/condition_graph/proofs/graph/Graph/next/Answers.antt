use Rattle.std.proofs.Common.{◌<◌, length, map, arith, ◌∙◌}
use Rattle.std.proofs.lemmas.List.{length-map}
use Rattle.condition_graph.specs.Target.{edges_of}
use Rattle.condition_graph.proofs.Places.{next_of_place}
use Rattle.condition_graph.proofs.graph.Graph.next.Goals as goal

pub returns : goal.returns
returns c =
    let nodes = c.self.inside.nodes.items in
    let within : c.args.node.0 < length (map edges_of nodes) = rw c.self.view_is c.requires in
    rw (← c.self.view_is)
    (c.to.ensures ∙ next_of_place nodes c.args.node.0 c.args.value c.index.result.now (omega (arith, length-map nodes edges_of)) c.index.ensures)
