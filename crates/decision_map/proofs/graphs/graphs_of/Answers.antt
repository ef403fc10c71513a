use Rattle.std.proofs.Common.{arith}
use Rattle.std.proofs.lemmas.Grind.{common_steps}
use Rattle.std.proofs.Common.{◌<◌, length}
use Rattle.decision_map.proofs.graphs.graphs_of.Goals as goal

pub graph_of_entry-requires : goal.graph_of_entry-requires
graph_of_entry-requires c =
    let within : c.loop-entry.entry-index < length c.args.decisions.now = c.loop-entry-test.true in
    rw c.entry-item.is (c.requires c.loop-entry.entry-index c.entry-item.result within)

pub loop-entry-preserved : goal.loop-entry-preserved
loop-entry-preserved c = grind (arith, common_steps) steps 2000000

pub returns : goal.returns
returns c = grind (arith, common_steps) steps 2000000
