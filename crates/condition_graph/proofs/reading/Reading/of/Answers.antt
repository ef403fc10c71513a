use Rattle.std.proofs.lemmas.Grind.{common_steps}
use Rattle.std.proofs.Common.{arith}
use Rattle.condition_graph.proofs.Readings.{read_before}
use Rattle.condition_graph.proofs.reading.Reading.of.Goals as goal

pub loop-at-preserved : goal.loop-at-preserved
loop-at-preserved c =
    read_before c.args.bytes.now c.loop-at.at _ _ _ (omega arith) (omega arith) c.in_ok-read_byte.ensures c.loop-at.invariant

pub loop-at-init : goal.loop-at-init
loop-at-init c = grind (arith, common_steps) steps 2000000
