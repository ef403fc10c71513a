use Rattle.std.proofs.Common.{sym, ◌∙◌, le-ltb}
use Rattle.condition_graph.proofs.BitLemmas.{bit_past}
use Rattle.condition_graph.proofs.turn.is_reached.Goals as goal

pub returns-else-node-lt32 : goal.returns-else-node-lt32
returns-else-node-lt32 c =
    rw c.in-Node.is
    (le-ltb c.in-Node.node.0 32 c.if-node-lt32.false ∙ sym (bit_past c.args.leading c.in-Node.node.0 c.ranges.leading.fits c.if-node-lt32.false))
