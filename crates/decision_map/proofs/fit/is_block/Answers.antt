use Rattle.decision_map.proofs.Inside.{inside_is_block}
use Rattle.decision_map.proofs.fit.is_block.Goals as goal

pub returns-in-Some : goal.returns-in-Some
returns-in-Some c =
    let known = rw c.in-Some.is at c.requires.before in
    inside_is_block c.args.kinds.now c.in-Some.known c.args.block known.0 known.1 c.if-block-known.true c.requires.aligned
