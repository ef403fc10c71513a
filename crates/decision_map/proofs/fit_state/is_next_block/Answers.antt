use Rattle.std.proofs.Common.{arith}
use Rattle.decision_map.specs.Kinds.{kinds_of_text}
use Rattle.decision_map.proofs.Inside.{inside_is_block}
use Rattle.decision_map.proofs.fit_state.is_next_block.Goals as goal

pub returns-in-Some : goal.returns-in-Some
returns-in-Some c = λ is.
    inside_is_block (kinds_of_text c.args.map.now.text) c.in-Some.known c.args.block (rw c.in-Some.is at is) (omega (arith, c.if-known-block.true)) (omega (arith, c.if-block-known.true)) (omega (arith, c.if-block-ne0.false))
