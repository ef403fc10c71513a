use Rattle.std.proofs.Common.{arith, ◌≡◌, false, nat_eq, get_or}
use Rattle.std.proofs.lemmas.Grind.{common_steps}
use Rattle.object_format.proofs.Postfix.{answers, ends, stops, is_next, is_operator, is_not}
use Rattle.object_format.proofs.checks.decision.are_expression.Goals as goal

pub returns-else-byte-eq-NOT : goal.returns-else-byte-eq-NOT
returns-else-byte-eq-NOT c =
    let l = c.loop-byte in
    let b = get_or c.args.bytes.now l.byte-index 0 in
    let one : is_next l.named b ≡ false = grind (arith, common_steps) in
    let two : is_operator l.operands b ≡ false = grind (arith, common_steps) in
    let three : is_not l.operands l.is_negated b ≡ false = grind (arith, common_steps) in
    answers c.args.conditions c.args.bytes.now false
    (stops c.args.conditions l.named l.operands l.is_negated _ c.args.bytes.now l.byte-index c.loop-byte-test.true one two three l.invariant.2)

pub returns-then-operands-eq1 : goal.returns-then-operands-eq1
returns-then-operands-eq1 c =
    let l = c.loop-byte in
    let e = ends c.args.conditions l.named l.operands l.is_negated _ c.args.bytes.now l.byte-index c.loop-byte-test.false l.invariant.2 in
    answers c.args.conditions c.args.bytes.now (nat_eq l.named c.args.conditions)
    (grind (arith, common_steps))

pub returns-else-operands-eq1 : goal.returns-else-operands-eq1
returns-else-operands-eq1 c =
    let l = c.loop-byte in
    let e = ends c.args.conditions l.named l.operands l.is_negated _ c.args.bytes.now l.byte-index c.loop-byte-test.false l.invariant.2 in
    answers c.args.conditions c.args.bytes.now (nat_eq l.operands 1)
    (grind (arith, common_steps))

pub loop-byte-preserved : goal.loop-byte-preserved
loop-byte-preserved c = grind (arith, common_steps)
