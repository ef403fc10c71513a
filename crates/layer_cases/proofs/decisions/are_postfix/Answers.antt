use Rattle.std.proofs.Common.{◌≡◌, ◌<◌, ◌+◌, ◌-◌, take, get_or, true, false, sym, subst, eqb-true, arith}
use Rattle.std.proofs.lemmas.List.{take_more, take_all}
use Rattle.layer_cases.proofs.Spelling.{IsRead, read_all, read_condition, read_operator, read_not}
use Rattle.layer_cases.proofs.decisions.are_postfix.Goals as goal

pub returns : goal.returns
returns c = λ one.
    let bytes = c.args.bytes.now in
    let whole : take c.loop-byte.byte-index bytes ≡ bytes = take_all c.loop-byte.byte-index bytes c.loop-byte-test.false in
    read_all bytes c.loop-byte.conditions c.loop-byte.operands c.loop-byte.negated
    (subst (λ bs. IsRead bs c.loop-byte.conditions c.loop-byte.operands c.loop-byte.negated) whole c.loop-byte.invariant.2)
    (eqb-true c.loop-byte.operands 1 one) c.loop-byte.invariant.1

pub loop-byte-preserved-then-conditions-lt32 : goal.loop-byte-preserved-then-conditions-lt32
loop-byte-preserved-then-conditions-lt32 c =
    let bytes = c.args.bytes.now in
    let i = c.loop-byte.byte-index in (
      (omega arith),
      (omega arith),
      subst (λ bs. IsRead bs (c.loop-byte.conditions + 1) (c.loop-byte.operands + 1) false) (sym (take_more bytes i 0 c.loop-byte-test.true))
          (read_condition (take i bytes) c.loop-byte.conditions c.loop-byte.operands (get_or bytes i 0) c.loop-byte.negated
          c.loop-byte.invariant.2 c.if-byte-conditions.true),
    )

pub loop-byte-preserved-then-operands-gt1 : goal.loop-byte-preserved-then-operands-gt1
loop-byte-preserved-then-operands-gt1 c =
    let bytes = c.args.bytes.now in
    let i = c.loop-byte.byte-index in (
      (omega arith),
      c.loop-byte.invariant.1,
      subst (λ bs. IsRead bs c.loop-byte.conditions (c.loop-byte.operands - 1) false) (sym (take_more bytes i 0 c.loop-byte-test.true))
          (read_operator (take i bytes) c.loop-byte.conditions c.loop-byte.operands (get_or bytes i 0) c.loop-byte.negated
          c.loop-byte.invariant.2 c.if-operands-gt1.true c.if-byte-gt32.true c.if-byte-lt35.true),
    )

pub loop-byte-preserved : goal.loop-byte-preserved
loop-byte-preserved c =
    let bytes = c.args.bytes.now in
    let i = c.loop-byte.byte-index in
    let some : 0 < c.loop-byte.operands = omega arith in
    let is : get_or bytes i 0 ≡ 32 = omega arith in (
      c.loop-byte.invariant.0,
      c.loop-byte.invariant.1,
      subst (λ bs. IsRead bs c.loop-byte.conditions c.loop-byte.operands true) (sym (take_more bytes i 0 c.loop-byte-test.true))
          (read_not (take i bytes) c.loop-byte.conditions c.loop-byte.operands (get_or bytes i 0) c.loop-byte.negated
          c.loop-byte.invariant.2 c.if-negated.false some is),
    )
