use Rattle.std.proofs.Common.{ap, sym, ◌+◌, ◌∙◌}
use Rattle.named_types.proofs.Instances.{named_from, next_instance, no_instance_left, fails, passes}
use Rattle.named_types.proofs.named.are_named_in.Goals as goal

pub loop-place-init : goal.loop-place-init
loop-place-init c =
    ap (λ is. named_from c.args.program.now c.args.generic c.args.below c.args.subtypes.now 1 is) c.as_slice-instance-items.ensures

pub returns-then-not-has_named : goal.returns-then-not-has_named
returns-then-not-has_named c =
    fails _ _
    (next_instance c.args.program.now c.args.generic c.args.below c.args.subtypes.now c.as_slice-instance-items.result.now (c.loop-place.place + 1)
    c.loop-place.place c.instance-item.result c.loop-place-test.true c.instance-item.is)
    (sym c.has_named.ensures ∙ c.if-not-has_named.true)
    ∙ c.loop-place.invariant

pub loop-place-preserved : goal.loop-place-preserved
loop-place-preserved c =
    passes _ _
    (next_instance c.args.program.now c.args.generic c.args.below c.args.subtypes.now c.as_slice-instance-items.result.now (c.loop-place.place + 1)
    c.loop-place.place c.instance-item.result c.loop-place-test.true c.instance-item.is)
    (sym c.has_named.ensures ∙ c.if-not-has_named.false)
    ∙ c.loop-place.invariant

pub returns : goal.returns
returns c =
    no_instance_left c.args.program.now c.args.generic c.args.below c.args.subtypes.now c.as_slice-instance-items.result.now (c.loop-place.place + 1)
    c.loop-place.place c.loop-place-test.false
    ∙ c.loop-place.invariant
