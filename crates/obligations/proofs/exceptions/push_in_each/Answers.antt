use Rattle.std.proofs.Common.{◌∙◌, refl, arith}
use Rattle.obligations.specs.Exceptions.{in_instance, in_instances}
use Rattle.obligations.proofs.Growing.{one_grown, none_grown}
use Rattle.obligations.proofs.exceptions.push_in_each.Goals as goal

pub loop-instance-preserved : goal.loop-instance-preserved
loop-instance-preserved c =
    let d = c.args.declaration.now in
    let g = c.args.generic in
    let i = c.instance-item.result in
    one_grown (in_instances d g) (in_instance d g) (λ x xs. refl)
    c.args.instances.now c.loop-instance.instance-index i i _ _ c.loop-instance-test.true c.instance-item.is c.in_ok-push_in.ensures
    ∙ c.loop-instance.invariant

pub returns : goal.returns
returns c =
    none_grown (in_instances c.args.declaration.now c.args.generic) refl
    c.args.instances.now c.loop-instance.instance-index _ _ (omega (arith, c.loop-instance-test.false)) c.loop-instance.invariant
