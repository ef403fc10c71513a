use Rattle.std.proofs.Common.{◌∙◌, refl, arith}
use Rattle.generic_expand.specs.Copying.{in_instance, in_instances}
use Rattle.generic_expand.proofs.Growing.{one_numbered, none_numbered}
use Rattle.generic_expand.proofs.expansion.push_copies.Goals as goal

pub loop-index-preserved : goal.loop-index-preserved
loop-index-preserved c =
    let m = c.args.subprogram in
    let g = c.args.generic in
    let i = c.index-instances-index.result in
    one_numbered (λ n is. in_instances m g n is) (λ n x. in_instance m g n x) (λ n x xs. refl)
    c.args.instances.now c.loop-index.index i i _ _ (omega arith) c.index-instances-index.is c.in_ok-push_copy.ensures
    ∙ c.loop-index.invariant

pub returns : goal.returns
returns c =
    none_numbered (λ n is. in_instances c.args.subprogram c.args.generic n is) (λ n. refl)
    c.args.instances.now c.loop-index.index _ _ (omega arith) c.loop-index.invariant
