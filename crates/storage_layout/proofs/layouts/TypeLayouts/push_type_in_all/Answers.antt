use Rattle.std.proofs.Common.{◌≡◌, ◌+◌, ◌-◌, length, ◌∙◌, arith, rules}
use Rattle.storage_layout.proofs.Instances.{next_type}
use Rattle.storage_layout.proofs.layouts.TypeLayouts.push_type_in_all.Goals as goal

pub loop-instance-preserved : goal.loop-instance-preserved
loop-instance-preserved c =
    let p = c.args.sizes.now.program.now in
    let i = c.loop-instance.instance in
    let last : c.in_ok-last.last ≡ length p.instances = search rules in
    let left = length p.instances + 1 - i in
    let less = length p.instances + 1 - (i + 1) in
    let inside : left ≡ less + 1 = omega (arith, last, c.loop-instance-test.true) in
    next_type p left less i c.args.number c.args.declaration.now c.loop-instance.self _ inside c.in_ok-push_type_in.ensures ∙ c.loop-instance.invariant
