use Rattle.std.proofs.Common.{◌≡◌, ◌+◌, ◌-◌, length, ap, ◌∙◌, arith}
use Rattle.ada_resolved.proofs.Rows.{one_entry}
use Rattle.ada_resolved.proofs.sizes.row_of.Goals as goal

pub loop-instance-preserved : goal.loop-instance-preserved
loop-instance-preserved c =
    let p = c.args.program.now in
    let i = c.loop-instance.instance in
    let last : c.in_ok-last.last ≡ length p.instances = c.in_ok-last.ensures ∙ ap length c.as_slice.ensures in
    let inside : length p.instances + 1 - i ≡ length p.instances + 1 - (i + 1) + 1 = omega (arith, last, c.loop-instance-test.true) in
    one_entry p c.args.rows.now c.args.composite.now (length p.instances + 1 - i) (length p.instances + 1 - (i + 1)) i
    c.loop-instance.sizes.items c.push.new.self.items c.composite_size.result inside c.composite_size.ensures c.in_ok-push.ensures.items
    ∙ c.loop-instance.invariant
