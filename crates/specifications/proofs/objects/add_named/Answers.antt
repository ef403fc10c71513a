use Rattle.std.proofs.Common.{refl, sym, ◌∙◌}
use Rattle.specifications.proofs.ObjectLaws.{turn_named, all_named}
use Rattle.specifications.proofs.objects.add_named.Goals as goal

pub loop-name-init : goal.loop-name-init
loop-name-init c k = refl

pub loop-name-preserved : goal.loop-name-preserved
loop-name-preserved c k =
    turn_named c.args.names.now c.loop-name.name-index _ c.loop-name-test.true c.name-item.is k c.args.form c.loop-name.parameters.items
    c.push.new.self.items c.from-name.result (c.from-name.ensures ∙ c.in_ok-key.ensures) c.in_ok-push.ensures.items
    ∙ c.loop-name.invariant k

pub returns : goal.returns
returns c k =
    sym (all_named c.args.names.now c.loop-name.name-index c.loop-name-test.false k c.args.form c.loop-name.parameters.items)
    ∙ c.loop-name.invariant k
