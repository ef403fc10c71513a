use Rattle.std.proofs.Common.{◌≡◌}
use Rattle.coverage_set.proofs.Members.{one_less, none_behind}
use Rattle.coverage_set.proofs.set.SortedSet.has_all.Goals as goal

pub loop-item-init : goal.loop-item-init
loop-item-init g c = rw (c.as_slice-item-items.ensures.value, ← c.more.view_is) (λ enough. enough)

pub loop-item-preserved : goal.loop-item-preserved
loop-item-preserved g c =
    λ behind. c.loop-item.invariant
    ((one_less c.args.self.now c.as_slice-item-items.result.now c.loop-item.item-index c.item-item.result c.loop-item-test.true c.item-item.is
    (c.has.ensures.0 c.if-not-has.false)).1 behind)

pub returns : goal.returns
returns g c =
    λ yes. c.loop-item.invariant (λ x some. absurd (none_behind (λ y. y ≡ x) c.as_slice-item-items.result.now c.loop-item.item-index c.loop-item-test.false some))
