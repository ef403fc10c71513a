use Rattle.std.proofs.Common.{[], ◌∷◌, refl, arith}
use Rattle.typed_program.proofs.BodyLaws.{entered_among, entered_more, all_entered, among_step}
use Rattle.typed_program.proofs.bodies.add_items.Goals as goal

pub loop-item-preserved : goal.loop-item-preserved
loop-item-preserved c =
    entered_more entered_among (λ x. entered_among (x ∷ [])) refl among_step c.args.items.now c.loop-item.item-index c.item-item.result
    c.loop-item.entries.items c.add_item.new.entries.items _ c.loop-item-test.true c.item-item.is c.in_ok-add_item.ensures
    c.loop-item.invariant

pub returns : goal.returns
returns c =
    all_entered entered_among (λ x. entered_among (x ∷ [])) refl among_step c.args.items.now c.loop-item.item-index c.loop-item.entries.items _
    (omega (arith, c.loop-item-test.false)) c.loop-item.invariant
