use Rattle.std.proofs.Common.{◌++◌, map, refl, ap, arith}
use Rattle.program_weights.specs.BodyEntries.{body_entry}
use Rattle.program_weights.specs.BodyTexts.{bodies_of_item}
use Rattle.typed_program.proofs.BodyLaws.{entered_in, entered_more, all_entered, in_step}
use Rattle.typed_program.proofs.bodies.body_entries.Goals as goal

pub loop-unit-init : goal.loop-unit-init
loop-unit-init c = ap (λ es. es ++ entered_in c.args.units.now) c.new-entries.ensures.items

pub loop-unit-preserved : goal.loop-unit-preserved
loop-unit-preserved c =
    entered_more entered_in (λ u. map body_entry (bodies_of_item u.item)) refl in_step c.args.units.now c.loop-unit.unit-index c.unit-item.result
    c.loop-unit.entries.items c.add_unit.new.entries.items _ c.loop-unit-test.true c.unit-item.is c.in_ok-add_unit.ensures
    c.loop-unit.invariant

pub returns : goal.returns
returns c =
    all_entered entered_in (λ u. map body_entry (bodies_of_item u.item)) refl in_step c.args.units.now c.loop-unit.unit-index c.loop-unit.entries.items _
    (omega (arith, c.loop-unit-test.false)) c.loop-unit.invariant
