use Rattle.std.proofs.Common.{refl, arith, ◌∙◌}
use Rattle.typed_program.proofs.Valued.{set_there, set_past, not_below}
use Rattle.typed_program.proofs.instances.set_values.Goals as goal

pub returns-in-Some : goal.returns-in-Some
returns-in-Some c =
    set_there c.args.instances.now.items c.args.index c.in-Some.instance.now c.args.facts.now c.from.result
    (omega (arith, c.in-Some.ensures.variant.0 refl, c.args.instances.now.ok.0)) c.in-Some.ensures.item.1
    (c.from.ensures ∙ c.in_ok-constants.ensures.items ∙ c.as_slice.ensures)

pub returns-in_default : goal.returns-in_default
returns-in_default c =
    let past = not_below _ _ c.in_default.ensures.variant.1 in
    set_past c.args.instances.now.items c.args.index c.args.facts.now (omega (arith, past, c.args.instances.now.ok.0))
