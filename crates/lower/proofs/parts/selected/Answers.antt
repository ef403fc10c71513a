use Rattle.lower.specs.Context.{text}
use Rattle.lower.proofs.Settings.{component_selected}
use Rattle.lower.proofs.parts.selected.Goals as goal

pub returns-in-Record-Component-clause-some : goal.returns-in-Record-Component-clause-some
returns-in-Record-Component-clause-some c =
    let r = c.in-Record-Component.record in
    λ rest. rw (c.in-Record-Component.is-1, c.in_ok-of.was)
    (component_selected (text c.args.context.now) r.sizes.now.program.now r.instance r.below c.in-Record-Component.place r.components.now c.component.result _ rest
    c.in-Record-Component.ensures.shape c.in-Record-Component.ensures.program c.component.ensures)
