use Rattle.std.proofs.Common.{Ok, sym, ap, ◌∙◌}
use Rattle.object_values.proofs.NewValueLaws.{when_ok}
use Rattle.object_values.proofs.ValueFor.{from_component}
use Rattle.object_values.proofs.initial.value_for.Goals as goal

pub returns-in-Ok-Some : goal.returns-in-Ok-Some
returns-in-Ok-Some c known k b e is =
    let placement = c.in-Ok-Some.placement in
    let reach = when_ok _ c.placing.result _ (c.in-Ok-Some.is ∙ ap Ok c.in-Ok-Some.field-0-is) c.placing.ensures known k b in
    from_component k c.args.subtype c.args.others.now placement c.args.kind c.args.form e c.single_value-single.result c.placed.result is
    (reach.0 e) (c.single_value-single.ensures k reach.1) (c.placed.ensures k.types)

pub returns-in-Ok-None : goal.returns-in-Ok-None
returns-in-Ok-None c known k b e is =
    sym ((when_ok _ c.placing.result _ (c.in-Ok-None.is ∙ ap Ok c.in-Ok-None.field-0-is) c.placing.ensures known k b).0 e)
