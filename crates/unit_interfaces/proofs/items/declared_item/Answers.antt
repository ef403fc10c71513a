use Rattle.unit_interfaces.proofs.ItemLaws.{declared_alone}
use Rattle.unit_interfaces.proofs.items.declared_item.Goals as goal

pub returns-clause-comes : goal.returns-clause-comes
returns-clause-comes c p k env h b =
    declared_alone env p c.args.walk.now c.declared.new.walk k c.args.declaration.now _ _ c.declared.result
    (c.declared.ensures.comes k env h b)
