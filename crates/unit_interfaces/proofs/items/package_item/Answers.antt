use Rattle.unit_interfaces.proofs.items.package_item.Goals as goal

pub returns-in-Declaration-clause-comes : goal.returns-in-Declaration-clause-comes
returns-in-Declaration-clause-comes c p k env h b = rw c.in-Declaration.is (c.declared_item.ensures.comes p k env h b)
