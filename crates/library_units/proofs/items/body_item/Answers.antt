use Rattle.unit_interfaces.proofs.GoingLaws.{advances_on}
use Rattle.library_units.proofs.items.body_item.Goals as goal

pub returns-in-Declared-clause-comes : goal.returns-in-Declared-clause-comes
returns-in-Declared-clause-comes c p k env h b = rw c.in-Declared.is (c.package_item.ensures.comes p k env h b)

pub returns-in-Declared-clause-goes : goal.returns-in-Declared-clause-goes
returns-in-Declared-clause-goes c s = advances_on _ _ c.package_item.result (c.package_item.ensures.goes s.open_now)
