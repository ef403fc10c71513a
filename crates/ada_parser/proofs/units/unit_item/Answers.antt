use Rattle.std.proofs.Common.{arith}
use Rattle.ada_parser.proofs.UnitCode.{unit_item_rules}
use Rattle.ada_parser.proofs.units.unit_item.Goals as goal

pub returns-clause-reads : goal.returns-clause-reads
returns-clause-reads c = grind (arith, unit_item_rules)

pub returns-in_err-item-clause-reads : goal.returns-in_err-item-clause-reads
returns-in_err-item-clause-reads c = grind (arith, unit_item_rules)
