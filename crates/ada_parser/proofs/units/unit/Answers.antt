use Rattle.std.proofs.Common.{arith}
use Rattle.ada_parser.proofs.UnitCode.{unit_rules}
use Rattle.ada_parser.proofs.units.unit.Goals as goal

pub returns-clause-reads : goal.returns-clause-reads
returns-clause-reads c = grind (arith, unit_rules)

pub returns-in_err-withs-clause-reads : goal.returns-in_err-withs-clause-reads
returns-in_err-withs-clause-reads c = grind (arith, unit_rules)
