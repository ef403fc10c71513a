use Rattle.std.proofs.Common.{arith}
use Rattle.ada_parser.proofs.ContextCode.{end_name_rules}
use Rattle.ada_parser.proofs.contexts.end_name.Goals as goal

pub returns-in_err-name-clause-reads : goal.returns-in_err-name-clause-reads
returns-in_err-name-clause-reads c = grind (arith, end_name_rules)
