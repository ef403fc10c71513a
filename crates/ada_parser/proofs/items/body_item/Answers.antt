use Rattle.std.proofs.Common.{arith}
use Rattle.ada_parser.proofs.ItemCode.{body_item_rules}
use Rattle.ada_parser.proofs.items.body_item.Goals as goal

pub returns-clause-reads : goal.returns-clause-reads
returns-clause-reads c = grind (arith, body_item_rules)

pub returns-in_err-declaration-clause-reads : goal.returns-in_err-declaration-clause-reads
returns-in_err-declaration-clause-reads c = grind (arith, body_item_rules)

pub returns-in_err-specification-clause-reads : goal.returns-in_err-specification-clause-reads
returns-in_err-specification-clause-reads c = grind (arith, body_item_rules)

pub returns-then-begins_declaration-clause-reads : goal.returns-then-begins_declaration-clause-reads
returns-then-begins_declaration-clause-reads c = grind (arith, body_item_rules)
