use Rattle.std.proofs.Common.{arith}
use Rattle.std.proofs.lemmas.Result.{err_from_is_err_and}
use Rattle.declaration_parser.proofs.ValueCode.{arrow_fault, within_rules}
use Rattle.declaration_parser.proofs.values.+within.Goals as goal

pub returns-in_err-rest-clause-reads : goal.returns-in_err-rest-clause-reads
returns-in_err-rest-clause-reads t c =
    let p = err_from_is_err_and c.from_residual.result c.from_residual.ensures.1 in
    rw (p.1, p.2) (arrow_fault c.args.parser.extent c.args.others.items c.in-Some.pos c.args.tokens.now c.in-Some.rest.now c.in_err-rest.field-0.0 c.in-Some.ensures c.in_err-rest.ensures)

pub returns-clause-reads : goal.returns-clause-reads
returns-clause-reads t c = grind (arith, within_rules)

pub returns-in_default-clause-reads : goal.returns-in_default-clause-reads
returns-in_default-clause-reads t c = grind (arith, within_rules)
