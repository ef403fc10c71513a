use Rattle.std.proofs.lemmas.Result.{err_from_is_err_and}
use Rattle.declaration_parser.proofs.FormalCode.{type_fails_first, type_read}
use Rattle.declaration_parser.proofs.generics.formal_type.Goals as goal

pub returns-in_err-name-clause-reads : goal.returns-in_err-name-clause-reads
returns-in_err-name-clause-reads c =
    let p = err_from_is_err_and c.from_residual.result c.from_residual.ensures.1 in
    rw (p.1, p.2) (type_fails_first c.args.tokens.now c.identifier.result c.in_err-name.field-0.0 c.identifier.ensures c.in_err-name.ensures)

pub returns-in_err-name-clause-shorter : goal.returns-in_err-name-clause-shorter
returns-in_err-name-clause-shorter c = rw ((err_from_is_err_and c.from_residual.result c.from_residual.ensures.1).1) tt

pub returns-clause-reads : goal.returns-clause-reads
returns-clause-reads c = type_read c.args.tokens.now c.identifier.result c.in_ok-name.name c.in_ok-name.rest c.formal_type_rest.result c.identifier.ensures c.in_ok-name.ensures c.formal_type_rest.ensures.reads
