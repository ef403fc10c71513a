use Rattle.std.proofs.lemmas.Result.{err_from_is_err_and}
use Rattle.declaration_parser.proofs.SubtypeCode.{index_fails, index_shows, index_below}
use Rattle.declaration_parser.proofs.subtypes.index.Goals as goal

pub returns-in_err-rest-clause-reads : goal.returns-in_err-rest-clause-reads
returns-in_err-rest-clause-reads c =
    let p = err_from_is_err_and c.from_residual.result c.from_residual.ensures.1 in
    rw (p.1, p.2) (index_fails c.args.parser.extent c.args.tokens.now c.in_err-rest.field-0.0 c.in_err-rest.ensures)

pub returns-in_err-rest-clause-shorter : goal.returns-in_err-rest-clause-shorter
returns-in_err-rest-clause-shorter c = rw ((err_from_is_err_and c.from_residual.result c.from_residual.ensures.1).1) tt

pub returns-clause-reads : goal.returns-clause-reads
returns-clause-reads c = index_shows c.args.parser.extent c.args.tokens.now c.in_ok-rest.rest.now c.range.result c.closed_by-index.result c.closed_by.result c.in_ok-rest.ensures c.range.ensures.reads c.range.ensures.shorter c.closed_by-index.ensures c.closed_by.ensures

pub returns-clause-shorter : goal.returns-clause-shorter
returns-clause-shorter c = index_below c.args.parser.extent c.args.tokens.now c.in_ok-rest.rest.now c.range.result c.closed_by-index.result c.closed_by.result c.in_ok-rest.ensures c.range.ensures.shorter c.closed_by-index.ensures c.closed_by.ensures
