use Rattle.std.proofs.lemmas.Result.{err_from_is_err_and}
use Rattle.expression_parser.specs.declared.symbol.Symbol.TheVariants as symbol
use Rattle.expression_parser.specs.Shows.{Reads}
use Rattle.expression_parser.proofs.Faults.{word_handed_on}
use Rattle.ada_parser.specs.UnitDepth as at
use Rattle.ada_parser.proofs.ContextCode.{end_shows, end_below, end_fail}
use Rattle.ada_parser.proofs.contexts.end.Goals as goal

pub returns-in_err-rest-clause-reads : goal.returns-in_err-rest-clause-reads
returns-in_err-rest-clause-reads c =
    let p = err_from_is_err_and c.from_residual.result c.from_residual.ensures.1 in
    rw (p.1, p.2) (word_handed_on (Reads at.at_end c.args.tokens.now) symbol.End c.args.tokens.now c.in_err-rest.field-0.0 c.in_err-rest.ensures (λ rest e. end_fail c.args.tokens.now rest e))

pub returns-in_err-rest-clause-shorter : goal.returns-in_err-rest-clause-shorter
returns-in_err-rest-clause-shorter c = rw ((err_from_is_err_and c.from_residual.result c.from_residual.ensures.1).1) tt

pub returns-clause-reads : goal.returns-clause-reads
returns-clause-reads c = end_shows c.args.tokens.now c.in_ok-rest.rest.now c.end_name.result c.closed_by.result c.in_ok-rest.ensures c.end_name.ensures.reads c.end_name.ensures.no_longer c.closed_by.ensures

pub returns-clause-shorter : goal.returns-clause-shorter
returns-clause-shorter c = end_below c.args.tokens.now c.in_ok-rest.rest.now c.end_name.result c.closed_by.result c.in_ok-rest.ensures c.end_name.ensures.no_longer c.closed_by.ensures
