use Rattle.std.proofs.lemmas.Result.{err_from_is_err_and}
use Rattle.declaration_parser.proofs.PragmaCode.{on_fails_first, on_fails_second, on_read}
use Rattle.std.proofs.Common.{arith}
use Rattle.expression_parser.specs.declared.symbol.Symbol.TheVariants as symbol
use Rattle.declaration_parser.proofs.Closings.{closed_below, read_so, text_within, within_below}
use Rattle.declaration_parser.proofs.pragmas.exempt_on.Goals as goal

pub returns-in_err-rest-clause-reads : goal.returns-in_err-rest-clause-reads
returns-in_err-rest-clause-reads c =
    let p = err_from_is_err_and c.from_residual.result c.from_residual.ensures.1 in
    rw (p.1, p.2) (on_fails_first c.args.tokens.now c.in_err-rest.field-0.0 c.in_err-rest.ensures)

pub returns-in_err-rest-clause-shorter : goal.returns-in_err-rest-clause-shorter
returns-in_err-rest-clause-shorter c = rw ((err_from_is_err_and c.from_residual.result c.from_residual.ensures.1).1) tt

pub returns-in_err-text-clause-reads : goal.returns-in_err-text-clause-reads
returns-in_err-text-clause-reads c =
    let p = err_from_is_err_and c.from_residual-in_err-text.result c.from_residual-in_err-text.ensures.1 in
    rw (p.1, p.2) (on_fails_second c.args.tokens.now c.in_ok-rest.rest.now c.literal.result c.closed_by-text.result c.in_err-text.field-0.0 c.in_ok-rest.ensures c.literal.ensures c.closed_by-text.ensures c.in_err-text.ensures)

pub returns-in_err-text-clause-shorter : goal.returns-in_err-text-clause-shorter
returns-in_err-text-clause-shorter c = rw ((err_from_is_err_and c.from_residual-in_err-text.result c.from_residual-in_err-text.ensures.1).1) tt

pub returns-clause-reads : goal.returns-clause-reads
returns-clause-reads c = on_read c.args.tokens.now c.in_ok-rest.rest.now c.literal.result c.closed_by-text.result c.in_ok-text.text c.in_ok-text.rest c.in_ok-rest.ensures c.literal.ensures c.closed_by-text.ensures c.in_ok-text.ensures

pub returns-clause-shorter : goal.returns-clause-shorter
returns-clause-shorter c = omega (arith, c.in_ok-rest.ensures.shorter, (closed_below symbol.Semicolon c.in_ok-rest.rest.now c.closed_by-text.result (read_so c.in_ok-text.text c.in_ok-text.rest) (within_below c.in_ok-rest.rest.now c.closed_by-text.result (closed_below symbol.RightParenthesis c.in_ok-rest.rest.now c.literal.result c.closed_by-text.result (text_within c.in_ok-rest.rest.now c.literal.result c.literal.ensures) c.closed_by-text.ensures)) c.in_ok-text.ensures))
