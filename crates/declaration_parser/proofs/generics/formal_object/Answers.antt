use Rattle.std.proofs.lemmas.Result.{err_from_is_err_and}
use Rattle.declaration_parser.proofs.FormalCode.{object_fails_first, object_fails_second, object_read}
use Rattle.std.proofs.Common.{arith}
use Rattle.expression_parser.specs.declared.symbol.Symbol.TheVariants as symbol
use Rattle.declaration_parser.proofs.Closings.{closed_below, named_within, read_so, within_below}
use Rattle.declaration_parser.proofs.generics.formal_object.Goals as goal

pub returns-in_err-name-clause-reads : goal.returns-in_err-name-clause-reads
returns-in_err-name-clause-reads c =
    let p = err_from_is_err_and c.from_residual.result c.from_residual.ensures.1 in
    rw (p.1, p.2) (object_fails_first c.args.parser.extent c.args.tokens.now c.identifier.result c.in_err-name.field-0.0 c.identifier.ensures c.in_err-name.ensures)

pub returns-in_err-name-clause-shorter : goal.returns-in_err-name-clause-shorter
returns-in_err-name-clause-shorter c = rw ((err_from_is_err_and c.from_residual.result c.from_residual.ensures.1).1) tt

pub returns-in_err-mark-clause-reads : goal.returns-in_err-mark-clause-reads
returns-in_err-mark-clause-reads c =
    let p = err_from_is_err_and c.from_residual-in_err-mark.result c.from_residual-in_err-mark.ensures.1 in
    rw (p.1, p.2) (object_fails_second c.args.parser.extent c.args.tokens.now c.identifier.result c.in_ok-name.name c.in_ok-name.rest c.formal_mode-mode.result.0 c.formal_mode-mode.result.1.now c.name.result c.in_err-mark.field-0.0 c.identifier.ensures c.in_ok-name.ensures c.formal_mode-mode.ensures.reads c.formal_mode-mode.ensures.no_longer c.name.ensures.reads c.name.ensures.shorter c.in_err-mark.ensures)

pub returns-in_err-mark-clause-shorter : goal.returns-in_err-mark-clause-shorter
returns-in_err-mark-clause-shorter c = rw ((err_from_is_err_and c.from_residual-in_err-mark.result c.from_residual-in_err-mark.ensures.1).1) tt

pub returns-clause-reads : goal.returns-clause-reads
returns-clause-reads c = object_read c.args.parser.extent c.args.tokens.now c.identifier.result c.in_ok-name.name c.in_ok-name.rest c.formal_mode-mode.result.0 c.formal_mode-mode.result.1.now c.name.result c.in_ok-mark.mark c.in_ok-mark.rest c.identifier.ensures c.in_ok-name.ensures c.formal_mode-mode.ensures.reads c.formal_mode-mode.ensures.no_longer c.name.ensures.reads c.name.ensures.shorter c.in_ok-mark.ensures

pub returns-clause-shorter : goal.returns-clause-shorter
returns-clause-shorter c = omega (arith, (closed_below symbol.Colon c.args.tokens.now c.identifier.result (read_so c.in_ok-name.name c.in_ok-name.rest) (named_within c.args.tokens.now c.identifier.result c.identifier.ensures) c.in_ok-name.ensures), c.formal_mode-mode.ensures.no_longer, (closed_below symbol.Semicolon c.formal_mode-mode.result.1.now c.name.result (read_so c.in_ok-mark.mark c.in_ok-mark.rest) (within_below c.formal_mode-mode.result.1.now c.name.result c.name.ensures.shorter) c.in_ok-mark.ensures))
