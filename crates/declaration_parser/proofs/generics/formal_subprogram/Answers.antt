use Rattle.std.proofs.lemmas.Result.{err_from_is_err_and}
use Rattle.declaration_parser.proofs.FormalCode.{subprogram_fails_first, subprogram_read}
use Rattle.std.proofs.Common.{arith}
use Rattle.expression_parser.specs.declared.symbol.Symbol.TheVariants as symbol
use Rattle.declaration_parser.proofs.Closings.{closed_below, read_so, within_below}
use Rattle.declaration_parser.proofs.generics.formal_subprogram.Goals as goal

pub returns-in_err-specification-clause-reads : goal.returns-in_err-specification-clause-reads
returns-in_err-specification-clause-reads c =
    let p = err_from_is_err_and c.from_residual.result c.from_residual.ensures.1 in
    rw (p.1, p.2) (subprogram_fails_first c.args.parser.extent c.args.tokens.now c.specification.result c.in_err-specification.field-0.0 c.specification.ensures.reads c.specification.ensures.shorter c.in_err-specification.ensures)

pub returns-in_err-specification-clause-shorter : goal.returns-in_err-specification-clause-shorter
returns-in_err-specification-clause-shorter c = rw ((err_from_is_err_and c.from_residual.result c.from_residual.ensures.1).1) tt

pub returns-clause-reads : goal.returns-clause-reads
returns-clause-reads c = subprogram_read c.args.parser.extent c.args.tokens.now c.specification.result c.in_ok-specification.specification c.in_ok-specification.rest c.specification.ensures.reads c.specification.ensures.shorter c.in_ok-specification.ensures

pub returns-clause-shorter : goal.returns-clause-shorter
returns-clause-shorter c = omega (arith, (closed_below symbol.Semicolon c.args.tokens.now c.specification.result (read_so c.in_ok-specification.specification c.in_ok-specification.rest) (within_below c.args.tokens.now c.specification.result c.specification.ensures.shorter) c.in_ok-specification.ensures))
