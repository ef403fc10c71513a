use Rattle.std.proofs.lemmas.Result.{err_from_is_err_and}
use Rattle.declaration_parser.proofs.SubtypeCode.{record_fails_first, record_read}
use Rattle.std.proofs.Common.{arith}
use Rattle.expression_parser.specs.declared.symbol.Symbol.TheVariants as symbol
use Rattle.declaration_parser.proofs.Closings.{closed_below, read_so, within_below}
use Rattle.declaration_parser.proofs.subtypes.components_to_end.Goals as goal

pub returns-in_err-components-clause-reads : goal.returns-in_err-components-clause-reads
returns-in_err-components-clause-reads c =
    let p = err_from_is_err_and c.from_residual.result c.from_residual.ensures.1 in
    rw (p.1, p.2) (record_fails_first c.args.parser.extent c.args.tokens.now c.components.result c.closed_by-components.result c.in_err-components.field-0.0 (λ v. v.items) c.components.ensures.reads c.components.ensures.shorter c.closed_by-components.ensures c.in_err-components.ensures)

pub returns-in_err-components-clause-shorter : goal.returns-in_err-components-clause-shorter
returns-in_err-components-clause-shorter c = rw ((err_from_is_err_and c.from_residual.result c.from_residual.ensures.1).1) tt

pub returns-clause-reads : goal.returns-clause-reads
returns-clause-reads c = record_read c.args.parser.extent c.args.tokens.now c.components.result c.closed_by-components.result c.in_ok-components.components c.in_ok-components.rest (λ v. v.items) c.from.result c.components.ensures.reads c.components.ensures.shorter c.closed_by-components.ensures c.in_ok-components.ensures c.from.ensures

pub returns-clause-shorter : goal.returns-clause-shorter
returns-clause-shorter c = omega (arith, (closed_below symbol.Record c.args.tokens.now c.closed_by-components.result (read_so c.in_ok-components.components c.in_ok-components.rest) (within_below c.args.tokens.now c.closed_by-components.result (closed_below symbol.End c.args.tokens.now c.components.result c.closed_by-components.result (within_below c.args.tokens.now c.components.result c.components.ensures.shorter) c.closed_by-components.ensures)) c.in_ok-components.ensures))
