use Rattle.std.proofs.lemmas.Result.{err_from_is_err_and}
use Rattle.declaration_parser.proofs.SubtypeCode.{component_fails_first, component_fails_second, component_read}
use Rattle.std.proofs.Common.{arith}
use Rattle.expression_parser.specs.declared.symbol.Symbol.TheVariants as symbol
use Rattle.declaration_parser.proofs.Closings.{closed_below, read_so, within_below}
use Rattle.declaration_parser.proofs.subtypes.component.Goals as goal

pub returns-in_err-names-clause-reads : goal.returns-in_err-names-clause-reads
returns-in_err-names-clause-reads c =
    let p = err_from_is_err_and c.from_residual.result c.from_residual.ensures.1 in
    rw (p.1, p.2) (component_fails_first c.args.parser.extent c.args.tokens.now c.identifiers.result c.in_err-names.field-0.0 (λ v. v.items) c.identifiers.ensures.reads c.identifiers.ensures.shorter c.in_err-names.ensures)

pub returns-in_err-names-clause-shorter : goal.returns-in_err-names-clause-shorter
returns-in_err-names-clause-shorter c = rw ((err_from_is_err_and c.from_residual.result c.from_residual.ensures.1).1) tt

pub returns-in_err-indication-clause-reads : goal.returns-in_err-indication-clause-reads
returns-in_err-indication-clause-reads c =
    let p = err_from_is_err_and c.from_residual-in_err-indication.result c.from_residual-in_err-indication.ensures.1 in
    rw (p.1, p.2) (component_fails_second c.args.parser.extent c.args.tokens.now c.identifiers.result c.in_ok-names.names c.in_ok-names.rest (λ v. v.items) c.indication.result c.in_err-indication.field-0.0 c.identifiers.ensures.reads c.identifiers.ensures.shorter c.in_ok-names.ensures c.indication.ensures.reads c.indication.ensures.shorter c.in_err-indication.ensures)

pub returns-in_err-indication-clause-shorter : goal.returns-in_err-indication-clause-shorter
returns-in_err-indication-clause-shorter c = rw ((err_from_is_err_and c.from_residual-in_err-indication.result c.from_residual-in_err-indication.ensures.1).1) tt

pub returns-clause-reads : goal.returns-clause-reads
returns-clause-reads c = component_read c.args.parser.extent c.args.tokens.now c.identifiers.result c.in_ok-names.names c.in_ok-names.rest (λ v. v.items) c.indication.result c.in_ok-indication.indication c.in_ok-indication.rest c.from-names.result c.identifiers.ensures.reads c.identifiers.ensures.shorter c.in_ok-names.ensures c.indication.ensures.reads c.indication.ensures.shorter c.in_ok-indication.ensures c.from-names.ensures

pub returns-clause-shorter : goal.returns-clause-shorter
returns-clause-shorter c = omega (arith, (closed_below symbol.Colon c.args.tokens.now c.identifiers.result (read_so c.in_ok-names.names c.in_ok-names.rest) (within_below c.args.tokens.now c.identifiers.result c.identifiers.ensures.shorter) c.in_ok-names.ensures), (closed_below symbol.Semicolon c.in_ok-names.rest.now c.indication.result (read_so c.in_ok-indication.indication c.in_ok-indication.rest) (within_below c.in_ok-names.rest.now c.indication.result c.indication.ensures.shorter) c.in_ok-indication.ensures))
