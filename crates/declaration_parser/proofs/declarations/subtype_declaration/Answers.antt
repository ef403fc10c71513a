use Rattle.std.proofs.lemmas.Result.{err_from_is_err_and}
use Rattle.declaration_parser.proofs.DeclarationCode.{subtype_fails_first, subtype_fails_second, subtype_read}
use Rattle.std.proofs.Common.{arith}
use Rattle.expression_parser.specs.declared.symbol.Symbol.TheVariants as symbol
use Rattle.declaration_parser.proofs.Closings.{closed_below, named_within, read_so, within_below}
use Rattle.declaration_parser.proofs.declarations.subtype_declaration.Goals as goal

pub returns-in_err-name-clause-reads : goal.returns-in_err-name-clause-reads
returns-in_err-name-clause-reads c =
    let p = err_from_is_err_and c.from_residual.result c.from_residual.ensures.1 in
    rw (p.1, p.2) (subtype_fails_first c.args.parser.extent c.args.tokens.now c.identifier.result c.in_err-name.field-0.0 c.identifier.ensures c.in_err-name.ensures)

pub returns-in_err-name-clause-shorter : goal.returns-in_err-name-clause-shorter
returns-in_err-name-clause-shorter c = rw ((err_from_is_err_and c.from_residual.result c.from_residual.ensures.1).1) tt

pub returns-in_err-indication-clause-reads : goal.returns-in_err-indication-clause-reads
returns-in_err-indication-clause-reads c =
    let p = err_from_is_err_and c.from_residual-in_err-indication.result c.from_residual-in_err-indication.ensures.1 in
    rw (p.1, p.2) (subtype_fails_second c.args.parser.extent c.args.tokens.now c.identifier.result c.in_ok-name.name c.in_ok-name.rest c.indication.result c.in_err-indication.field-0.0 c.identifier.ensures c.in_ok-name.ensures c.indication.ensures.reads c.indication.ensures.shorter c.in_err-indication.ensures)

pub returns-in_err-indication-clause-shorter : goal.returns-in_err-indication-clause-shorter
returns-in_err-indication-clause-shorter c = rw ((err_from_is_err_and c.from_residual-in_err-indication.result c.from_residual-in_err-indication.ensures.1).1) tt

pub returns-clause-reads : goal.returns-clause-reads
returns-clause-reads c = subtype_read c.args.parser.extent c.args.tokens.now c.identifier.result c.in_ok-name.name c.in_ok-name.rest c.indication.result c.in_ok-indication.indication c.in_ok-indication.rest c.identifier.ensures c.in_ok-name.ensures c.indication.ensures.reads c.indication.ensures.shorter c.in_ok-indication.ensures

pub returns-clause-shorter : goal.returns-clause-shorter
returns-clause-shorter c = omega (arith, (closed_below symbol.Is c.args.tokens.now c.identifier.result (read_so c.in_ok-name.name c.in_ok-name.rest) (named_within c.args.tokens.now c.identifier.result c.identifier.ensures) c.in_ok-name.ensures), (closed_below symbol.Semicolon c.in_ok-name.rest.now c.indication.result (read_so c.in_ok-indication.indication c.in_ok-indication.rest) (within_below c.in_ok-name.rest.now c.indication.result c.indication.ensures.shorter) c.in_ok-indication.ensures))
