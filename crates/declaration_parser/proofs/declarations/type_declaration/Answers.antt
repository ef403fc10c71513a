use Rattle.std.proofs.lemmas.Result.{err_from_is_err_and}
use Rattle.declaration_parser.proofs.DeclarationCode.{type_fails_first, type_fails_second, type_read}
use Rattle.std.proofs.Common.{arith}
use Rattle.expression_parser.specs.declared.symbol.Symbol.TheVariants as symbol
use Rattle.declaration_parser.proofs.Closings.{closed_below, named_within, read_so, within_below}
use Rattle.declaration_parser.proofs.declarations.type_declaration.Goals as goal

pub returns-in_err-name-clause-reads : goal.returns-in_err-name-clause-reads
returns-in_err-name-clause-reads c =
    let p = err_from_is_err_and c.from_residual.result c.from_residual.ensures.1 in
    rw (p.1, p.2) (type_fails_first c.args.parser.extent c.args.tokens.now c.identifier.result c.in_err-name.field-0.0 c.identifier.ensures c.in_err-name.ensures)

pub returns-in_err-name-clause-shorter : goal.returns-in_err-name-clause-shorter
returns-in_err-name-clause-shorter c = rw ((err_from_is_err_and c.from_residual.result c.from_residual.ensures.1).1) tt

pub returns-in_err-definition-clause-reads : goal.returns-in_err-definition-clause-reads
returns-in_err-definition-clause-reads c =
    let p = err_from_is_err_and c.from_residual-in_err-definition.result c.from_residual-in_err-definition.ensures.1 in
    rw (p.1, p.2) (type_fails_second c.args.parser.extent c.args.tokens.now c.identifier.result c.in_ok-name.name c.in_ok-name.rest c.definition.result c.in_err-definition.field-0.0 c.identifier.ensures c.in_ok-name.ensures c.definition.ensures.reads c.definition.ensures.shorter c.in_err-definition.ensures)

pub returns-in_err-definition-clause-shorter : goal.returns-in_err-definition-clause-shorter
returns-in_err-definition-clause-shorter c = rw ((err_from_is_err_and c.from_residual-in_err-definition.result c.from_residual-in_err-definition.ensures.1).1) tt

pub returns-clause-reads : goal.returns-clause-reads
returns-clause-reads c = type_read c.args.parser.extent c.args.tokens.now c.identifier.result c.in_ok-name.name c.in_ok-name.rest c.definition.result c.in_ok-definition.definition c.in_ok-definition.rest c.identifier.ensures c.in_ok-name.ensures c.definition.ensures.reads c.definition.ensures.shorter c.in_ok-definition.ensures

pub returns-clause-shorter : goal.returns-clause-shorter
returns-clause-shorter c = omega (arith, (closed_below symbol.Is c.args.tokens.now c.identifier.result (read_so c.in_ok-name.name c.in_ok-name.rest) (named_within c.args.tokens.now c.identifier.result c.identifier.ensures) c.in_ok-name.ensures), (closed_below symbol.Semicolon c.in_ok-name.rest.now c.definition.result (read_so c.in_ok-definition.definition c.in_ok-definition.rest) (within_below c.in_ok-name.rest.now c.definition.result c.definition.ensures.shorter) c.in_ok-definition.ensures))
