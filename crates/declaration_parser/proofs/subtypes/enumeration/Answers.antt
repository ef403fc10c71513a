use Rattle.std.proofs.lemmas.Result.{err_from_is_err_and}
use Rattle.declaration_parser.proofs.SubtypeCode.{enumeration_fails_first, enumeration_read}
use Rattle.std.proofs.Common.{arith}
use Rattle.expression_parser.specs.declared.symbol.Symbol.TheVariants as symbol
use Rattle.declaration_parser.proofs.Closings.{closed_below, read_so, within_below}
use Rattle.declaration_parser.proofs.subtypes.enumeration.Goals as goal

pub returns-in_err-literals-clause-reads : goal.returns-in_err-literals-clause-reads
returns-in_err-literals-clause-reads c =
    let p = err_from_is_err_and c.from_residual.result c.from_residual.ensures.1 in
    rw (p.1, p.2) (enumeration_fails_first c.args.parser.extent c.args.tokens.now c.identifiers.result c.in_err-literals.field-0.0 (λ v. v.items) c.identifiers.ensures.reads c.identifiers.ensures.shorter c.in_err-literals.ensures)

pub returns-in_err-literals-clause-shorter : goal.returns-in_err-literals-clause-shorter
returns-in_err-literals-clause-shorter c = rw ((err_from_is_err_and c.from_residual.result c.from_residual.ensures.1).1) tt

pub returns-clause-reads : goal.returns-clause-reads
returns-clause-reads c = enumeration_read c.args.parser.extent c.args.tokens.now c.identifiers.result c.in_ok-literals.literals c.in_ok-literals.rest (λ v. v.items) c.from.result c.identifiers.ensures.reads c.identifiers.ensures.shorter c.in_ok-literals.ensures c.from.ensures

pub returns-clause-shorter : goal.returns-clause-shorter
returns-clause-shorter c = omega (arith, (closed_below symbol.RightParenthesis c.args.tokens.now c.identifiers.result (read_so c.in_ok-literals.literals c.in_ok-literals.rest) (within_below c.args.tokens.now c.identifiers.result c.identifiers.ensures.shorter) c.in_ok-literals.ensures))
