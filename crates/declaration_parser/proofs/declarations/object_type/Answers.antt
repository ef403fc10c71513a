use Rattle.std.proofs.lemmas.Result.{err_from_is_err_and}
use Rattle.expression_parser.specs.Shows.{Reads}
use Rattle.declaration_parser.specs.DeclarationReading as read
use Rattle.declaration_parser.specs.Closing.{Closes}
use Rattle.declaration_parser.proofs.DeclarationCode.{object_type_fails_first, object_type_fails_second, object_type_read}
use Rattle.std.proofs.Common.{length, arith}
use Rattle.expression_parser.specs.declared.symbol.Symbol.TheVariants as symbol
use Rattle.declaration_parser.proofs.Closings.{closed_below}
use Rattle.declaration_parser.proofs.Pairs.{pair_below, pair_shows}
use Rattle.declaration_parser.proofs.declarations.object_type.Goals as goal

pub returns-in_err-indication-clause-reads : goal.returns-in_err-indication-clause-reads
returns-in_err-indication-clause-reads c =
    let p = err_from_is_err_and c.from_residual.result c.from_residual.ensures.1 in
    rw (p.1, p.2) (object_type_fails_first c.args.parser.extent c.args.tokens.now c.in_err-indication.field-0.0 c.in_err-indication.ensures.reads)

pub returns-in_err-indication-clause-shorter : goal.returns-in_err-indication-clause-shorter
returns-in_err-indication-clause-shorter c = rw ((err_from_is_err_and c.from_residual.result c.from_residual.ensures.1).1) tt

pub returns-clause-reads : goal.returns-clause-reads
returns-clause-reads c =
    let x = c.args.parser.extent in
    let ts = c.args.tokens.now in
    let i = c.in_ok-indication in
    let p = c.initial_part in
    pair_shows (λ r. Closes symbol.Semicolon p.result r) i.indication (Reads (read.object_type_by x) ts) (λ f k. object_type_fails_second x ts i.indication i.rest p.result f i.ensures.reads i.ensures.shorter p.ensures.reads p.ensures.no_longer k)
    (λ z. z) (λ v us k. object_type_read x ts i.indication i.rest p.result v us i.ensures.reads i.ensures.shorter p.ensures.reads p.ensures.no_longer k) c.closed_by-value.result c.paired.result c.closed_by-value.ensures c.paired.ensures

pub returns-clause-shorter : goal.returns-clause-shorter
returns-clause-shorter c =
    let i = c.in_ok-indication in
    let p = c.initial_part in
    pair_below (length i.rest.now) (length c.args.tokens.now) (omega (arith, i.ensures.shorter)) i.indication c.closed_by-value.result c.paired.result
    (closed_below symbol.Semicolon i.rest.now p.result c.closed_by-value.result p.ensures.no_longer c.closed_by-value.ensures) c.paired.ensures
