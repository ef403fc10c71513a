use Rattle.std.proofs.Common.{length, ap, sym, arith}
use Rattle.std.proofs.lemmas.Result.{err_from_is_err_and}
use Rattle.expression_parser.specs.declared.symbol.Symbol.TheVariants as symbol
use Rattle.expression_parser.specs.Shows.{Reads}
use Rattle.expression_parser.proofs.NameCode.{after_some}
use Rattle.ada_parser.specs.UnitDepth as at
use Rattle.ada_parser.proofs.Parts.{part_fails}
use Rattle.declaration_parser.proofs.Pairs.{not_closed}
use Rattle.ada_parser.proofs.ItemCode.{specified_alone, not_specified, specified_body, specified_body_fail}
use Rattle.ada_parser.proofs.items.specified.Goals as goal

pub returns-in-Some-clause-reads : goal.returns-in-Some-clause-reads
returns-in-Some-clause-reads c = specified_alone c.args.parser.extent c.args.specification c.args.tokens.now c.in-Some.rest.now (sym c.in-Some.ensures)

pub returns-in-Some-clause-shorter : goal.returns-in-Some-clause-shorter
returns-in-Some-clause-shorter c = omega (arith, ap length (after_some symbol.Semicolon c.args.tokens.now c.in-Some.rest.now (sym c.in-Some.ensures)).here)

pub returns-in_err-specification-clause-reads : goal.returns-in_err-specification-clause-reads
returns-in_err-specification-clause-reads c =
    let x = c.args.parser.extent in
    let s = c.args.specification in
    let ts = c.args.tokens.now in
    let p = err_from_is_err_and c.from_residual.result c.from_residual.ensures.1 in
    rw (p.1, p.2) (not_closed (Reads (at.at_specified x s) ts) symbol.Is s c.args.tokens c.in_err-specification.field-0.0 c.in_err-specification.ensures (λ rest w. not_specified x s ts rest (sym c.in_default.ensures) w))

pub returns-in_err-specification-clause-shorter : goal.returns-in_err-specification-clause-shorter
returns-in_err-specification-clause-shorter c = rw ((err_from_is_err_and c.from_residual.result c.from_residual.ensures.1).1) tt

pub returns-in_err-body-clause-reads : goal.returns-in_err-body-clause-reads
returns-in_err-body-clause-reads c =
    let x = c.args.parser.extent in
    let s = c.args.specification in
    let z = c.in_ok-specification.specification in
    let ts = c.args.tokens.now in
    let us = c.in_ok-specification.rest.now in
    let k = c.in_ok-specification.ensures in
    let p = err_from_is_err_and c.from_residual-in_err-body.result c.from_residual-in_err-body.ensures.1 in
    rw (p.1, p.2) (part_fails (Reads (at.at_body_rest x z) us) (Reads (at.at_specified x s) ts) c.in_err-body.field-0.0 c.in_err-body.ensures.reads (λ rest r. specified_body_fail x s z k.0 ts us rest (sym c.in_default.ensures) k.1 r))

pub returns-in_err-body-clause-shorter : goal.returns-in_err-body-clause-shorter
returns-in_err-body-clause-shorter c = rw ((err_from_is_err_and c.from_residual-in_err-body.result c.from_residual-in_err-body.ensures.1).1) tt

pub returns-clause-reads : goal.returns-clause-reads
returns-clause-reads c =
    let k = c.in_ok-specification.ensures in
    specified_body c.args.parser.extent c.args.specification c.in_ok-specification.specification k.0 c.args.tokens.now c.in_ok-specification.rest.now c.in_ok-body.rest.now c.in_ok-body.body (sym c.in_default.ensures) k.1 c.in_ok-body.ensures.reads c.in_ok-body.ensures.shorter

pub returns-clause-shorter : goal.returns-clause-shorter
returns-clause-shorter c = omega (arith, c.in_ok-specification.ensures.1.shorter, c.in_ok-body.ensures.shorter)
