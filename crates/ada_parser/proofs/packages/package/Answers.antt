use Rattle.std.proofs.Common.{sym, ap, length, arith}
use Rattle.std.proofs.lemmas.Result.{err_from_is_err_and}
use Rattle.expression_parser.specs.declared.symbol.Symbol.TheVariants as symbol
use Rattle.expression_parser.specs.Shows.{Reads}
use Rattle.expression_parser.proofs.NameCode.{after_some}
use Rattle.ada_parser.specs.UnitReading as read
use Rattle.ada_parser.specs.UnitDepth as at
use Rattle.ada_parser.proofs.Parts.{before_name, name_word_fails, shown_so}
use Rattle.declaration_parser.proofs.Closings.{below_behind}
use Rattle.ada_parser.proofs.PackageCode.{is_body, named_then, named_fail, named_no_is}
use Rattle.ada_parser.proofs.packages.package.Goals as goal

pub returns-in-Some-clause-reads : goal.returns-in-Some-clause-reads
returns-in-Some-clause-reads c = shown_so (λ z. z) (Reads (read.package_body_by c.args.parser.extent) c.in-Some.rest.now) (Reads (read.package_by c.args.parser.extent) c.args.tokens.now) c.package_body.result c.package_body.ensures.reads (λ q. is_body c.args.parser.extent c.args.tokens.now c.in-Some.rest.now q (sym c.in-Some.ensures))

pub returns-in-Some-clause-shorter : goal.returns-in-Some-clause-shorter
returns-in-Some-clause-shorter c = below_behind c.args.tokens.now c.in-Some.rest.now c.package_body.result (omega (arith, ap length (after_some symbol.Body c.args.tokens.now c.in-Some.rest.now (sym c.in-Some.ensures)).here)) c.package_body.ensures.shorter

pub returns-in_err-name-clause-reads : goal.returns-in_err-name-clause-reads
returns-in_err-name-clause-reads c =
    let p = err_from_is_err_and c.from_residual.result c.from_residual.ensures.1 in
    rw (p.1, p.2) (name_word_fails (Reads (read.package_by c.args.parser.extent) c.args.tokens.now) c.args.tokens.now (λ rest e. named_fail c.args.parser.extent c.args.tokens.now rest (sym c.in_default.ensures) e) symbol.Is c.identifier.result c.in_err-name.field-0.0 c.identifier.ensures c.in_err-name.ensures (λ i us rest h e. named_no_is c.args.parser.extent c.args.tokens.now us rest i (sym c.in_default.ensures) h e))

pub returns-in_err-name-clause-shorter : goal.returns-in_err-name-clause-shorter
returns-in_err-name-clause-shorter c = rw ((err_from_is_err_and c.from_residual.result c.from_residual.ensures.1).1) tt

pub returns-clause-reads : goal.returns-clause-reads
returns-clause-reads c =
    let n = before_name symbol.Is c.args.tokens.now c.identifier.result c.in_ok-name.name c.in_ok-name.rest c.identifier.ensures c.in_ok-name.ensures in
    shown_so (λ z. z) (Reads (at.at_package_or_instance c.args.parser.extent c.in_ok-name.name) c.in_ok-name.rest.now) (Reads (read.package_by c.args.parser.extent) c.args.tokens.now) c.package_or_instance.result c.package_or_instance.ensures.reads (λ q. named_then c.args.parser.extent c.args.tokens.now n.before c.in_ok-name.rest.now c.in_ok-name.name q (sym c.in_default.ensures) n.name n.word)

pub returns-clause-shorter : goal.returns-clause-shorter
returns-clause-shorter c =
    let n = before_name symbol.Is c.args.tokens.now c.identifier.result c.in_ok-name.name c.in_ok-name.rest c.identifier.ensures c.in_ok-name.ensures in
    below_behind c.args.tokens.now c.in_ok-name.rest.now c.package_or_instance.result (omega (arith, n.name.shorter, n.word.shorter)) c.package_or_instance.ensures.shorter
