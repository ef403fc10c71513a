use Rattle.std.proofs.Common.{arith}
use Rattle.std.proofs.lemmas.Result.{err_from_is_err_and}
use Rattle.expression_parser.specs.declared.symbol.Symbol.TheVariants as symbol
use Rattle.expression_parser.specs.Shows.{Reads}
use Rattle.ada_parser.specs.UnitReading as read
use Rattle.ada_parser.specs.UnitDepth as at
use Rattle.ada_parser.proofs.Parts.{before_name, name_word_fails, part_fails}
use Rattle.ada_parser.proofs.PackageCode.{package_body_read, package_body_fail, package_body_no_is, package_body_items_fail, package_body_end_fail}
use Rattle.ada_parser.proofs.packages.package_body.Goals as goal

pub returns-in_err-name-clause-reads : goal.returns-in_err-name-clause-reads
returns-in_err-name-clause-reads c =
    let p = err_from_is_err_and c.from_residual.result c.from_residual.ensures.1 in
    rw (p.1, p.2) (name_word_fails (Reads (read.package_body_by c.args.parser.extent) c.args.tokens.now) c.args.tokens.now (λ rest e. package_body_fail c.args.parser.extent c.args.tokens.now rest e) symbol.Is c.identifier.result c.in_err-name.field-0.0 c.identifier.ensures c.in_err-name.ensures (λ i us rest h e. package_body_no_is c.args.parser.extent c.args.tokens.now us rest i h e))

pub returns-in_err-name-clause-shorter : goal.returns-in_err-name-clause-shorter
returns-in_err-name-clause-shorter c = rw ((err_from_is_err_and c.from_residual.result c.from_residual.ensures.1).1) tt

pub returns-in_err-items-clause-reads : goal.returns-in_err-items-clause-reads
returns-in_err-items-clause-reads c =
    let n = before_name symbol.Is c.args.tokens.now c.identifier.result c.in_ok-name.name c.in_ok-name.rest c.identifier.ensures c.in_ok-name.ensures in
    let p = err_from_is_err_and c.from_residual-in_err-items.result c.from_residual-in_err-items.ensures.1 in
    rw (p.1, p.2) (part_fails (Reads (read.body_items_by c.args.parser.extent) c.in_ok-name.rest.now) (Reads (read.package_body_by c.args.parser.extent) c.args.tokens.now) c.in_err-items.field-0.0 c.in_err-items.ensures.reads (λ rest h. package_body_items_fail c.args.parser.extent c.args.tokens.now n.before c.in_ok-name.rest.now rest c.in_ok-name.name n.name n.word h))

pub returns-in_err-items-clause-shorter : goal.returns-in_err-items-clause-shorter
returns-in_err-items-clause-shorter c = rw ((err_from_is_err_and c.from_residual-in_err-items.result c.from_residual-in_err-items.ensures.1).1) tt

pub returns-in_err-end_name-clause-reads : goal.returns-in_err-end_name-clause-reads
returns-in_err-end_name-clause-reads c =
    let n = before_name symbol.Is c.args.tokens.now c.identifier.result c.in_ok-name.name c.in_ok-name.rest c.identifier.ensures c.in_ok-name.ensures in
    let p = err_from_is_err_and c.from_residual-in_err-end_name.result c.from_residual-in_err-end_name.ensures.1 in
    rw (p.1, p.2) (part_fails (Reads at.at_end c.in_ok-items.rest.now) (Reads (read.package_body_by c.args.parser.extent) c.args.tokens.now) c.in_err-end_name.field-0.0 c.in_err-end_name.ensures.reads (λ rest h. package_body_end_fail c.args.parser.extent c.args.tokens.now n.before c.in_ok-name.rest.now c.in_ok-items.rest.now rest c.in_ok-name.name c.in_ok-items.items.items n.name n.word c.in_ok-items.ensures.reads c.in_ok-items.ensures.no_longer h))

pub returns-in_err-end_name-clause-shorter : goal.returns-in_err-end_name-clause-shorter
returns-in_err-end_name-clause-shorter c = rw ((err_from_is_err_and c.from_residual-in_err-end_name.result c.from_residual-in_err-end_name.ensures.1).1) tt

pub returns-clause-reads : goal.returns-clause-reads
returns-clause-reads c =
    let n = before_name symbol.Is c.args.tokens.now c.identifier.result c.in_ok-name.name c.in_ok-name.rest c.identifier.ensures c.in_ok-name.ensures in
    rw c.from.ensures (package_body_read c.args.parser.extent c.args.tokens.now n.before c.in_ok-name.rest.now c.in_ok-items.rest.now c.in_ok-end_name.rest.now c.in_ok-name.name c.in_ok-items.items.items c.in_ok-end_name.end_name n.name n.word c.in_ok-items.ensures.reads c.in_ok-items.ensures.no_longer c.in_ok-end_name.ensures.reads c.in_ok-end_name.ensures.shorter)

pub returns-clause-shorter : goal.returns-clause-shorter
returns-clause-shorter c =
    let n = before_name symbol.Is c.args.tokens.now c.identifier.result c.in_ok-name.name c.in_ok-name.rest c.identifier.ensures c.in_ok-name.ensures in
    omega (arith, n.name.shorter, n.word.shorter, c.in_ok-items.ensures.no_longer, c.in_ok-end_name.ensures.shorter)
