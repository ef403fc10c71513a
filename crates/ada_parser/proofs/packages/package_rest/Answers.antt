use Rattle.std.proofs.Common.{arith}
use Rattle.std.proofs.lemmas.Result.{err_from_is_err_and}
use Rattle.expression_parser.specs.Shows.{Reads}
use Rattle.ada_parser.specs.UnitReading as read
use Rattle.ada_parser.specs.UnitDepth as at
use Rattle.ada_parser.proofs.Parts.{part_fails}
use Rattle.ada_parser.proofs.PackageCode.{package_read, package_items_fail, package_end_fail}
use Rattle.ada_parser.proofs.packages.package_rest.Goals as goal

pub returns-in_err-items-clause-reads : goal.returns-in_err-items-clause-reads
returns-in_err-items-clause-reads c =
    let p = err_from_is_err_and c.from_residual.result c.from_residual.ensures.1 in
    rw (p.1, p.2) (part_fails (Reads (read.package_items_by c.args.parser.extent) c.args.tokens.now) (Reads (at.at_package c.args.parser.extent c.args.formals c.args.name) c.args.tokens.now) c.in_err-items.field-0.0 c.in_err-items.ensures.reads (λ rest h. package_items_fail c.args.parser.extent c.args.name c.args.formals c.args.tokens.now rest h))

pub returns-in_err-items-clause-shorter : goal.returns-in_err-items-clause-shorter
returns-in_err-items-clause-shorter c = rw ((err_from_is_err_and c.from_residual.result c.from_residual.ensures.1).1) tt

pub returns-in_err-end_name-clause-reads : goal.returns-in_err-end_name-clause-reads
returns-in_err-end_name-clause-reads c =
    let p = err_from_is_err_and c.from_residual-in_err-end_name.result c.from_residual-in_err-end_name.ensures.1 in
    rw (p.1, p.2) (part_fails (Reads at.at_end c.in_ok-items.rest.now) (Reads (at.at_package c.args.parser.extent c.args.formals c.args.name) c.args.tokens.now) c.in_err-end_name.field-0.0 c.in_err-end_name.ensures.reads (λ rest h. package_end_fail c.args.parser.extent c.args.name c.args.formals c.args.tokens.now c.in_ok-items.rest.now rest c.in_ok-items.items.items c.in_ok-items.ensures.reads c.in_ok-items.ensures.no_longer h))

pub returns-in_err-end_name-clause-shorter : goal.returns-in_err-end_name-clause-shorter
returns-in_err-end_name-clause-shorter c = rw ((err_from_is_err_and c.from_residual-in_err-end_name.result c.from_residual-in_err-end_name.ensures.1).1) tt

pub returns-clause-reads : goal.returns-clause-reads
returns-clause-reads c = rw c.from.ensures (package_read c.args.parser.extent c.args.name c.args.formals c.args.tokens.now c.in_ok-items.rest.now c.in_ok-end_name.rest.now c.in_ok-items.items.items c.in_ok-end_name.end_name c.in_ok-items.ensures.reads c.in_ok-items.ensures.no_longer c.in_ok-end_name.ensures.reads c.in_ok-end_name.ensures.shorter)

pub returns-clause-shorter : goal.returns-clause-shorter
returns-clause-shorter c = omega (arith, c.in_ok-items.ensures.no_longer, c.in_ok-end_name.ensures.shorter)
