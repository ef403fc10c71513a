use Rattle.std.proofs.Common.{◌≤◌, length, Some, arith}
use Rattle.std.proofs.lemmas.Result.{err_from_is_err_and}
use Rattle.expression_parser.specs.declared.symbol.Symbol.TheVariants as symbol
use Rattle.expression_parser.specs.Shows.{Reads}
use Rattle.declaration_parser.specs.FormalReading.{formals_by}
use Rattle.ada_parser.specs.UnitReading as read
use Rattle.ada_parser.specs.UnitDepth as at
use Rattle.ada_parser.proofs.Parts.{before_word, word_fails, before_name, name_word_fails, shown_so}
use Rattle.declaration_parser.proofs.Closings.{below_behind}
use Rattle.ada_parser.proofs.PackageCode.{generic_then, generic_fail, generic_no_package, generic_no_name, generic_no_is, generic_at}
use Rattle.ada_parser.proofs.packages.generic.Goals as goal

pub returns-in_err-formals-clause-reads : goal.returns-in_err-formals-clause-reads
returns-in_err-formals-clause-reads c =
    let p = err_from_is_err_and c.from_residual.result c.from_residual.ensures.1 in
    rw (p.1, p.2) (word_fails (λ v. v.items) (formals_by c.args.parser.extent) (λ n. n ≤ length c.args.tokens.now) symbol.Package c.args.tokens.now (Reads (read.generic_by c.args.parser.extent) c.args.tokens.now) (λ rest h. generic_fail c.args.parser.extent c.args.tokens.now rest h) c.formals.result c.in_err-formals.field-0.0 c.formals.ensures.reads c.formals.ensures.no_longer c.in_err-formals.ensures (λ v us rest h l e. generic_no_package c.args.parser.extent c.args.tokens.now us rest v.items h l e))

pub returns-in_err-formals-clause-shorter : goal.returns-in_err-formals-clause-shorter
returns-in_err-formals-clause-shorter c = rw ((err_from_is_err_and c.from_residual.result c.from_residual.ensures.1).1) tt

pub returns-in_err-name-clause-reads : goal.returns-in_err-name-clause-reads
returns-in_err-name-clause-reads c =
    let w = before_word (λ v. v.items) (formals_by c.args.parser.extent) (λ n. n ≤ length c.args.tokens.now) symbol.Package c.args.tokens.now c.formals.result c.in_ok-formals.formals c.in_ok-formals.rest c.formals.ensures.reads c.formals.ensures.no_longer c.in_ok-formals.ensures in
    let p = err_from_is_err_and c.from_residual-in_err-name.result c.from_residual-in_err-name.ensures.1 in
    rw (p.1, p.2) (name_word_fails (Reads (read.generic_by c.args.parser.extent) c.args.tokens.now) c.in_ok-formals.rest.now (λ rest e. generic_no_name c.args.parser.extent c.args.tokens.now w.before c.in_ok-formals.rest.now rest c.in_ok-formals.formals.items w.reads w.near w.word e) symbol.Is c.identifier.result c.in_err-name.field-0.0 c.identifier.ensures c.in_err-name.ensures (λ i us rest h e. generic_no_is c.args.parser.extent c.args.tokens.now w.before c.in_ok-formals.rest.now us rest c.in_ok-formals.formals.items i w.reads w.near w.word h e))

pub returns-in_err-name-clause-shorter : goal.returns-in_err-name-clause-shorter
returns-in_err-name-clause-shorter c = rw ((err_from_is_err_and c.from_residual-in_err-name.result c.from_residual-in_err-name.ensures.1).1) tt

pub returns-clause-reads : goal.returns-clause-reads
returns-clause-reads c =
    let w = before_word (λ v. v.items) (formals_by c.args.parser.extent) (λ n. n ≤ length c.args.tokens.now) symbol.Package c.args.tokens.now c.formals.result c.in_ok-formals.formals c.in_ok-formals.rest c.formals.ensures.reads c.formals.ensures.no_longer c.in_ok-formals.ensures in
    let n = before_name symbol.Is c.in_ok-formals.rest.now c.identifier.result c.in_ok-name.name c.in_ok-name.rest c.identifier.ensures c.in_ok-name.ensures in
    shown_so (λ z. z) (Reads (at.at_package c.args.parser.extent (Some c.from.result) c.in_ok-name.name) c.in_ok-name.rest.now) (Reads (read.generic_by c.args.parser.extent) c.args.tokens.now) c.package_rest.result c.package_rest.ensures.reads (λ q f. generic_then c.args.parser.extent c.args.tokens.now w.before c.in_ok-formals.rest.now n.before c.in_ok-name.rest.now c.in_ok-formals.formals.items c.in_ok-name.name q w.reads w.near w.word n.name n.word (generic_at c.args.parser.extent c.from.result c.in_ok-formals.formals.items c.in_ok-name.name c.in_ok-name.rest.now q c.from.ensures f))

pub returns-clause-shorter : goal.returns-clause-shorter
returns-clause-shorter c =
    let w = before_word (λ v. v.items) (formals_by c.args.parser.extent) (λ n. n ≤ length c.args.tokens.now) symbol.Package c.args.tokens.now c.formals.result c.in_ok-formals.formals c.in_ok-formals.rest c.formals.ensures.reads c.formals.ensures.no_longer c.in_ok-formals.ensures in
    let n = before_name symbol.Is c.in_ok-formals.rest.now c.identifier.result c.in_ok-name.name c.in_ok-name.rest c.identifier.ensures c.in_ok-name.ensures in
    below_behind c.args.tokens.now c.in_ok-name.rest.now c.package_rest.result (omega (arith, w.near, w.word.shorter, n.name.shorter, n.word.shorter)) c.package_rest.ensures.shorter
