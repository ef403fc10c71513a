use Rattle.std.proofs.Common.{◌≤◌, length, arith}
use Rattle.std.proofs.lemmas.Result.{err_from_is_err_and}
use Rattle.expression_parser.specs.declared.symbol.Symbol.TheVariants as symbol
use Rattle.expression_parser.specs.Shows.{Reads}
use Rattle.ada_parser.specs.UnitReading as read
use Rattle.ada_parser.specs.UnitDepth as at
use Rattle.ada_parser.proofs.Parts.{before_word, word_fails, name_fails}
use Rattle.ada_parser.proofs.PackageCode.{instance_read, instance_fail, instance_actuals_fail, instance_open}
use Rattle.ada_parser.proofs.packages.instance.Goals as goal

pub returns-in_err-generic_name-clause-reads : goal.returns-in_err-generic_name-clause-reads
returns-in_err-generic_name-clause-reads c =
    let p = err_from_is_err_and c.from_residual.result c.from_residual.ensures.1 in
    rw (p.1, p.2) (name_fails (Reads (at.at_instance c.args.parser.extent c.args.name) c.args.tokens.now) c.args.tokens.now (λ rest e. instance_fail c.args.parser.extent c.args.name c.args.tokens.now rest e) c.in_err-generic_name.field-0.0 c.in_err-generic_name.ensures)

pub returns-in_err-generic_name-clause-shorter : goal.returns-in_err-generic_name-clause-shorter
returns-in_err-generic_name-clause-shorter c = rw ((err_from_is_err_and c.from_residual.result c.from_residual.ensures.1).1) tt

pub returns-in_err-actuals-clause-reads : goal.returns-in_err-actuals-clause-reads
returns-in_err-actuals-clause-reads c =
    let p = err_from_is_err_and c.from_residual-in_err-actuals.result c.from_residual-in_err-actuals.ensures.1 in
    rw (p.1, p.2) (word_fails (λ v. v.items) (read.actuals_by c.args.parser.extent) (λ n. n ≤ length c.in_ok-generic_name.rest.now) symbol.Semicolon c.in_ok-generic_name.rest.now (Reads (at.at_instance c.args.parser.extent c.args.name) c.args.tokens.now) (λ rest h. instance_actuals_fail c.args.parser.extent c.args.name c.args.tokens.now c.in_ok-generic_name.rest.now rest c.in_ok-generic_name.generic_name c.in_ok-generic_name.ensures h) c.actuals.result c.in_err-actuals.field-0.0 c.actuals.ensures.reads c.actuals.ensures.no_longer c.in_err-actuals.ensures (λ v vs rest h l e. instance_open c.args.parser.extent c.args.name c.args.tokens.now c.in_ok-generic_name.rest.now vs rest c.in_ok-generic_name.generic_name v.items c.in_ok-generic_name.ensures h l e))

pub returns-in_err-actuals-clause-shorter : goal.returns-in_err-actuals-clause-shorter
returns-in_err-actuals-clause-shorter c = rw ((err_from_is_err_and c.from_residual-in_err-actuals.result c.from_residual-in_err-actuals.ensures.1).1) tt

pub returns-clause-reads : goal.returns-clause-reads
returns-clause-reads c =
    let w = before_word (λ v. v.items) (read.actuals_by c.args.parser.extent) (λ n. n ≤ length c.in_ok-generic_name.rest.now) symbol.Semicolon c.in_ok-generic_name.rest.now c.actuals.result c.in_ok-actuals.actuals c.in_ok-actuals.rest c.actuals.ensures.reads c.actuals.ensures.no_longer c.in_ok-actuals.ensures in
    rw c.from.ensures (instance_read c.args.parser.extent c.args.name c.args.tokens.now c.in_ok-generic_name.rest.now w.before c.in_ok-actuals.rest.now c.in_ok-generic_name.generic_name c.in_ok-actuals.actuals.items c.in_ok-generic_name.ensures w.reads w.near w.word)

pub returns-clause-shorter : goal.returns-clause-shorter
returns-clause-shorter c =
    let w = before_word (λ v. v.items) (read.actuals_by c.args.parser.extent) (λ n. n ≤ length c.in_ok-generic_name.rest.now) symbol.Semicolon c.in_ok-generic_name.rest.now c.actuals.result c.in_ok-actuals.actuals c.in_ok-actuals.rest c.actuals.ensures.reads c.actuals.ensures.no_longer c.in_ok-actuals.ensures in
    omega (arith, c.in_ok-generic_name.ensures.shorter, w.near, w.word.shorter)
