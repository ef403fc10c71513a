use Rattle.std.proofs.Common.{◌≤◌, length, arith}
use Rattle.std.proofs.lemmas.Result.{err_from_is_err_and}
use Rattle.expression_parser.specs.declared.symbol.Symbol.TheVariants as symbol
use Rattle.expression_parser.specs.Shows.{Reads}
use Rattle.ada_parser.specs.StatementReading as read
use Rattle.ada_parser.specs.StatementDepth as at
use Rattle.ada_parser.proofs.Parts.{before_word, word_fails}
use Rattle.ada_parser.proofs.SimpleCode.{exit_read, exit_fail, exit_open}
use Rattle.ada_parser.proofs.simple.exit.Goals as goal

pub returns-in_err-condition-clause-reads : goal.returns-in_err-condition-clause-reads
returns-in_err-condition-clause-reads c =
    let p = err_from_is_err_and c.from_residual.result c.from_residual.ensures.1 in
    rw (p.1, p.2) (word_fails (λ z. z) (read.condition_by c.args.parser.extent) (λ n. n ≤ length c.args.tokens.now) symbol.Semicolon c.args.tokens.now (Reads (at.at_exit c.args.parser.extent c.args.pos) c.args.tokens.now) (λ rest h. exit_fail c.args.parser.extent c.args.pos c.args.tokens.now rest h) c.condition.result c.in_err-condition.field-0.0 c.condition.ensures.reads c.condition.ensures.no_longer c.in_err-condition.ensures (λ v us rest h l e. exit_open c.args.parser.extent c.args.pos c.args.tokens.now us rest v h l e))

pub returns-in_err-condition-clause-shorter : goal.returns-in_err-condition-clause-shorter
returns-in_err-condition-clause-shorter c = rw ((err_from_is_err_and c.from_residual.result c.from_residual.ensures.1).1) tt

pub returns-clause-reads : goal.returns-clause-reads
returns-clause-reads c =
    let w = before_word (λ z. z) (read.condition_by c.args.parser.extent) (λ n. n ≤ length c.args.tokens.now) symbol.Semicolon c.args.tokens.now c.condition.result c.in_ok-condition.condition c.in_ok-condition.rest c.condition.ensures.reads c.condition.ensures.no_longer c.in_ok-condition.ensures in
    exit_read c.args.parser.extent c.args.pos c.args.tokens.now w.before c.in_ok-condition.rest.now c.in_ok-condition.condition w.reads w.near w.word

pub returns-clause-shorter : goal.returns-clause-shorter
returns-clause-shorter c =
    let w = before_word (λ z. z) (read.condition_by c.args.parser.extent) (λ n. n ≤ length c.args.tokens.now) symbol.Semicolon c.args.tokens.now c.condition.result c.in_ok-condition.condition c.in_ok-condition.rest c.condition.ensures.reads c.condition.ensures.no_longer c.in_ok-condition.ensures in
    omega (arith, w.near, w.word.shorter)
