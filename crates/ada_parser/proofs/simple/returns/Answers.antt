use Rattle.std.proofs.Common.{◌≤◌, length, arith}
use Rattle.std.proofs.lemmas.Result.{err_from_is_err_and}
use Rattle.expression_parser.specs.declared.symbol.Symbol.TheVariants as symbol
use Rattle.expression_parser.specs.Shows.{Reads}
use Rattle.ada_parser.specs.StatementReading as read
use Rattle.ada_parser.specs.StatementDepth as at
use Rattle.ada_parser.proofs.Parts.{before_word, word_fails}
use Rattle.ada_parser.proofs.SimpleCode.{return_read, return_fail, return_open}
use Rattle.ada_parser.proofs.simple.returns.Goals as goal

pub returns-in_err-value-clause-reads : goal.returns-in_err-value-clause-reads
returns-in_err-value-clause-reads c =
    let p = err_from_is_err_and c.from_residual.result c.from_residual.ensures.1 in
    rw (p.1, p.2) (word_fails (λ z. z) (read.result_by c.args.parser.extent) (λ n. n ≤ length c.args.tokens.now) symbol.Semicolon c.args.tokens.now (Reads (at.at_return c.args.parser.extent c.args.pos) c.args.tokens.now) (λ rest h. return_fail c.args.parser.extent c.args.pos c.args.tokens.now rest h) c.result_value.result c.in_err-value.field-0.0 c.result_value.ensures.reads c.result_value.ensures.no_longer c.in_err-value.ensures (λ v us rest h l e. return_open c.args.parser.extent c.args.pos c.args.tokens.now us rest v h l e))

pub returns-in_err-value-clause-shorter : goal.returns-in_err-value-clause-shorter
returns-in_err-value-clause-shorter c = rw ((err_from_is_err_and c.from_residual.result c.from_residual.ensures.1).1) tt

pub returns-clause-reads : goal.returns-clause-reads
returns-clause-reads c =
    let w = before_word (λ z. z) (read.result_by c.args.parser.extent) (λ n. n ≤ length c.args.tokens.now) symbol.Semicolon c.args.tokens.now c.result_value.result c.in_ok-value.value c.in_ok-value.rest c.result_value.ensures.reads c.result_value.ensures.no_longer c.in_ok-value.ensures in
    return_read c.args.parser.extent c.args.pos c.args.tokens.now w.before c.in_ok-value.rest.now c.in_ok-value.value w.reads w.near w.word

pub returns-clause-shorter : goal.returns-clause-shorter
returns-clause-shorter c =
    let w = before_word (λ z. z) (read.result_by c.args.parser.extent) (λ n. n ≤ length c.args.tokens.now) symbol.Semicolon c.args.tokens.now c.result_value.result c.in_ok-value.value c.in_ok-value.rest c.result_value.ensures.reads c.result_value.ensures.no_longer c.in_ok-value.ensures in
    omega (arith, w.near, w.word.shorter)
