use Rattle.std.proofs.Common.{◌≤◌, length, arith}
use Rattle.std.proofs.lemmas.Result.{err_from_is_err_and}
use Rattle.expression_parser.specs.declared.symbol.Symbol.TheVariants as symbol
use Rattle.expression_parser.specs.Shows.{Reads}
use Rattle.ada_parser.specs.StatementReading as read
use Rattle.ada_parser.specs.StatementDepth as at
use Rattle.ada_parser.proofs.Parts.{before_word, word_fails}
use Rattle.ada_parser.proofs.SimpleCode.{raise_read, raise_fail, raise_open}
use Rattle.ada_parser.proofs.simple.raise.Goals as goal

pub returns-in_err-name-clause-reads : goal.returns-in_err-name-clause-reads
returns-in_err-name-clause-reads c =
    let p = err_from_is_err_and c.from_residual.result c.from_residual.ensures.1 in
    rw (p.1, p.2) (word_fails (λ z. z) (read.raised_by c.args.parser.extent) (λ n. n ≤ length c.args.tokens.now) symbol.Semicolon c.args.tokens.now (Reads (at.at_raise c.args.parser.extent c.args.pos) c.args.tokens.now) (λ rest h. raise_fail c.args.parser.extent c.args.pos c.args.tokens.now rest h) c.raised.result c.in_err-name.field-0.0 c.raised.ensures.reads c.raised.ensures.no_longer c.in_err-name.ensures (λ v us rest h l e. raise_open c.args.parser.extent c.args.pos c.args.tokens.now us rest v h l e))

pub returns-in_err-name-clause-shorter : goal.returns-in_err-name-clause-shorter
returns-in_err-name-clause-shorter c = rw ((err_from_is_err_and c.from_residual.result c.from_residual.ensures.1).1) tt

pub returns-clause-reads : goal.returns-clause-reads
returns-clause-reads c =
    let w = before_word (λ z. z) (read.raised_by c.args.parser.extent) (λ n. n ≤ length c.args.tokens.now) symbol.Semicolon c.args.tokens.now c.raised.result c.in_ok-name.name c.in_ok-name.rest c.raised.ensures.reads c.raised.ensures.no_longer c.in_ok-name.ensures in
    raise_read c.args.parser.extent c.args.pos c.args.tokens.now w.before c.in_ok-name.rest.now c.in_ok-name.name w.reads w.near w.word

pub returns-clause-shorter : goal.returns-clause-shorter
returns-clause-shorter c =
    let w = before_word (λ z. z) (read.raised_by c.args.parser.extent) (λ n. n ≤ length c.args.tokens.now) symbol.Semicolon c.args.tokens.now c.raised.result c.in_ok-name.name c.in_ok-name.rest c.raised.ensures.reads c.raised.ensures.no_longer c.in_ok-name.ensures in
    omega (arith, w.near, w.word.shorter)
