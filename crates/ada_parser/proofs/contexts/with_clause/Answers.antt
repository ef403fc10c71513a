use Rattle.std.proofs.Common.{◌<◌, length, arith}
use Rattle.std.proofs.lemmas.Result.{err_from_is_err_and}
use Rattle.expression_parser.specs.declared.symbol.Symbol.TheVariants as symbol
use Rattle.expression_parser.specs.Shows.{Reads}
use Rattle.declaration_parser.specs.Identifiers.{identifiers_by}
use Rattle.ada_parser.specs.UnitReading as read
use Rattle.ada_parser.proofs.Parts.{before_word, word_fails}
use Rattle.ada_parser.proofs.ContextCode.{with_read, with_fail, with_open}
use Rattle.ada_parser.proofs.contexts.with_clause.Goals as goal

pub returns-in_err-names-clause-reads : goal.returns-in_err-names-clause-reads
returns-in_err-names-clause-reads c =
    let p = err_from_is_err_and c.from_residual.result c.from_residual.ensures.1 in
    rw (p.1, p.2) (word_fails (λ v. v.items) identifiers_by (λ n. n < length c.args.tokens.now) symbol.Semicolon c.args.tokens.now (Reads read.with_by c.args.tokens.now) (λ rest h. with_fail c.args.tokens.now rest h) c.identifiers.result c.in_err-names.field-0.0 c.identifiers.ensures.reads c.identifiers.ensures.shorter c.in_err-names.ensures (λ v us rest h l n. with_open c.args.tokens.now us rest v.items h l n))

pub returns-in_err-names-clause-shorter : goal.returns-in_err-names-clause-shorter
returns-in_err-names-clause-shorter c = rw ((err_from_is_err_and c.from_residual.result c.from_residual.ensures.1).1) tt

pub returns-clause-reads : goal.returns-clause-reads
returns-clause-reads c =
    let w = before_word (λ v. v.items) identifiers_by (λ n. n < length c.args.tokens.now) symbol.Semicolon c.args.tokens.now c.identifiers.result c.in_ok-names.names c.in_ok-names.rest c.identifiers.ensures.reads c.identifiers.ensures.shorter c.in_ok-names.ensures in
    rw c.from-names.ensures (with_read c.args.tokens.now w.before c.in_ok-names.rest.now c.in_ok-names.names.items w.reads w.near w.word)

pub returns-clause-shorter : goal.returns-clause-shorter
returns-clause-shorter c =
    let w = before_word (λ v. v.items) identifiers_by (λ n. n < length c.args.tokens.now) symbol.Semicolon c.args.tokens.now c.identifiers.result c.in_ok-names.names c.in_ok-names.rest c.identifiers.ensures.reads c.identifiers.ensures.shorter c.in_ok-names.ensures in
    omega (arith, w.near, w.word.shorter)
