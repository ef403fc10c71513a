use Rattle.std.proofs.Common.{◌<◌, length, None, ap, sym, ◌∙◌, arith}
use Rattle.std.proofs.lemmas.Result.{err_from_is_err_and}
use Rattle.expression_parser.specs.declared.symbol.Symbol.TheVariants as symbol
use Rattle.expression_parser.specs.Shows.{Reads}
use Rattle.expression_parser.proofs.NameCode.{after_some}
use Rattle.declaration_parser.specs.SubtypeReading.{initial_by}
use Rattle.declaration_parser.proofs.Closings.{closed_below, read_so}
use Rattle.ada_parser.specs.SimpleReading.{named_statement}
use Rattle.ada_parser.specs.StatementDepth as at
use Rattle.ada_parser.proofs.Parts.{before_word, word_fails, word_after}
use Rattle.ada_parser.proofs.NamedCode.{becomes_closed, assigned, assigned_fail, assigned_open, called, call_open}
use Rattle.ada_parser.proofs.simple.name_rest.Goals as goal

pub returns-then-not-opens-clause-reads : goal.returns-then-not-opens-clause-reads
returns-then-not-opens-clause-reads c = λ pos n. becomes_closed c.args.parser.extent pos n c.args.tokens.now c.in-Some.after.now (sym c.in-Some.ensures) (sym c.opens.ensures ∙ c.if-not-opens.true)

pub returns-in_err-value-clause-reads : goal.returns-in_err-value-clause-reads
returns-in_err-value-clause-reads c =
    let x = c.args.parser.extent in
    let ts = c.args.tokens.now in
    let us = c.in-Some.after.now in
    let e = sym c.in-Some.ensures in
    let o = (sym c.opens.ensures ∙ c.if-not-opens.false) in
    let p = err_from_is_err_and c.from_residual.result c.from_residual.ensures.1 in
    rw (p.1, p.2) (λ pos n. word_fails (λ z. z) (initial_by x) (λ k. k < length us) symbol.Semicolon us (Reads (at.at_name_rest x pos n) ts) (λ rest h. assigned_fail x pos n ts us rest e o h)
    c.initial.result c.in_err-value.field-0.0 c.initial.ensures.reads c.initial.ensures.shorter c.in_err-value.ensures (λ i vs rest h l k. assigned_open x pos n ts us vs rest i e o h l k))

pub returns-in_err-value-clause-shorter : goal.returns-in_err-value-clause-shorter
returns-in_err-value-clause-shorter c = rw ((err_from_is_err_and c.from_residual.result c.from_residual.ensures.1).1) tt

pub returns-in-Some-clause-reads : goal.returns-in-Some-clause-reads
returns-in-Some-clause-reads c =
    let x = c.args.parser.extent in
    let ts = c.args.tokens.now in
    let us = c.in-Some.after.now in
    let w = before_word (λ z. z) (initial_by x) (λ n. n < length us) symbol.Semicolon us c.initial.result c.in_ok-value.value c.in_ok-value.rest c.initial.ensures.reads c.initial.ensures.shorter c.in_ok-value.ensures in
    λ pos n. assigned x pos n ts us w.before c.in_ok-value.rest.now c.in_ok-value.value (sym c.in-Some.ensures) (sym c.opens.ensures ∙ c.if-not-opens.false) w.reads w.near w.word

pub returns-in-Some-clause-shorter : goal.returns-in-Some-clause-shorter
returns-in-Some-clause-shorter c =
    let us = c.in-Some.after.now in
    let w = before_word (λ z. z) (initial_by c.args.parser.extent) (λ n. n < length us) symbol.Semicolon us c.initial.result c.in_ok-value.value c.in_ok-value.rest c.initial.ensures.reads c.initial.ensures.shorter c.in_ok-value.ensures in
    omega (arith, w.near, w.word.shorter, ap length (after_some symbol.Becomes c.args.tokens.now us (sym c.in-Some.ensures)).here)

pub returns-clause-reads : goal.returns-clause-reads
returns-clause-reads c =
    let x = c.args.parser.extent in
    let ts = c.args.tokens in
    let e = sym c.in_default.ensures in
    λ pos n. word_after (named_statement pos n) (Reads (at.at_name_rest x pos n) ts.now) symbol.Semicolon None ts c.closed_by-2.result c.closed_by-2.ensures (λ rest k. called x pos n ts.now rest e k) (λ rest k. call_open x pos n ts.now rest e k)

pub returns-clause-shorter : goal.returns-clause-shorter
returns-clause-shorter c = closed_below symbol.Semicolon c.args.tokens.now (read_so None c.args.tokens) c.closed_by-2.result (omega arith) c.closed_by-2.ensures
