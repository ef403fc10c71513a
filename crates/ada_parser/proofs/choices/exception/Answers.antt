use Rattle.std.proofs.Common.{◌≡◌, true, refl, sym, ◌∙◌, arith}
use Rattle.std.proofs.lemmas.Bool.{false≢true}
use Rattle.std.proofs.lemmas.Result.{err_from_is_err_and}
use Rattle.expression_parser.specs.declared.symbol.Symbol.TheVariants as symbol
use Rattle.expression_parser.specs.Symbols.{symbol_of}
use Rattle.expression_parser.specs.Shows.{Reads}
use Rattle.expression_parser.specs.Depth.{at_name}
use Rattle.ada_parser.specs.StatementReading as read
use Rattle.ada_parser.proofs.Parts.{part_fails}
use Rattle.ada_parser.proofs.FrontCode.{exception_named, exception_fails}
use Rattle.ada_parser.proofs.SimpleCode.{exception_rules}
use Rattle.ada_parser.proofs.choices.exception.Goals as goal

pub returns-in_default-clause-reads : goal.returns-in_default-clause-reads
returns-in_default-clause-reads c = grind (arith, exception_rules)

pub returns-then-eq-clause-reads : goal.returns-then-eq-clause-reads
returns-then-eq-clause-reads c = grind (arith, exception_rules)

pub returns-then-eq-clause-shorter : goal.returns-then-eq-clause-shorter
returns-then-eq-clause-shorter c = grind (arith, exception_rules)

pub returns-in_err-name-clause-reads : goal.returns-in_err-name-clause-reads
returns-in_err-name-clause-reads c =
    let x = c.args.parser.extent in
    let ts = c.args.tokens.now in
    let us = c.in-Some.rest.now in
    let t = c.in-Some.token.now in
    let front = c.in-Some.ensures.cases.0 in
    let off : (symbol_of c.in-Some.token.now.lexeme ≡ symbol.Others → ⊥) = (λ o.
    let is : c.symbol_in.result ≡ symbol.Others = c.symbol_in.ensures ∙ o in
    let yes : c.eq.result ≡ true = c.eq.ensures ∙ rw is refl in
    false≢true (sym c.if-eq.false ∙ yes)) in
    let p = err_from_is_err_and c.from_residual.result c.from_residual.ensures.1 in
    rw (p.1, p.2) (part_fails (Reads (at_name x) ts) (Reads (read.exception_by x) ts) c.in_err-name.field-0.0 c.in_err-name.ensures.reads (λ rest r. exception_fails x ts us t front off rest r))

pub returns-in_err-name-clause-shorter : goal.returns-in_err-name-clause-shorter
returns-in_err-name-clause-shorter c =
    rw ((err_from_is_err_and c.from_residual.result c.from_residual.ensures.1).1) tt

pub returns-clause-reads : goal.returns-clause-reads
returns-clause-reads c =
    let x = c.args.parser.extent in
    let ts = c.args.tokens.now in
    let us = c.in-Some.rest.now in
    let t = c.in-Some.token.now in
    let front = c.in-Some.ensures.cases.0 in
    let off : (symbol_of c.in-Some.token.now.lexeme ≡ symbol.Others → ⊥) = (λ o.
    let is : c.symbol_in.result ≡ symbol.Others = c.symbol_in.ensures ∙ o in
    let yes : c.eq.result ≡ true = c.eq.ensures ∙ rw is refl in
    false≢true (sym c.if-eq.false ∙ yes)) in
    exception_named x ts us t front off c.in_ok-name.rest.now c.in_ok-name.name c.in_ok-name.ensures.reads c.in_ok-name.ensures.shorter

pub returns-clause-shorter : goal.returns-clause-shorter
returns-clause-shorter c =
    c.in_ok-name.ensures.shorter
