use Rattle.std.proofs.Common.{◌≡◌, true, refl, sym, ◌∙◌, arith}
use Rattle.std.proofs.lemmas.Bool.{false≢true}
use Rattle.std.proofs.lemmas.Result.{err_from_is_err_and}
use Rattle.expression_parser.specs.declared.symbol.Symbol.TheVariants as symbol
use Rattle.expression_parser.specs.Symbols.{symbol_of}
use Rattle.expression_parser.specs.Shows.{Reads}
use Rattle.expression_parser.specs.Depth.{at_expr}
use Rattle.ada_parser.specs.StatementReading as read
use Rattle.ada_parser.proofs.Parts.{part_fails}
use Rattle.ada_parser.proofs.FrontCode.{value_closed, value_fails, value_given}
use Rattle.ada_parser.proofs.SimpleCode.{result_rules}
use Rattle.ada_parser.proofs.simple.result_value.Goals as goal

pub returns-in_default-clause-reads : goal.returns-in_default-clause-reads
returns-in_default-clause-reads c = grind (arith, result_rules)

pub returns-in_default-clause-no_longer : goal.returns-in_default-clause-no_longer
returns-in_default-clause-no_longer c = grind (arith, result_rules)

pub returns-then-eq-clause-reads : goal.returns-then-eq-clause-reads
returns-then-eq-clause-reads c = grind (arith, result_rules)

pub returns-then-eq-clause-no_longer : goal.returns-then-eq-clause-no_longer
returns-then-eq-clause-no_longer c = grind (arith, result_rules)

pub returns-then-not-opens-clause-reads : goal.returns-then-not-opens-clause-reads
returns-then-not-opens-clause-reads c =
    let x = c.args.parser.extent in
    let ts = c.args.tokens.now in
    let us = c.in-Some.field-0-1.now in
    let t = c.in-Some.token.now in
    let front = c.in-Some.ensures.cases.0 in
    let off : (symbol_of c.in-Some.token.now.lexeme ≡ symbol.Semicolon → ⊥) = (λ o.
    let is : c.symbol_in.result ≡ symbol.Semicolon = c.symbol_in.ensures ∙ o in
    let yes : c.eq.result ≡ true = c.eq.ensures ∙ rw is refl in
    false≢true (sym c.if-eq.false ∙ yes)) in
    value_closed x ts us t front off (sym c.opens.ensures ∙ c.if-not-opens.true)

pub returns-in_err-value-clause-reads : goal.returns-in_err-value-clause-reads
returns-in_err-value-clause-reads c =
    let x = c.args.parser.extent in
    let ts = c.args.tokens.now in
    let us = c.in-Some.field-0-1.now in
    let t = c.in-Some.token.now in
    let front = c.in-Some.ensures.cases.0 in
    let off : (symbol_of c.in-Some.token.now.lexeme ≡ symbol.Semicolon → ⊥) = (λ o.
    let is : c.symbol_in.result ≡ symbol.Semicolon = c.symbol_in.ensures ∙ o in
    let yes : c.eq.result ≡ true = c.eq.ensures ∙ rw is refl in
    false≢true (sym c.if-eq.false ∙ yes)) in
    let p = err_from_is_err_and c.from_residual.result c.from_residual.ensures.1 in
    rw (p.1, p.2) (part_fails (Reads (at_expr x) ts) (Reads (read.result_by x) ts) c.in_err-value.field-0.0 c.in_err-value.ensures.reads (λ rest r. value_fails x ts us t front off rest (sym c.opens.ensures ∙ c.if-not-opens.false) r))

pub returns-in_err-value-clause-no_longer : goal.returns-in_err-value-clause-no_longer
returns-in_err-value-clause-no_longer c =
    rw ((err_from_is_err_and c.from_residual.result c.from_residual.ensures.1).1) tt

pub returns-clause-reads : goal.returns-clause-reads
returns-clause-reads c =
    let x = c.args.parser.extent in
    let ts = c.args.tokens.now in
    let us = c.in-Some.field-0-1.now in
    let t = c.in-Some.token.now in
    let front = c.in-Some.ensures.cases.0 in
    let off : (symbol_of c.in-Some.token.now.lexeme ≡ symbol.Semicolon → ⊥) = (λ o.
    let is : c.symbol_in.result ≡ symbol.Semicolon = c.symbol_in.ensures ∙ o in
    let yes : c.eq.result ≡ true = c.eq.ensures ∙ rw is refl in
    false≢true (sym c.if-eq.false ∙ yes)) in
    value_given x ts us t front off c.in_ok-value.rest.now c.in_ok-value.value (sym c.opens.ensures ∙ c.if-not-opens.false) c.in_ok-value.ensures.reads c.in_ok-value.ensures.shorter

pub returns-clause-no_longer : goal.returns-clause-no_longer
returns-clause-no_longer c =
    omega (arith, c.in_ok-value.ensures.shorter)
