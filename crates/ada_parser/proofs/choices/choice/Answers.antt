use Rattle.std.proofs.Common.{◌≡◌, true, ap, length, refl, sym, ◌∙◌, arith}
use Rattle.std.proofs.lemmas.Bool.{false≢true}
use Rattle.std.proofs.lemmas.Result.{err_from_is_err_and}
use Rattle.expression_parser.specs.declared.symbol.Symbol.TheVariants as symbol
use Rattle.expression_parser.specs.Symbols.{symbol_of}
use Rattle.ada_syntax.specs.declared.statement.Choice.TheVariants as choice
use Rattle.expression_parser.specs.Reading.{Got}
use Rattle.expression_parser.specs.Shows.{Shows, Reads}
use Rattle.expression_parser.specs.Depth.{at_simple}
use Rattle.expression_parser.proofs.NameCode.{after_some}
use Rattle.ada_parser.specs.StatementReading as read
use Rattle.declaration_parser.proofs.Closings.{Below, read_so}
use Rattle.declaration_parser.proofs.Pairs.{pair_below, pair_done, pair_fault}
use Rattle.ada_parser.proofs.Parts.{part_fails}
use Rattle.ada_parser.proofs.FrontCode.{choice_fails, value_chosen, range_chosen, range_fails}
use Rattle.ada_parser.proofs.SimpleCode.{choice_rules}
use Rattle.ada_parser.proofs.choices.choice.Goals as goal

pub returns-in_default-clause-reads : goal.returns-in_default-clause-reads
returns-in_default-clause-reads c = grind (arith, choice_rules)

pub returns-then-eq-clause-reads : goal.returns-then-eq-clause-reads
returns-then-eq-clause-reads c = grind (arith, choice_rules)

pub returns-then-eq-clause-shorter : goal.returns-then-eq-clause-shorter
returns-then-eq-clause-shorter c = grind (arith, choice_rules)

pub returns-in_err-first-clause-reads : goal.returns-in_err-first-clause-reads
returns-in_err-first-clause-reads c =
    let x = c.args.parser.extent in
    let ts = c.args.tokens.now in
    let us = c.in-Some.rest.now in
    let t = c.in-Some.token.now in
    let front = c.in-Some.ensures.cases.0 in
    let off : (symbol_of c.in-Some.token.now.lexeme ≡ symbol.Others → ⊥) = (λ o.
    let is : c.symbol_in.result ≡ symbol.Others = c.symbol_in.ensures ∙ o in
    let yes : c.eq.result ≡ true = c.eq.ensures ∙ rw is refl in
    false≢true (sym c.if-eq.false ∙ yes)) in
    let p = err_from_is_err_and c.from_residual.result c.from_residual.ensures.1 in
    rw (p.1, p.2) (part_fails (Reads (at_simple x) ts) (Reads (read.choice_by x) ts) c.in_err-first.field-0.0 c.in_err-first.ensures.reads (λ rest r. choice_fails x ts us t front off rest r))

pub returns-in_err-first-clause-shorter : goal.returns-in_err-first-clause-shorter
returns-in_err-first-clause-shorter c =
    rw ((err_from_is_err_and c.from_residual.result c.from_residual.ensures.1).1) tt

pub returns-in_default-behind-clause-reads : goal.returns-in_default-behind-clause-reads
returns-in_default-behind-clause-reads c =
    let x = c.args.parser.extent in
    let ts = c.args.tokens.now in
    let us = c.in-Some.rest.now in
    let t = c.in-Some.token.now in
    let front = c.in-Some.ensures.cases.0 in
    let off : (symbol_of c.in-Some.token.now.lexeme ≡ symbol.Others → ⊥) = (λ o.
    let is : c.symbol_in.result ≡ symbol.Others = c.symbol_in.ensures ∙ o in
    let yes : c.eq.result ≡ true = c.eq.ensures ∙ rw is refl in
    false≢true (sym c.if-eq.false ∙ yes)) in
    value_chosen x ts us t front off c.in_ok-first.rest.now c.in_ok-first.first c.in_ok-first.ensures.reads c.in_ok-first.ensures.shorter (sym c.in_default-behind.ensures)

pub returns-in_default-behind-clause-shorter : goal.returns-in_default-behind-clause-shorter
returns-in_default-behind-clause-shorter c =
    c.in_ok-first.ensures.shorter

pub returns-in_err-low-clause-reads : goal.returns-in_err-low-clause-reads
returns-in_err-low-clause-reads c =
    let x = c.args.parser.extent in
    let ts = c.args.tokens.now in
    let us = c.in-Some.rest.now in
    let t = c.in-Some.token.now in
    let front = c.in-Some.ensures.cases.0 in
    let off : (symbol_of c.in-Some.token.now.lexeme ≡ symbol.Others → ⊥) = (λ o.
    let is : c.symbol_in.result ≡ symbol.Others = c.symbol_in.ensures ∙ o in
    let yes : c.eq.result ≡ true = c.eq.ensures ∙ rw is refl in
    false≢true (sym c.if-eq.false ∙ yes)) in
    let i = c.in_ok-first in
    let vs = c.in-Some-behind.after.now in
    let p = err_from_is_err_and c.from_residual-in_err-low.result c.from_residual-in_err-low.ensures.1 in
    rw (p.1, p.2) (pair_fault (λ r. Shows (Reads (at_simple x) vs) r) i.first (Reads (read.choice_by x) ts)
    (λ f k. part_fails (Reads (at_simple x) vs) (Reads (read.choice_by x) ts) f k (λ rest r. range_fails x ts us t front off i.rest.now vs rest i.first i.ensures.reads i.ensures.shorter (sym c.in-Some-behind.ensures) r))
    c.simple-2.result c.in_err-low.field-0.0 c.simple-2.ensures.reads c.in_err-low.ensures)

pub returns-in_err-low-clause-shorter : goal.returns-in_err-low-clause-shorter
returns-in_err-low-clause-shorter c =
    rw ((err_from_is_err_and c.from_residual-in_err-low.result c.from_residual-in_err-low.ensures.1).1) tt

pub returns-clause-reads : goal.returns-clause-reads
returns-clause-reads c =
    let x = c.args.parser.extent in
    let ts = c.args.tokens.now in
    let us = c.in-Some.rest.now in
    let t = c.in-Some.token.now in
    let front = c.in-Some.ensures.cases.0 in
    let off : (symbol_of c.in-Some.token.now.lexeme ≡ symbol.Others → ⊥) = (λ o.
    let is : c.symbol_in.result ≡ symbol.Others = c.symbol_in.ensures ∙ o in
    let yes : c.eq.result ≡ true = c.eq.ensures ∙ rw is refl in
    false≢true (sym c.if-eq.false ∙ yes)) in
    let i = c.in_ok-first in
    let vs = c.in-Some-behind.after.now in
    let k = c.in_ok-low in
    pair_done (λ r. Shows (Reads (at_simple x) vs) r × Below vs r) i.first (λ l h ws. Reads (read.choice_by x) ts (Got (choice.Range (record { low = l; high = h })) ws))
    (λ b ws e. range_chosen x ts us t front off i.rest.now vs ws.now i.first b i.ensures.reads i.ensures.shorter (sym c.in-Some-behind.ensures) e.0 e.1)
    c.simple-2.result k.low k.high k.rest (c.simple-2.ensures.reads, c.simple-2.ensures.shorter) k.ensures

pub returns-clause-shorter : goal.returns-clause-shorter
returns-clause-shorter c =
    let i = c.in_ok-first in
    let k = c.in_ok-low in
    let vs = c.in-Some-behind.after.now in
    let l = ap length (after_some symbol.DoubleDot i.rest.now vs (sym c.in-Some-behind.ensures)).here in
    pair_below (length vs) (length c.args.tokens.now) (omega (arith, i.ensures.shorter, l)) i.first c.simple-2.result (read_so (k.low, k.high) k.rest) c.simple-2.ensures.shorter k.ensures
