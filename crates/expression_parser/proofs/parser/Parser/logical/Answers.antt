use Rattle.std.proofs.Common.{◌≡◌, Some, sym, ap, ◌∙◌}
use Rattle.expression_parser.specs.Extents.{opens}
use Rattle.expression_parser.specs.Symbols.{symbol_of}
use Rattle.expression_parser.specs.Operators.{joining}
use Rattle.expression_parser.proofs.OperatorLaws.{joins, joins_nothing, joins_closed, joins_closed_pair}
use Rattle.expression_parser.proofs.parser.Parser.logical.Goals as goal

pub returns-in_default-joining : goal.returns-in_default-joining
returns-in_default-joining c =
    let us = c.in-Some.rest.now in
    rw c.in-Some.ensures.cases.0 (joins_nothing c.args.self.extent c.in-Some.token.now us (ap (λ s. joining s us) (sym c.symbol_in.ensures) ∙ sym c.in_default-joining.ensures))

pub returns-then-not-opens : goal.returns-then-not-opens
returns-then-not-opens c =
    let x = c.args.self.extent in
    let us = c.in-Some.rest.now in
    let op = c.in-Some-joining.operator in
    let vs = c.in-Some-joining.after.now in
    let joined : joining (symbol_of c.in-Some.token.now.lexeme) us ≡ Some (op, vs) = ap (λ s. joining s us) (sym c.symbol_in.ensures) ∙ sym c.in-Some-joining.ensures in
    rw c.in-Some.ensures.cases.0 (joins_closed x c.in-Some.token.now us (op, vs) joined (sym c.opens.ensures ∙ c.if-not-opens.true))

pub returns-then-not-opens-2 : goal.returns-then-not-opens-2
returns-then-not-opens-2 c =
    let x = c.args.self.extent in
    let us = c.in-Some.rest.now in
    let op = c.in-Some-joining.operator in
    let vs = c.in-Some-joining.after.now in
    let joined : joining (symbol_of c.in-Some.token.now.lexeme) us ≡ Some (op, vs) = ap (λ s. joining s us) (sym c.symbol_in.ensures) ∙ sym c.in-Some-joining.ensures in
    rw c.in-Some.ensures.cases.0 (joins_closed_pair x c.in-Some.token.now us (op, vs) joined (sym c.opens.ensures ∙ c.if-not-opens.false)
    (ap (λ e. opens x e) (sym c.extent_of.ensures) ∙ (sym c.opens-2.ensures ∙ c.if-not-opens-2.true)))

pub returns : goal.returns
returns c =
    let x = c.args.self.extent in
    let us = c.in-Some.rest.now in
    let op = c.in-Some-joining.operator in
    let vs = c.in-Some-joining.after.now in
    let joined : joining (symbol_of c.in-Some.token.now.lexeme) us ≡ Some (op, vs) = ap (λ s. joining s us) (sym c.symbol_in.ensures) ∙ sym c.in-Some-joining.ensures in
    rw c.in-Some.ensures.cases.0 (joins x c.in-Some.token.now us (op, vs) joined (sym c.opens.ensures ∙ c.if-not-opens.false)
    (ap (λ e. opens x e) (sym c.extent_of.ensures) ∙ (sym c.opens-2.ensures ∙ c.if-not-opens-2.false)))
