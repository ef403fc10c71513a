use Rattle.std.proofs.Common.{◌≡◌, true, sym, ap, ◌∙◌, subst}
use Rattle.ada_syntax.specs.TreeView.{is_filled, has_operators, expr_at}
use Rattle.ada_rules.specs.Expressions.{is_circuit}
use Rattle.ada_phrases.proofs.Walks.{joined_circuit}
use Rattle.ada_phrases.proofs.Local.{other_circuit}
use Rattle.ada_phrases.proofs.circuits.+circuits.Goals as goal

pub is_circuit-returns-in-Logical : goal.is_circuit-returns-in-Logical
is_circuit-returns-in-Logical t c =
    let p = c.expr.inside.pos in
    let filled : is_filled c.in-Logical.field-2.items ≡ true = subst (λ k. has_operators k ≡ true) c.in-Logical.is c.expr.invariant in
    c.is_form.ensures
    ∙ (joined_circuit p c.in-Logical.operator c.in-Logical.field-1.value c.in-Logical.field-2.items filled
    ∙ ap is_circuit (ap (λ k. expr_at p k) (sym c.in-Logical.is) ∙ c.expr.view_is))

pub is_circuit-returns-in_default : goal.is_circuit-returns-in_default
is_circuit-returns-in_default t c =
    other_circuit c.expr.inside.pos c.expr.inside.kind c.expr.invariant c.in_default.not-Parenthesized c.in_default.not-Unary c.in_default.not-Logical
    ∙ ap is_circuit c.expr.view_is
