-- Bytes that are the expression of a decision.
use Rattle.std.specs.Prelude.{◌≡◌, ℕ, List, length}
use Rattle.std.specs.List.{AllByRecursion}
use Rattle.cov_base.specs.Expr.{Expr, size, IsPostfixOf}
use Rattle.object_format.specs.declared.object.Object.{Object}

-- the bytes are the postfix bytes of an expression with so many conditions
abbrev pub AreExpression : List ℕ → ℕ → Type 0
AreExpression bytes conditions = (e : Expr) × IsPostfixOf bytes e × (size e ≡ conditions)

-- the check `decision`
abbrev pub PassesDecision : Object → Type 0
PassesDecision o = AllByRecursion (λ d. AreExpression d.expression.postfix (length d.conditions)) o.obligations.decisions
