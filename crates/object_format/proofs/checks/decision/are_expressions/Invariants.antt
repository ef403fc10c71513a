use Rattle.std.proofs.Common.{◌↔◌, drop, length}
use Rattle.std.specs.List.{AllByRecursion}
use Rattle.object_format.specs.Decisions.{AreExpression}
use Rattle.object_format.proofs.checks.decision.are_expressions.Given as goal

abbrev pub invariant-loop-decision : goal.invariant-loop-decision
invariant-loop-decision l =
    AllByRecursion (λ d. AreExpression d.expression.postfix (length d.conditions)) (drop l.decision-index l.decisions)
    ↔ AllByRecursion (λ d. AreExpression d.expression.postfix (length d.conditions)) l.decisions
