-- Decisions of statements, as the checker keeps them.
use Rattle.std.specs.Prelude.{◌≡◌, option_map, Result}
use Rattle.cov_base.specs.declared.position.Pos.{Pos}
use Rattle.cov_base.specs.declared.failure.Failure.{Failure}
use Rattle.ada_meaning.specs.Tree as tree
use Rattle.ada_tree.specs.declared.label.Label.{Label}
use Rattle.ada_tree.specs.declared.statement.Decision.{Decision}
use Rattle.ada_tree.specs.View.{label_of}
use Rattle.ada_rules.specs.Plan.{answer_at}
use Rattle.ada_rules.specs.Environment.{typed_rule, State, given}
use Rattle.ada_rules.specs.Denoted.{test_of, tested}
use Rattle.ada_rules.specs.Expressions.{measured}
use Rattle.ada_entities.specs.declared.fault.Refusal.{Refusal}
use Rattle.ada_entities.specs.Answers.{Answers}
use Rattle.ada_entities.specs.EntityViews.{Tables}
use Rattle.ada_judged.specs.declared.judged.Judged.{Judged}
use Rattle.ada_judged.specs.JudgedView.{judged_of}
use Rattle.ada_phrases.specs.declared.decisions.Decisions.{Decisions}
use Rattle.ada_phrases.specs.declared.scope.Step.{Step}
use Rattle.ada_phrases.specs.Answers.{counted}
use Rattle.ada_phrases.specs.Scopes.{step_of}

abbrev pub decision_of : Tables → Decision → tree.Label × tree.Test
decision_of k d = (label_of d.label, d.test)

-- an expression as a test, whether it is Boolean or not
abbrev pub IsAnyDecision : Label → Judged → Decision → Type 0
IsAnyDecision l x d = (k : Tables) → decision_of k d ≡ (label_of l, test_of (judged_of k x).at (judged_of k x).form)

-- The decision of a statement that begins at this place, with its label. It begins at the place of that.
abbrev pub IsDecision : (old new : Decisions) → Step → Pos → Label → Judged → Result Decision (Failure Refusal) → Type 0
IsDecision old new step p l x result =
    (k : Tables) (s : State)
    → Answers (λ d. given (decision_of k d) (counted new s))
    (answer_at p (typed_rule (step_of step)
    (given (label_of l, test_of (judged_of k x).at (judged_of k x).form) (counted old s))
    (option_map (λ t. given (label_of l, t) (measured l.place t (counted old s)))
    (tested (judged_of k x)))).outcome) result
