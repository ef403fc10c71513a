-- Decisions by themselves: where an expression opens one, its number is taken first, and its label is set last.
use Rattle.std.specs.Prelude.{◌≡◌, Bool, Option, Some, None, if◌then◌else◌}
use Rattle.cov_base.specs.declared.position.Pos.{Pos}
use Rattle.ada_meaning.specs.Tree as tree
use Rattle.ada_tree.specs.View.{label_of}
use Rattle.ada_tree.specs.declared.label.Label.{Label}
use Rattle.ada_rules.specs.Environment.{Step, naming, typing, State, Given, given, decision_label}
use Rattle.ada_rules.specs.Denoted as rules
use Rattle.ada_rules.specs.Denoted.{test_of}
use Rattle.ada_rules.specs.Expressions.{Role, itself, operand, labelled, measured}
use Rattle.ada_entities.specs.EntityViews.{Tables}
use Rattle.ada_judged.specs.declared.judged.Judged.{Judged}
use Rattle.ada_judged.specs.JudgedView.{judged_of}
use Rattle.ada_phrases.specs.declared.circuits.Role.{Role as CodeRole}
use Rattle.ada_phrases.specs.declared.circuits.Role.TheVariants as role
use Rattle.ada_phrases.specs.declared.decisions.Decisions.{Decisions}
use Rattle.ada_phrases.specs.Answers.{counted}

abbrev pub role_of : CodeRole → Role
role_of role.Itself = itself
role_of role.Operand = operand

-- the label of an expression that begins at this place, where it is a decision of its own
abbrev pub label_if : Bool → State → Pos → Option tree.Label
label_if is_open s p = if is_open then Some (decision_label s p) else None

-- the decision with its label, where it has one
abbrev pub closing : Option tree.Label → Pos → Given rules.Judged → Given rules.Judged
closing None p g = g
closing (Some l) p g = given (labelled l g.value) (measured p (test_of g.value.at g.value.form) g.next)

-- the step of names goes on with something that is no decision
abbrev pub closing_in : Step → Option tree.Label → Pos → Given rules.Judged → Given rules.Judged
closing_in naming l p g = g
closing_in typing l p g = closing l p g

-- a decision is no object
abbrev pub IsClosable : Option tree.Label → rules.Judged → Type 0
IsClosable None x = Unit
IsClosable (Some l) x = x.variable ≡ None

-- the expression of a decision with this test, which was measured, from these decisions to those
abbrev pub IsDecisionOf : (old new : Decisions) → Label → Pos → tree.Test → tree.Expr → Type 0
IsDecisionOf old new l p t e =
    (e ≡ tree.decision (label_of l) t) × ((s : State) → counted new s ≡ measured p t (counted old s))

-- an expression that was closed, from these decisions to those
abbrev pub IsClosed : (old new : Decisions) → (own closed : Judged) → (Given rules.Judged → Given rules.Judged)
    → Option tree.Label → Type 0
IsClosed old new own closed f l =
    (k : Tables) (s : State) → IsClosable l (judged_of k own)
    → given (judged_of k closed) (counted new s) ≡ f (given (judged_of k own) (counted old s))
