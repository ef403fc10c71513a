-- Choices of handlers, as the checker keeps them.
use Rattle.std.specs.Prelude.{◌≡◌, Bool, true, false, List, map, Option, Result}
use Rattle.cov_base.specs.declared.position.Pos.{Pos}
use Rattle.cov_base.specs.declared.failure.Failure.{Failure}
use Rattle.ada_meaning.specs.Tree as tree
use Rattle.ada_tree.specs.declared.statement.ExceptionChoice.{ExceptionChoice}
use Rattle.ada_tree.specs.View.{exception_choice_of}
use Rattle.ada_rules.specs.Environment.{State, given, Env}
use Rattle.ada_rules.specs.Statements.{caught, where_allowed}
use Rattle.ada_syntax.specs.declared.statement.ExceptionChoice.TheVariants as taken
use Rattle.ada_entities.specs.declared.fault.Refusal.{Refusal}
use Rattle.ada_entities.specs.Answers.{Answers}
use Rattle.ada_entities.specs.EntityViews.{Tables}
use Rattle.ada_phrases.specs.declared.scope.Step.{Step}
use Rattle.ada_phrases.specs.Scopes.{step_of}
use Rattle.statement_parts.specs.declared.caught.OthersPlace.{OthersPlace}
use Rattle.statement_parts.specs.declared.caught.OthersPlace.TheVariants as place

abbrev pub may_be_others : OthersPlace → Bool
may_be_others place.AloneInLast = true
may_be_others place.Elsewhere = false

-- `others`, where it is allowed
abbrev pub others_choice : Bool → Option tree.ExceptionChoice
others_choice b = where_allowed b tree.other_exceptions

-- choices are the same wherever numbers lead
abbrev pub caught_in : Tables → ExceptionChoice → tree.ExceptionChoice
caught_in k c = exception_choice_of c

abbrev pub all_caught_in : Tables → List ExceptionChoice → List tree.ExceptionChoice
all_caught_in k cs = map exception_choice_of cs

-- `others` at a place of the text
abbrev pub IsOthers : Step → Pos → OthersPlace → Result ExceptionChoice (Failure Refusal) → Type 0
IsOthers step p o result =
    (k : Tables) (env : Env) (s : State) → env.step ≡ step_of step
    → Answers (λ c. given (caught_in k c) s) (caught env s (may_be_others o) (taken.Others p)).answer result
