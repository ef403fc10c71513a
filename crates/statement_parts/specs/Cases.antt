-- Case statements behind their alternatives, as the checker makes them.
use Rattle.std.specs.Prelude.{◌≡◌, List, map, Option, Some, None, if◌then◌else◌, Result}
use Rattle.cov_base.specs.declared.position.Pos.{Pos}
use Rattle.cov_base.specs.declared.failure.Failure.{Failure}
use Rattle.ada_meaning.specs.Tree as tree
use Rattle.ada_tree.specs.declared.label.Label.{Label}
use Rattle.ada_tree.specs.declared.statement.Alternative.{Alternative}
use Rattle.ada_tree.specs.View.{label_of, choice_of}
use Rattle.ada_rules.specs.Plan.{Outcome, ruled, answer_at}
use Rattle.ada_rules.specs.Statics.{Spans, covers}
use Rattle.ada_rules.specs.Environment.{typed_rule, demanded, State, Given, given, Env}
use Rattle.ada_rules.specs.Statements as rules
use Rattle.ada_rules.specs.Statements.{one, case_of}
use Rattle.ada_entities.specs.declared.fault.Refusal.{Refusal}
use Rattle.ada_entities.specs.Answers.{Answers}
use Rattle.ada_entities.specs.declared.entity.Values.{Values}
use Rattle.ada_entities.specs.EntityViews.{Tables, values_of}
use Rattle.ada_demands.specs.declared.statics.Statics.{Statics}
use Rattle.ada_demands.specs.StaticsViews.{noted}
use Rattle.ada_phrases.specs.Scopes.{step_of}
use Rattle.object_values.specs.program_walk.specs.declared.place.Place.{Place}
use Rattle.statement_parts.specs.declared.selectors.Selector.{Selector}
use Rattle.statement_parts.specs.Selectors.{selector_in}
use Rattle.statement_parts.specs.Simple.{in_tree, in_program}

-- an alternative, whose statements are unfolded from the checker's table
abbrev pub arm_in : Tables → Alternative → rules.Arm
arm_in k a = record { choices = map choice_of a.choices; statements = map (in_tree k) a.statements.items }

abbrev pub arms_in : Tables → List Alternative → List rules.Arm
arms_in k arms = map (arm_in k) arms

-- that each value is named once, by alternatives that end with `others` where it is there
abbrev pub covering : Env → Pos → Spans → List rules.Arm → State → Option State
covering env p v arms s =
    if rules.ends_with_others arms
    then Some (demanded env p (covers v (rules.has_others (rules.choices_in arms)) (rules.choices_in arms)) s)
    else None

abbrev pub IsCovering : {A : Type 0} → Place → (old new : Statics) → Pos → Values → List Alternative
    → Result A (Failure Refusal) → Type 0
IsCovering place old new p v arms result =
    (k : Tables) (env : Env) (s : State) → env.generic ≡ place.generic
    → Answers (λ x. noted k new s)
    (answer_at p (ruled (covering env p (values_of k v) (arms_in k arms) (noted k old s)))) result

-- a case statement whose number was taken in this state
abbrev pub case_there : Tables → Env → (before : State) → Label → Selector → List Alternative → State
    → Option (Given (List tree.Stmt))
case_there k env before l x arms s = case_of env before l.place (selector_in k x) (given (arms_in k arms) s)

abbrev pub case_plan : Tables → Env → (before : State) → Label → Selector → List Alternative → State
    → Outcome (Given (List tree.Stmt))
case_plan k env before l x arms s =
    (typed_rule env.step (one (tree.null_statement (label_of l)) s) (case_there k env before l x arms s)).outcome

-- behind its alternatives, in the step of types
abbrev pub IsCaseOf : Place → (old new : Statics) → Label → Selector → List Alternative
    → Result tree.Stmt (Failure Refusal) → Type 0
IsCaseOf place old new l x arms result =
    (k : Tables) (env : Env) (before s : State) → env.generic ≡ place.generic → before.statements ≡ l.number
    → Answers (λ y. given (in_program k y) (noted k new s))
    (answer_at l.place (ruled (case_there k env before l x arms (noted k old s)))) result

-- and in both
abbrev pub IsCase : Place → (old new : Statics) → Label → Selector → List Alternative
    → Result tree.Stmt (Failure Refusal) → Type 0
IsCase place old new l x arms result =
    (k : Tables) (env : Env) (before s : State) → env.step ≡ step_of place.site.step → env.generic ≡ place.generic
    → before.statements ≡ l.number
    → Answers (λ y. given (in_program k y) (noted k new s))
    (answer_at l.place (case_plan k env before l x arms (noted k old s))) result
