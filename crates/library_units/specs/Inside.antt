-- The inside of a body: its declarations, its statements and its end.
use Rattle.std.specs.Prelude.{◌≡◌, ℕ, Bool, List, Option, Some, None, Result, if◌then◌else◌}
use Rattle.cov_base.specs.declared.failure.Failure.{Failure}
use Rattle.ada_syntax.specs.declared.unit.SubprogramBody.{SubprogramBody}
use Rattle.ada_tree.specs.declared.program.Parameter.{Parameter as TreeParameter}
use Rattle.ada_rules.specs.Plan.{Plan, ◌>>=◌, answer_at}
use Rattle.ada_rules.specs.Entities.{Region, Parameter}
use Rattle.ada_rules.specs.Environment as rules_step
use Rattle.ada_rules.specs.Environment.{typed_rule, State, given, Env}
use Rattle.ada_rules.specs.Subprograms as rules
use Rattle.ada_rules.specs.Subprograms.{closed_by, declared_only, inside_body, body_judged, typed_parameters}
use Rattle.ada_entities.specs.Answers.{Answers}
use Rattle.ada_entities.specs.declared.fault.Refusal.{Refusal}
use Rattle.ada_entities.specs.EntityViews.{Tables}
use Rattle.ada_phrases.specs.Scopes.{step_of}
use Rattle.program_walk.specs.declared.context.Context.{Context}
use Rattle.program_walk.specs.declared.context.Returning.{Returning}
use Rattle.program_walk.specs.declared.walk.Walk.{Walk}
use Rattle.program_walk.specs.States.{state_of}
use Rattle.program_walk.specs.Walks.{Begins, StandsAt, returning_of}
use Rattle.unit_interfaces.specs.specifications.specs.Typed.{parameters_there}

-- the end of a body with this result, which comes to this state
abbrev pub ending : rules_step.Step → SubprogramBody → Option Parameter → State → Plan State
ending step b r made =
    closed_by b.specification.pos b.specification.name b.end_name
    >>= (λ end. typed_rule step made (if rules.may_end b r then Some made else None))

-- whether a body whose `return` gives this may end (RM 6.5)
abbrev pub IsEndAllowed : SubprogramBody → Returning → Bool → Type 0
IsEndAllowed b returning is_allowed =
    (k : Tables) (r : Option Parameter) → rules.returning_of r ≡ returning_of k returning
    → is_allowed ≡ rules.may_end b r

abbrev pub IsEnded : {A : Type 0} → Context → SubprogramBody → Result A (Failure Refusal) → Type 0
IsEnded c b result =
    (k : Tables) (r : Option Parameter) (made : State) → rules.returning_of r ≡ returning_of k c.returning
    → Answers (λ u. made) (answer_at b.specification.pos (ending (step_of c.step) b r made).outcome) result

-- The inside of a body comes to what the rules say of it, wherever it is declared; the objects of the subprogram round
-- it are counted as before.
abbrev pub ComesToInside : {A : Type 0} → Context → (old new : Walk) → List TreeParameter → SubprogramBody
    → Result A (Failure Refusal) → Type 0
ComesToInside c old new typed b result =
    (k : Tables) (env : Env) (before : State) (region : Region) (name : List ℕ) (q : rules.Profile)
    → StandsAt c old k (inside_body env region name q) → Begins new k
    → parameters_there k typed ≡ typed_parameters 0 q.parameters
    → Answers (λ u. declared_only before (state_of k new))
    (body_judged env before b region name (given q (state_of k old))).answer result
