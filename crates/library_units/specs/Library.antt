-- Bodies of library subprograms, as the walk goes on.
use Rattle.std.specs.Prelude.{◌≡◌, false, [], Result}
use Rattle.cov_base.specs.declared.failure.Failure.{Failure}
use Rattle.ada_syntax.specs.declared.unit.SubprogramBody.{SubprogramBody}
use Rattle.ada_rules.specs.Environment.{State, Env}
use Rattle.ada_rules.specs.Units.{at_unit, subprogram_body}
use Rattle.ada_entities.specs.Answers.{Answers}
use Rattle.ada_entities.specs.declared.fault.Refusal.{Refusal}
use Rattle.ada_entities.specs.EntityViews.{Tables}
use Rattle.program_walk.specs.declared.context.Context.{Context}
use Rattle.program_walk.specs.declared.walk.Walk.{Walk}
use Rattle.program_walk.specs.States.{state_of}
use Rattle.program_walk.specs.Walks.{Begins, StandsAt}

-- A body comes to what the rules say of it, where its unit was entered: nothing is declared in its text, and it
-- declares no object of the library level.
abbrev pub ComesToLibrary : {A : Type 0} → Context → (old new : Walk) → SubprogramBody → Result A (Failure Refusal)
    → Type 0
ComesToLibrary c old new b result =
    (k : Tables) (env : Env) (before : State) → StandsAt c old k env → Begins new k → env.local ≡ []
    → env.is_library ≡ false
    → state_of k old ≡ at_unit before
    → Answers (λ u. state_of k new) (subprogram_body env before b).answer result
