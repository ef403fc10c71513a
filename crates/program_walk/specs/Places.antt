-- Where a construct stands, and what the walk notes, of the rules' definitions.
use Rattle.std.specs.Prelude.{◌≡◌, Result}
use Rattle.cov_base.specs.declared.position.Pos.{Pos}
use Rattle.cov_base.specs.declared.failure.Failure.{Failure}
use Rattle.ada_rules.specs.Environment.{State, Given, given, Env}
use Rattle.ada_entities.specs.declared.fault.Refusal.{Refusal}
use Rattle.ada_entities.specs.Answers.{Answers}
use Rattle.ada_entities.specs.EntityViews.{Tables}
use Rattle.ada_phrases.specs.Answers.{counted}
use Rattle.ada_demands.specs.StaticsViews.{noted}
use Rattle.program_walk.specs.Sites as sites
use Rattle.program_walk.specs.declared.place.Place.{Place}
use Rattle.program_walk.specs.declared.place.Notes.{Notes}

-- an environment that has what the place keeps
pub record StandsAt (place : Place) (k : Tables) (env : Env) : Type 0 where
  pub site : sites.StandsAt place.site k env
  pub instances : env.world.instances ≡ place.instances.now
  pub generic : env.generic ≡ place.generic

-- a state with these decisions, demands and constants
abbrev pub with_notes : Tables → Notes → State → State
with_notes k n s = counted n.decisions (noted k n.statics s)

-- A construct that is looked at there, from these notes to those, comes to what the rules say, whatever tables begin with
-- what is there.
abbrev pub ComesTo : {A B : Type 0} → (Tables → A → B) → Place → (old new : Notes)
    → (Tables → Env → State → Result (Given B) Pos) → Result A (Failure Refusal) → Type 0
ComesTo view place old new answer result =
    (k : Tables) (env : Env) (s : State) → StandsAt place k env
    → Answers (λ x. given (view k x) (with_notes k new s)) (answer k env (with_notes k old s)) result
