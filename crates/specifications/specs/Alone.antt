-- Specifications without a body, as the walk goes on.
use Rattle.std.specs.Prelude.{◌≡◌, Result, Ok, Err}
use Rattle.cov_base.specs.declared.failure.Failure.{Failure}
use Rattle.ada_syntax.specs.declared.unit.Specification.{Specification}
use Rattle.ada_rules.specs.Entities.{Region}
use Rattle.ada_rules.specs.Environment.{State, given, Env}
use Rattle.ada_rules.specs.Subprograms.{specified, declared_only}
use Rattle.ada_entities.specs.Answers.{Refuses}
use Rattle.ada_entities.specs.declared.fault.Refusal.{Refusal}
use Rattle.ada_entities.specs.EntityViews.{Tables}
use Rattle.specifications.specs.declared.conformance.Profile.{Profile}
use Rattle.specifications.specs.Profiles.{profile_of}
use Rattle.program_walk.specs.declared.context.Context.{Context}
use Rattle.program_walk.specs.declared.walk.Walk.{Walk}
use Rattle.program_walk.specs.States.{state_of}
use Rattle.program_walk.specs.Walks.{Begins, StandsAt}

-- the profile that the rules say, in the region of its parameters, and the state in which it declares no words
pub record HasProfile (k : Tables) (env : Env) (old new : Walk) (x : Specification) (q : Profile) : Type 0 where
  pub region : Region
  pub next : State
  pub comes : (specified env (state_of k old) x).answer ≡ Ok (given (profile_of k region q) next)
  pub state : state_of k new ≡ declared_only (state_of k old) next

abbrev pub IsProfile : Tables → Env → (old new : Walk) → Specification → Result Profile (Failure Refusal) → Type 0
IsProfile k env old new x (Ok q) = HasProfile k env old new x q
IsProfile k env old new x (Err f) = Refuses (specified env (state_of k old) x).answer f

abbrev pub ComesToProfile : Context → (old new : Walk) → Specification → Result Profile (Failure Refusal) → Type 0
ComesToProfile c old new x result =
    (k : Tables) (env : Env) → StandsAt c old k env → Begins new k → IsProfile k env old new x result
