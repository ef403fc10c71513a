-- Parameters of a specification, as the walk goes on.
use Rattle.std.specs.Prelude.{◌≡◌, List, ◌∷◌, ◌++◌, None, Result, Ok, Err}
use Rattle.std.specs.declared.vec.Vec.{Vec}
use Rattle.std.specs.declared.alloc.Global.{Global}
use Rattle.cov_base.specs.declared.position.Pos.{Pos}
use Rattle.cov_base.specs.declared.failure.Failure.{Failure}
use Rattle.ada_syntax.specs.declared.unit.Parameter.{Parameter as Source}
use Rattle.ada_meaning.specs.Types.{here}
use Rattle.ada_rules.specs.Environment.{Given, given, Env}
use Rattle.ada_rules.specs.Subprograms as rules
use Rattle.ada_rules.specs.Subprograms.{parameters_judged}
use Rattle.ada_entities.specs.Answers.{Refuses}
use Rattle.ada_entities.specs.declared.fault.Refusal.{Refusal}
use Rattle.ada_entities.specs.declared.routines.Parameter.{Parameter}
use Rattle.ada_entities.specs.EntityViews.{Tables}
use Rattle.specifications.specs.Profiles.{parameters_of}
use Rattle.program_walk.specs.declared.context.Context.{Context}
use Rattle.program_walk.specs.declared.walk.Walk.{Walk}
use Rattle.program_walk.specs.States.{state_of}
use Rattle.program_walk.specs.Walks.{Begins, StandsAt, ComesTo, with_innermost}
use Rattle.program_walk.specs.Going.{region_in}

-- parameters before those of a profile that has no result yet
abbrev pub before_parameters : Tables → List Parameter → rules.Profile → rules.Profile
before_parameters k done q =
    record { parameters = parameters_of k here done ++ q.parameters; result = None; region = q.region }

abbrev pub behind_parameters : Tables → List Parameter → Result (Given rules.Profile) Pos
    → Result (Given rules.Profile) Pos
behind_parameters k done (Ok g) = Ok (given (before_parameters k done g.value) g.next)
behind_parameters k done (Err p) = Err p

-- parameters that are declared together, whatever comes behind them
abbrev pub HasParameters : {A : Type 0} → Tables → Env → (old new : Walk) → (before after : List Parameter) → Source
    → Result A (Failure Refusal) → Type 0
HasParameters k env old new before after q (Ok u) =
    (p : Pos) (qs : List Source)
    → behind_parameters k before (parameters_judged env (state_of k old) p (q ∷ qs)).answer
    ≡ behind_parameters k after (parameters_judged (with_innermost new k env) (state_of k new) p qs).answer
HasParameters k env old new before after q (Err f) =
    (p : Pos) (qs : List Source) → Refuses (parameters_judged env (state_of k old) p (q ∷ qs)).answer f

abbrev pub AddsParameters : {A : Type 0} → Context → (old new : Walk) → (before after : List Parameter) → Source
    → Result A (Failure Refusal) → Type 0
AddsParameters c old new before after q result =
    (k : Tables) (env : Env) → StandsAt c old k env → Begins new k → HasParameters k env old new before after q result

-- the profile of a procedure with these parameters, which the innermost region of the walk declares
abbrev pub parameters_in : Walk → Tables → Vec Parameter Global → rules.Profile
parameters_in w k v = record { parameters = parameters_of k here v.items; result = None; region = region_in k w }

abbrev pub ComesToParameters : Context → (old new : Walk) → List Source
    → Result (Vec Parameter Global) (Failure Refusal) → Type 0
ComesToParameters c old new qs result =
    (p : Pos) → ComesTo (parameters_in new) c old new (λ k env s. (parameters_judged env s p qs).answer) result
