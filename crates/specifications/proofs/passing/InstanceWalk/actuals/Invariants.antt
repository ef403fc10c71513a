-- What is left of the actuals, behind those so far, is what all come to.
use Rattle.std.proofs.Common.{◌≡◌, []}
use Rattle.ada_rules.specs.Environment.{State, Env}
use Rattle.ada_rules.specs.Instances.{actuals_judged}
use Rattle.ada_entities.specs.EntityViews.{Tables}
use Rattle.program_walk.specs.Places.{StandsAt, with_notes}
use Rattle.specifications.specs.Actuals.{actuals_of}
use Rattle.specifications.specs.Passing.{formals_seen}
use Rattle.specifications.proofs.CountingLaws.{whole}
use Rattle.specifications.proofs.passing.InstanceWalk.actuals.Given as goal

abbrev pub invariant-loop-place : goal.invariant-loop-place
invariant-loop-place l =
    (k : Tables) (env : Env) (s : State) → StandsAt l.fn.self.place k env
    → whole env l.fn.pos l.fn.self.number (formals_seen k l.fn.formals) l.fn.exprs (with_notes k l.notes s) (actuals_of k l.actuals.items) l.place
    ≡ (actuals_judged env (with_notes k l.fn.notes s) l.fn.pos l.fn.self.number [] (formals_seen k l.fn.formals) l.fn.exprs).answer
