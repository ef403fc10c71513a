-- What is left of the names, behind what was declared, is all of them behind what there was.
use Rattle.std.proofs.Common.{◌≡◌, drop}
use Rattle.ada_rules.specs.Environment.{Env}
use Rattle.ada_rules.specs.Declarations.{exceptions_from}
use Rattle.ada_entities.specs.EntityViews.{Tables}
use Rattle.program_walk.specs.States.{state_of}
use Rattle.program_walk.specs.Contexts.{IsIn}
use Rattle.program_walk.specs.Going.{region_in, GoesInside, IsWalkOpen}
use Rattle.declarations.proofs.exceptions.add_exceptions.Given as goal

abbrev pub invariant-loop-name : goal.invariant-loop-name
invariant-loop-name l = record {
  rest : (k : Tables) (env : Env) → IsIn l.fn.context env
      → exceptions_from env (state_of k l.fn.walk) (region_in k l.fn.walk) l.fn.names
      ≡ exceptions_from env (state_of k l.walk) (region_in k l.walk) (drop l.name-index l.fn.names);
  inside : IsWalkOpen l.fn.walk → GoesInside l.fn.walk l.walk;
}
