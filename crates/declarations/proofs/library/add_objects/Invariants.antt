-- What is left of the names, behind what was declared, is all of them behind what there was.
use Rattle.std.proofs.Common.{◌≡◌, drop}
use Rattle.ada_rules.specs.Environment.{Env}
use Rattle.ada_entities.specs.EntityViews.{Tables}
use Rattle.program_walk.specs.Contexts.{IsIn}
use Rattle.program_walk.specs.Going.{GoesInside, IsWalkOpen}
use Rattle.declarations.specs.Locals.{HasTree}
use Rattle.declarations.specs.Library.{objects_behind, objects_counted}
use Rattle.declarations.proofs.library.add_objects.Given as goal

abbrev pub invariant-loop-name : goal.invariant-loop-name
invariant-loop-name l = record {
  region : (k : Tables) (env : Env) → IsIn l.fn.context env → HasTree k l.fn.form
      → objects_behind k env l.walk l.fn.form (drop l.name-index l.fn.names) ≡ objects_behind k env l.fn.walk l.fn.form l.fn.names;
  state : (k : Tables) (env : Env) → IsIn l.fn.context env → HasTree k l.fn.form
      → objects_counted k env l.walk l.fn.form l.fn.initial (drop l.name-index l.fn.names)
      ≡ objects_counted k env l.fn.walk l.fn.form l.fn.initial l.fn.names;
  inside : IsWalkOpen l.fn.walk → GoesInside l.fn.walk l.walk;
}
