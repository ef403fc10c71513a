-- What is left of the names, behind what was declared, is all of them behind what there was.
use Rattle.std.proofs.Common.{◌≡◌, drop}
use Rattle.ada_entities.specs.EntityViews.{Tables}
use Rattle.program_walk.specs.Going.{GoesInside, IsWalkOpen}
use Rattle.declarations.specs.Locals.{HasTree, locals_behind, locals_counted}
use Rattle.declarations.proofs.locals.add_locals.Given as goal

abbrev pub invariant-loop-name : goal.invariant-loop-name
invariant-loop-name l = record {
  region : (k : Tables) → HasTree k l.fn.form
      → locals_behind k l.walk l.fn.form (drop l.name-index l.fn.names) ≡ locals_behind k l.fn.walk l.fn.form l.fn.names;
  state : (k : Tables) → HasTree k l.fn.form
      → locals_counted k l.walk l.fn.form (drop l.name-index l.fn.names) ≡ locals_counted k l.fn.walk l.fn.form l.fn.names;
  inside : IsWalkOpen l.fn.walk → GoesInside l.fn.walk l.walk;
}
