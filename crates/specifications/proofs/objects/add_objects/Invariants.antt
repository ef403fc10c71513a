-- What is left of the names, behind what was declared, is all of them behind what there was.
use Rattle.std.proofs.Common.{◌≡◌, drop}
use Rattle.ada_entities.specs.EntityViews.{Tables}
use Rattle.program_walk.specs.Going.{GoesInside, IsWalkOpen}
use Rattle.specifications.specs.Objects.{HasTree, objects_behind, objects_counted}
use Rattle.specifications.proofs.objects.add_objects.Given as goal

abbrev pub invariant-loop-name : goal.invariant-loop-name
invariant-loop-name l = record {
  region : (k : Tables) → HasTree k l.fn.form
      → objects_behind k l.walk l.fn.form (drop l.name-index l.fn.names) ≡ objects_behind k l.fn.walk l.fn.form l.fn.names;
  state : (k : Tables) → HasTree k l.fn.form
      → objects_counted k l.walk l.fn.form (drop l.name-index l.fn.names) ≡ objects_counted k l.fn.walk l.fn.form l.fn.names;
  inside : IsWalkOpen l.fn.walk → GoesInside l.fn.walk l.walk;
}
