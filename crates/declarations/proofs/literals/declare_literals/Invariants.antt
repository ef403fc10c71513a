-- What is left of the names, as literals from here on, is all of them from the first.
use Rattle.std.proofs.Common.{◌≡◌, drop}
use Rattle.ada_rules.specs.Declarations.{literals}
use Rattle.ada_entities.specs.Views.{type_of}
use Rattle.ada_entities.specs.EntityViews.{Tables, region_of}
use Rattle.ada_entities.specs.RegionCode.{innermost}
use Rattle.program_walk.specs.Changes.{IsOpen, ChangesInside}
use Rattle.declarations.proofs.literals.declare_literals.Given as goal

abbrev pub invariant-loop-place : goal.invariant-loop-place
invariant-loop-place l = record {
  rest : (k : Tables)
      → literals (type_of k.types l.fn.of) l.place (region_of k (innermost l.symbols.regions)) (drop l.place l.fn.names)
      ≡ literals (type_of k.types l.fn.of) 0 (region_of k (innermost l.fn.symbols.regions)) l.fn.names;
  inside : IsOpen l.fn.symbols → ChangesInside l.fn.symbols l.symbols;
}
