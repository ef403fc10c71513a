-- What is left of the names, as components, is all of them.
use Rattle.std.proofs.Common.{◌≡◌, drop}
use Rattle.ada_rules.specs.Entities.{component}
use Rattle.ada_rules.specs.Declarations.{all_as}
use Rattle.ada_entities.specs.EntityViews.{Tables, region_of}
use Rattle.ada_entities.specs.RegionCode.{innermost}
use Rattle.program_walk.specs.Changes.{IsOpen, ChangesInside}
use Rattle.declarations.proofs.components.declare_components.Given as goal

abbrev pub invariant-loop-name : goal.invariant-loop-name
invariant-loop-name l = record {
  rest : (k : Tables)
      → all_as component (region_of k (innermost l.symbols.regions)) (drop l.name-index l.fn.names)
      ≡ all_as component (region_of k (innermost l.fn.symbols.regions)) l.fn.names;
  inside : IsOpen l.fn.symbols → ChangesInside l.fn.symbols l.symbols;
}
