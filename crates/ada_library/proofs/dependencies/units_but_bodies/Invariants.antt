-- The numbers so far, and those that are left, are all.
use Rattle.std.proofs.Common.{◌≡◌, ◌++◌, drop}
use Rattle.ada_rules.specs.Library.{units_but_bodies}
use Rattle.ada_library.proofs.dependencies.units_but_bodies.Given as goal

abbrev pub invariant-loop-index : goal.invariant-loop-index
invariant-loop-index l = l.numbers.items ++ units_but_bodies l.index (drop l.index l.units) ≡ units_but_bodies 0 l.units
