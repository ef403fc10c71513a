-- The numbers so far, and those that are left, are all.
use Rattle.std.proofs.Common.{◌≡◌, ◌++◌, drop}
use Rattle.ada_library.specs.InstanceNumbering.{next_behind, numbers_from}
use Rattle.ada_library.proofs.instances.InstanceNumbers.new.Given as goal

abbrev pub invariant-loop-unit : goal.invariant-loop-unit
invariant-loop-unit l = record {
  numbers : l.numbers.items ++ numbers_from l.next (drop l.unit-index l.units) ≡ numbers_from 1 l.units;
  next : next_behind l.next (drop l.unit-index l.units) ≡ next_behind 1 l.units;
}
