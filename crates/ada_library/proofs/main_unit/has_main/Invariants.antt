-- The main unit is one of those that are left where there is one.
use Rattle.std.proofs.Common.{◌≡◌, drop}
use Rattle.ada_rules.specs.Units.{has_main}
use Rattle.ada_library.proofs.main_unit.has_main.Given as goal

abbrev pub invariant-loop-unit : goal.invariant-loop-unit
invariant-loop-unit l = has_main l.name (drop l.unit-index l.units) ≡ has_main l.name l.units
