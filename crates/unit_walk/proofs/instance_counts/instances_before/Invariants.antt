-- The instances so far, and those of the units that are left, are those of all.
use Rattle.std.proofs.Common.{◌≡◌, ◌++◌, drop}
use Rattle.ada_rules.specs.Units.{facts_before}
use Rattle.unit_walk.proofs.instance_counts.instances_before.Given as goal

abbrev pub invariant-loop-unit : goal.invariant-loop-unit
invariant-loop-unit l = l.instances ++ facts_before l.count (drop l.unit-index l.units) ≡ facts_before l.count l.units
