-- The nodes so far, and those of the rest.
use Rattle.std.proofs.Common.{◌≡◌, ◌+◌, drop}
use Rattle.generic_expand.specs.Expanded as spec
use Rattle.generic_expand.proofs.expansion.generic_nodes.Given as goal

abbrev pub invariant-loop-unit : goal.invariant-loop-unit
invariant-loop-unit l = l.nodes + spec.generic_nodes l.generic (drop l.unit-index l.units) ≡ spec.generic_nodes l.generic l.units
