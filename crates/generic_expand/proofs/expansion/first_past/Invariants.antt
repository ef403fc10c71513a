-- The answer for the rest, after the nodes of the units so far, is that for all.
use Rattle.std.proofs.Common.{◌≡◌, drop}
use Rattle.generic_expand.specs.Expanded as spec
use Rattle.generic_expand.proofs.expansion.first_past.Given as goal

abbrev pub invariant-loop-unit : goal.invariant-loop-unit
invariant-loop-unit l = spec.past_nodes l.units l.nodes (drop l.unit-index l.units) ≡ spec.past_nodes l.units 0 l.units
