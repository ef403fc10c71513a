-- The answer for the rest, after the instances so far, is that for all.
use Rattle.std.proofs.Common.{◌≡◌, ◌≤◌, drop}
use Rattle.generic_expand.specs.Expanded as spec
use Rattle.generic_expand.proofs.expansion.past_instances.Given as goal

abbrev pub invariant-loop-unit : goal.invariant-loop-unit
invariant-loop-unit l = (spec.past_instances l.count (drop l.unit-index l.units) ≡ spec.past_instances 0 l.units) × (l.count ≤ 64)
