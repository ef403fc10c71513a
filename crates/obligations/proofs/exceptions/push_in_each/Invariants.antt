-- The exceptions so far, and those of the rest.
use Rattle.std.proofs.Common.{◌≡◌, ◌++◌, drop}
use Rattle.obligations.specs.Exceptions as spec
use Rattle.obligations.proofs.exceptions.push_in_each.Given as goal

abbrev pub invariant-loop-instance : goal.invariant-loop-instance
invariant-loop-instance l =
    l.named.items ++ spec.in_instances l.declaration l.generic (drop l.instance-index l.instances)
    ≡ l.fn.named.items ++ spec.in_instances l.fn.declaration l.fn.generic l.fn.instances
