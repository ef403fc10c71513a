use Rattle.std.proofs.Common.{◌≡◌, ◌+◌, drop}
use Rattle.named_types.proofs.Instances.{named_from}
use Rattle.named_types.proofs.named.are_named_in.Given as goal

abbrev pub invariant-loop-place : goal.invariant-loop-place
invariant-loop-place l =
    named_from l.fn.program l.generic l.below l.subtypes (l.place + 1) (drop l.place l.instance-items)
    ≡ named_from l.fn.program l.fn.generic l.fn.below l.fn.subtypes 1 l.fn.program.instances
