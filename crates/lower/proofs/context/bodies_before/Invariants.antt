-- The bodies so far are others.
use Rattle.std.proofs.Common.{◌≡◌, ◌+◌, drop}
use Rattle.lower.specs.Context.{bodies_before}
use Rattle.lower.proofs.context.bodies_before.Given as goal

abbrev pub invariant-loop-body : goal.invariant-loop-body
invariant-loop-body l =
    l.before + bodies_before l.instance l.subprogram (drop l.body-index l.bodies) ≡ bodies_before l.instance l.subprogram l.bodies
