use Rattle.std.proofs.Common.{◌≡◌, drop}
use Rattle.named_types.specs.Named.{are_built}
use Rattle.named_types.proofs.named.are_built.Given as goal

abbrev pub invariant-loop-number : goal.invariant-loop-number
invariant-loop-number l =
    are_built l.fn.program l.number (drop l.number l.declared-items) ≡ are_built l.fn.program 0 l.fn.program.types
