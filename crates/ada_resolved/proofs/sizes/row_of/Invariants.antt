-- The entries so far, and those of the rest.
use Rattle.std.proofs.Common.{◌≡◌, ◌+◌, ◌-◌, ◌++◌, length}
use Rattle.ada_resolved.specs.Table.{entries_from, entries_of}
use Rattle.ada_resolved.proofs.sizes.row_of.Given as goal

abbrev pub invariant-loop-instance : goal.invariant-loop-instance
invariant-loop-instance l =
    l.sizes.items ++ entries_from l.program l.rows l.composite (length l.program.instances + 1 - l.instance) l.instance
    ≡ entries_of l.program l.rows l.composite
