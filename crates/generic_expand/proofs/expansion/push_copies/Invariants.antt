-- The copies so far, and those of the rest.
use Rattle.std.proofs.Common.{◌≡◌, ◌++◌, drop}
use Rattle.generic_expand.specs.Copying as copying
use Rattle.generic_expand.proofs.expansion.push_copies.Given as goal

abbrev pub invariant-loop-index : goal.invariant-loop-index
invariant-loop-index l =
    l.copies.items ++ copying.in_instances l.subprogram l.generic l.index (drop l.index l.instances)
    ≡ l.fn.copies.items ++ copying.in_instances l.fn.subprogram l.fn.generic 0 l.fn.instances
