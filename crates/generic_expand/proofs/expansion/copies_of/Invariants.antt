-- The copies so far, and those of the rest.
use Rattle.std.proofs.Common.{◌≡◌, ◌++◌, drop}
use Rattle.generic_expand.specs.Copying as copying
use Rattle.generic_expand.proofs.expansion.copies_of.Given as goal

abbrev pub invariant-loop-index : goal.invariant-loop-index
invariant-loop-index l =
    l.copies.items ++ copying.of_subprograms l.index (drop l.index l.subprograms) l.instances ≡ copying.of_subprograms 0 l.subprograms l.instances
