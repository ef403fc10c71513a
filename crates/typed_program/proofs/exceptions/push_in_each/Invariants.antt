-- What is left of the instances, behind what was added, is all of them behind what was there.
use Rattle.std.proofs.Common.{◌≡◌, ◌+◌, ◌++◌, drop}
use Rattle.typed_program.proofs.Listing.{left_in}
use Rattle.typed_program.proofs.exceptions.push_in_each.Given as goal

abbrev pub invariant-loop-index : goal.invariant-loop-index
invariant-loop-index l =
    l.listed.items ++ left_in l.declaration l.generic (l.index + 1) (drop l.index l.instances)
    ≡ l.fn.listed.items ++ left_in l.declaration l.generic 1 l.instances
