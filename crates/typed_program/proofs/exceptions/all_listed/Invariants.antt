-- What is left of the declarations, behind what was added, is all of them.
use Rattle.std.proofs.Common.{◌≡◌, ◌++◌, drop}
use Rattle.typed_program.proofs.Listing.{all_left}
use Rattle.typed_program.proofs.exceptions.all_listed.Given as goal

abbrev pub invariant-loop-declaration : goal.invariant-loop-declaration
invariant-loop-declaration l =
    l.listed.items ++ all_left l.instances (drop l.declaration-index l.declared) ≡ all_left l.instances l.declared
