-- The entries so far, and then those of the rest, are those of all.
use Rattle.std.proofs.Common.{◌≡◌, drop}
use Rattle.obligations.specs.Entries.{joined, of_declarations}
use Rattle.obligations.proofs.statements.add_declarations.Given as goal

abbrev pub invariant-loop-declaration : goal.invariant-loop-declaration
invariant-loop-declaration l =
    joined l.listing (of_declarations (drop l.declaration-index l.declarations)) ≡ joined l.fn.listing (of_declarations l.fn.declarations)
