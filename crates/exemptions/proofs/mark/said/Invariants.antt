-- What is said so far, and in what is left.
use Rattle.std.proofs.Common.{◌≡◌, ◌++◌, length}
use Rattle.exemptions.specs.Marks.{said_behind, said_by}
use Rattle.exemptions.proofs.mark.said.Given as goal

abbrev pub invariant-loop-byte : goal.invariant-loop-byte
invariant-loop-byte l = l.bytes.items ++ said_behind l.rest ≡ said_by l.literal

abbrev pub decreases-loop-byte : goal.decreases-loop-byte
decreases-loop-byte l = length l.rest
