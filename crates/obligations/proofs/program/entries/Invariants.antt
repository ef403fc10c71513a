-- The entries so far, and then those of the rest, are those of all.
use Rattle.std.proofs.Common.{◌≡◌, drop}
use Rattle.obligations.specs.Entries.{joined, of_subprograms}
use Rattle.obligations.proofs.program.entries.Given as goal

abbrev pub invariant-loop-subprogram : goal.invariant-loop-subprogram
invariant-loop-subprogram l = joined l.listing (of_subprograms (drop l.subprogram-index l.subprograms)) ≡ of_subprograms l.subprograms
