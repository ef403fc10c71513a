-- What was read so far, and then what the reader has left, is what it had left at first.
use Rattle.std.proofs.Common.{◌≡◌, ◌++◌}
use Rattle.cov_io.specs.Outside.{WhereTold}
use Rattle.cov_io.proofs.host_files.read_to_end.Given as goal

abbrev pub invariant-loop : goal.invariant-loop
invariant-loop g l = WhereTold (λ rest left. l.initial.into.items ++ rest ≡ l.into.items ++ left) (g.R.Read.remaining l.initial.reader) (g.R.Read.remaining l.reader)
