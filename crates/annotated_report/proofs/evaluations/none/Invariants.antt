use Rattle.std.proofs.Common.{◌≡◌, ℕ, [], length}
use Rattle.annotated_report.specs.Marked.{collected}
use Rattle.annotated_report.proofs.evaluations.none.Given as goal

abbrev pub invariant-loop : goal.invariant-loop
invariant-loop l = record {
  length : length l.all.items ≡ l.counter;
  empty : (d : ℕ) → collected l.all.items d ≡ [];
}
