use Rattle.coverage_set.proofs.coverage.Coverage.new.Goals as goal

pub invariant_of-result : goal.invariant_of-result
invariant_of-result c = rw c.new-2.ensures (λ e none. absurd none)
