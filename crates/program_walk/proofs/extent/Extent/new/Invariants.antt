use Rattle.std.proofs.Common.{◌≡◌, ◌∷◌, replicate, true, false}
use Rattle.program_walk.proofs.extent.Extent.new.Given as goal

-- instance 0, and the places so far
abbrev pub invariant-loop : goal.invariant-loop
invariant-loop l = l.made.items ≡ true ∷ replicate l.counter false
