use Rattle.std.proofs.Common.{◌≡◌, [], ◌∷◌, replicate, Some, None}
use Rattle.ada_entities.proofs.composite.Types.new.Given as goal

-- instance 0, and the places so far
abbrev pub invariant-loop : goal.invariant-loop
invariant-loop l = l.instances.items ≡ Some [] ∷ replicate l.counter None
