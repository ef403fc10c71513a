-- Groups of which nothing was asked are added.
use Rattle.std.proofs.Common.{◌≡◌, ℕ, ◌+◌, ◌-◌, length}
use Rattle.ada_demands.specs.Past.{past_at}
use Rattle.ada_demands.proofs.history.History.make_room.Given as goal

abbrev pub invariant-loop-alloc : goal.invariant-loop-alloc
invariant-loop-alloc l = (g : ℕ) → past_at l.self g ≡ past_at l.fn.self g

abbrev pub decreases-loop-alloc : goal.decreases-loop-alloc
decreases-loop-alloc l = l.generic + 1 - length l.self.groups.items
