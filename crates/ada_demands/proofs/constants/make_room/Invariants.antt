-- Empty groups are added.
use Rattle.std.proofs.Common.{◌≡◌, ℕ, ◌+◌, ◌-◌, length}
use Rattle.ada_demands.specs.Grouping.{group_at}
use Rattle.ada_demands.proofs.constants.make_room.Given as goal

abbrev pub invariant-loop-alloc : goal.invariant-loop-alloc
invariant-loop-alloc l = (g : ℕ) → group_at l.groups.items g ≡ group_at l.fn.groups.items g

abbrev pub decreases-loop-alloc : goal.decreases-loop-alloc
decreases-loop-alloc l = l.index + 1 - length l.groups.items
