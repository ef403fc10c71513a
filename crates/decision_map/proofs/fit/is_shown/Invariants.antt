use Rattle.std.proofs.Common.{ℕ, ◌-◌, ◌<◌, ◌≤◌, length, get_or}
use Rattle.trace_format.specs.declared.trace.Block.{Block}
use Rattle.decision_map.proofs.fit.is_shown.Given as goal

-- the blocks before `low` end before the entry's branch, and those from `high` on behind it
abbrev pub invariant-loop-low : goal.invariant-loop-low
invariant-loop-low l = record {
  within : l.high ≤ length l.view.blocks;
  below : (i : ℕ) (d : Block) → i < l.low → (get_or l.view.blocks i d).last < l.entry.address;
  above : (i : ℕ) (d : Block) → l.high ≤ i → i < length l.view.blocks → l.entry.address < (get_or l.view.blocks i d).last;
}

abbrev pub decreases-loop-low : goal.decreases-loop-low
decreases-loop-low l = l.high - l.low
