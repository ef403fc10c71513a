use Rattle.std.proofs.Common.{◌≡◌, ◌++◌, ◌∷◌, List, drop}
use Rattle.trace_format.specs.declared.trace.Block.{Block}
use Rattle.coverage_set.specs.Said.{starts_in}
use Rattle.coverage_set.proofs.Starts.{StartAbove}
use Rattle.coverage_set.proofs.row_starts.RowStarts.see.Given as goal

-- the starts so far, and those of the rows that are left
abbrev pub invariant-loop-place : goal.invariant-loop-place
invariant-loop-place l = (later : List Block) → StartAbove l.block.start later
    → l.self.events.items ++ starts_in (l.block ∷ later) (drop l.place l.object.rows)
    ≡ l.fn.self.events.items ++ starts_in (l.block ∷ later) (drop l.fn.self.next l.object.rows)
