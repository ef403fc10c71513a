use Rattle.std.proofs.Common.{◌≡◌, ◌+◌, ◌*◌, ◌++◌, drop}
use Rattle.trace_record.specs.Written.{blocks_from}
use Rattle.trace_record.proofs.blocks.blocks_of.Given as goal

-- the blocks so far, and those of the words that are left
abbrev pub invariant-loop-mark : goal.invariant-loop-mark
invariant-loop-mark l = record {
  start : l.start ≡ 65536 + 4 * l.mark-index;
  blocks : l.blocks.items ++ blocks_from l.map l.marks l.start (drop l.mark-index l.marks) ≡ blocks_from l.map l.marks 65536 l.marks;
}
