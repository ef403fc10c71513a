use Rattle.std.proofs.Common.{◌≡◌, not, find, drop, IfSome}
use Rattle.trace_format.specs.declared.trace.Block.{Block}
use Rattle.decision_map.specs.Blocks.{is_block}
use Rattle.decision_map.proofs.Inside.{IsBlockBefore}
use Rattle.decision_map.proofs.fit.check_blocks.Given as goal

-- the blocks so far are blocks of the text
abbrev pub invariant-loop-at : goal.invariant-loop-at
invariant-loop-at l = record {
  left : find (λ (b : Block). not (is_block l.kinds b)) (drop l.at l.view.blocks) ≡ find (λ (b : Block). not (is_block l.kinds b)) l.view.blocks;
  before : IfSome l.before (IsBlockBefore l.kinds l.view.blocks l.at);
}
