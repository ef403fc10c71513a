use Rattle.std.proofs.Common.{◌≡◌, [], take, drop, IfSome}
use Rattle.decision_map.specs.Blocks.{first_unlike}
use Rattle.decision_map.proofs.Inside.{IsBlockBefore}
use Rattle.decision_map.specs.Seen.{Closes}
use Rattle.decision_map.proofs.fit.check_edges.Given as goal

-- the blocks so far have the flags of their ends, and the latest of them ends last
abbrev pub invariant-loop-at : goal.invariant-loop-at
invariant-loop-at l = record {
  left : first_unlike l.kinds (take l.at l.view.blocks) (drop l.at l.view.blocks) ≡ first_unlike l.kinds [] l.view.blocks;
  before : IfSome l.before (IsBlockBefore l.kinds l.view.blocks l.at);
  closes : Closes l.before (take l.at l.view.blocks);
}
