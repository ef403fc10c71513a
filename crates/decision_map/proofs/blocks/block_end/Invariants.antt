use Rattle.std.proofs.Common.{◌≡◌, ◌+◌, ◌*◌, drop}
use Rattle.decision_map.specs.Blocks.{first_transfer}
use Rattle.decision_map.proofs.blocks.block_end.Given as goal

-- the words from pc on are left, and all before them go on
abbrev pub invariant-loop-kind : goal.invariant-loop-kind
invariant-loop-kind l = record {
  left : first_transfer l.pc (drop l.kind-index l.kind-items) ≡ first_transfer l.start l.kind-items;
  items : l.kind-items ≡ drop l.place l.kinds;
  at : l.pc ≡ l.start + 4 * l.kind-index;
  start : l.start ≡ 65536 + 4 * l.place;
}
