use Rattle.std.proofs.Common.{◌≡◌, ◌≤◌, ◌++◌, length, drop}
use Rattle.coverage_set.specs.Said.{starts_in}
use Rattle.coverage_set.proofs.started.starts_in.Given as goal

abbrev pub invariant-loop-row : goal.invariant-loop-row
invariant-loop-row l = record {
  within : l.block ≤ length l.view.blocks;
  rest : l.events.items ++ starts_in (drop l.block l.view.blocks) (drop l.row-index l.object.rows) ≡ starts_in l.view.blocks l.object.rows;
}
