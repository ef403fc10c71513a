use Rattle.std.proofs.Common.{◌≡◌, List, drop}
use Rattle.line_table.specs.declared.rows.Row.{Row}
use Rattle.coverage_set.specs.Said.{starts_in, AreFrom}
use Rattle.coverage_set.proofs.started.first_reaching.Given as goal

abbrev pub invariant-loop-at : goal.invariant-loop-at
invariant-loop-at l = (rows : List Row) → AreFrom l.pc rows → starts_in (drop l.at l.view.blocks) rows ≡ starts_in (drop l.from l.view.blocks) rows
