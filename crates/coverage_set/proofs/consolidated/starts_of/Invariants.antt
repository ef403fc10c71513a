use Rattle.std.proofs.Common.{◌≡◌, ◌++◌, map, drop}
use Rattle.cov_base.specs.declared.event.Event.TheVariants.{Start}
use Rattle.line_table.specs.declared.rows.Row.{Row}
use Rattle.coverage_set.specs.Consolidated.{starts_of}
use Rattle.coverage_set.proofs.consolidated.starts_of.Given as goal

abbrev pub invariant-loop-row : goal.invariant-loop-row
invariant-loop-row l = l.starts.items ++ map (λ (row : Row). Start row.statement row.instance) (drop l.row-index l.row-items) ≡ starts_of l.fn.object
