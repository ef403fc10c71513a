-- The rows so far, and those of the rest.
use Rattle.std.proofs.Common.{◌≡◌, [], drop}
use Rattle.ada_resolved.specs.Table.{rows_behind}
use Rattle.ada_resolved.proofs.sizes.table_of.Given as goal

abbrev pub invariant-loop-declaration : goal.invariant-loop-declaration
invariant-loop-declaration l = rows_behind l.program l.rows.items (drop l.declaration-index l.declaration-items) ≡ rows_behind l.program [] l.program.types
