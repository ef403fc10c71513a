-- The rows so far, and the types of the rest.
use Rattle.std.proofs.Common.{drop}
use Rattle.word_limits.proofs.RowLaws.{SoFar}
use Rattle.word_limits.proofs.table.table_of.Given as goal

abbrev pub invariant-loop-declaration : goal.invariant-loop-declaration
invariant-loop-declaration l = SoFar l.instances l.types (drop l.declaration-index l.types) l.rows.items
