-- The entries so far say what the type takes.
use Rattle.std.proofs.Common.{List}
use Rattle.ada_meaning.specs.Types as type
use Rattle.ada_tree.specs.Programs.{unfolded}
use Rattle.ada_tree.specs.View.{composite_of}
use Rattle.word_limits.specs.Rows.{AreEntries, AreRows}
use Rattle.word_limits.proofs.table.entries_of.Given as goal

abbrev pub invariant-loop-instance : goal.invariant-loop-instance
invariant-loop-instance l =
    (ts : List type.Subtype) → AreRows l.instances ts l.rows → AreEntries l.instances (unfolded ts (composite_of l.composite)) l.entries.items
