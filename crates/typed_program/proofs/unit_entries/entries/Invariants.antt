-- The entries so far are those of the units so far.
use Rattle.typed_program.proofs.EntryLaws.{AreSoFar}
use Rattle.typed_program.proofs.unit_entries.entries.Given as goal

abbrev pub invariant-loop-index : goal.invariant-loop-index
invariant-loop-index l = AreSoFar l.library l.symbols.units l.units l.index l.entries.items
