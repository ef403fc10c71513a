use Rattle.std.proofs.Common.{drop}
use Rattle.program_objects.proofs.UnitLaws.{ParsedSoFar}
use Rattle.program_objects.proofs.units.add_units.Given as goal

abbrev pub invariant-loop-file : goal.invariant-loop-file
invariant-loop-file l = ParsedSoFar l.lists l.file (drop l.file l.lists) l.units.items
