use Rattle.std.proofs.Common.{drop}
use Rattle.program_objects.proofs.UnitLaws.{LexedSoFar}
use Rattle.program_objects.proofs.units.all_tokens.Given as goal

abbrev pub invariant-loop-file : goal.invariant-loop-file
invariant-loop-file l = LexedSoFar l.files l.file (drop l.file l.files) l.lists.items
