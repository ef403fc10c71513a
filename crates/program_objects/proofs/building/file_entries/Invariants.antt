-- The sources so far have their entries.
use Rattle.std.proofs.Common.{◌≡◌, map, take}
use Rattle.program_objects.specs.Source.{entry_of_file}
use Rattle.program_objects.proofs.building.file_entries.Given as goal

abbrev pub invariant-loop-file : goal.invariant-loop-file
invariant-loop-file l = l.entries.items ≡ map entry_of_file (take l.file-index l.files)
