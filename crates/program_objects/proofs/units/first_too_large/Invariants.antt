use Rattle.std.proofs.Common.{◌≡◌, drop}
use Rattle.program_objects.specs.Units.{first_too_large}
use Rattle.program_objects.proofs.units.first_too_large.Given as goal

-- what is left answers as all do
abbrev pub invariant-loop-file : goal.invariant-loop-file
invariant-loop-file l = first_too_large l.file (drop l.file l.files) ≡ first_too_large 0 l.files
