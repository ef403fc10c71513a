use Rattle.std.proofs.Common.{◌≡◌, drop}
use Rattle.program_objects.specs.Units.{first_nested}
use Rattle.program_objects.proofs.units.first_nested.Given as goal

-- what is left answers as all do
abbrev pub invariant-loop-tokens : goal.invariant-loop-tokens
invariant-loop-tokens l = first_nested (drop l.tokens-index l.lists) ≡ first_nested l.lists
