-- The spellings so far fit, and those that are left decide.
use Rattle.std.proofs.Common.{◌≡◌, drop}
use Rattle.exemptions.specs.Table.{behind_in}
use Rattle.exemptions.proofs.mark.behind.Given as goal

abbrev pub invariant-loop-spelling : goal.invariant-loop-spelling
invariant-loop-spelling l = behind_in (drop l.spelling-index l.spellings) l.rest ≡ behind_in l.spellings l.tokens
