-- Facts of instances beside the instances of a program.
use Rattle.std.specs.Prelude.{ℕ, List, Option}
use Rattle.ada_meaning.specs.Bodies.{StandsIn}
use Rattle.ada_meaning.specs.Program.{Program}
use Rattle.ada_rules.specs.Statics.{Facts, Asked}
use Rattle.legal_programs.specs.Looked.{IsLookedAt}

-- what stands in an instance of the program is looked at there
abbrev pub AreLookedAt : List Facts → List Asked → Program → Type 0
AreLookedAt facts demands p = (o : Option ℕ) (inst : ℕ) → StandsIn p o inst → IsLookedAt facts demands o inst
