-- What a final program serves.
use Rattle.std.specs.Prelude.{ℕ, List, Option}
use Rattle.ada_meaning.specs.Shape.{Shape}
use Rattle.ada_meaning.specs.Tree.{Object}
use Rattle.ada_meaning.specs.Program.{Program}
use Rattle.ada_rules.specs.Environment.{State}
use Rattle.ada_rules.specs.Statics.{Facts}
use Rattle.legal_laws.specs.Served.{Serves, AreListed}

-- it keeps what was found up to this state, in the text of a generic and in an instance
abbrev pub IsServed : List Facts → Program → (generic : Option ℕ) → (inst : ℕ) → State → Type 0
IsServed facts p generic inst s =
    Serves facts inst generic s
    × ((shape_of : Object → Shape) → AreListed facts inst p shape_of generic s.exceptions_declared)
