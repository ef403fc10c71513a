-- The instances before any unit was looked at.
use Rattle.std.specs.Prelude.{◌≡◌, ℕ, List, ◌++◌}
use Rattle.ada_syntax.specs.declared.unit.Unit.{Unit as LibraryUnit}
use Rattle.ada_rules.specs.Statics.{Facts}
use Rattle.ada_rules.specs.Units.{no_facts}

-- a unit's instance stands behind those so far, whatever comes behind it
abbrev pub Precedes : (count : ℕ) → (old : List Facts) → LibraryUnit → (new : List Facts) → Type 0
Precedes count old u new = (behind : List Facts) → new ++ behind ≡ old ++ no_facts count u behind
