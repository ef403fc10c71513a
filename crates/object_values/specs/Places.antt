-- Where it is told that a value is not of its object's type, as the checker finds it.
use Rattle.std.specs.Prelude.{◌≡◌, List}
use Rattle.cov_base.specs.declared.position.Pos.{Pos}
use Rattle.ada_rules.specs.Declarations.{value_place}
use Rattle.ada_entities.specs.declared.types.Subtype.{Subtype}
use Rattle.ada_entities.specs.Views.{subtype_of}
use Rattle.ada_entities.specs.EntityViews.{Tables}
use Rattle.program_walk.specs.declared.symbols.Symbols.{Symbols}
use Rattle.program_walk.specs.SymbolViews.{Begins, IsKnown}

abbrev pub IsValuePlace : Symbols → Pos → Subtype → List Pos → Pos → Type 0
IsValuePlace symbols p t others place =
    IsKnown symbols → (k : Tables) → Begins symbols k → place ≡ value_place p (subtype_of k.types t) others
