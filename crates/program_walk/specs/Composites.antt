-- What arrays are built of, whatever tables begin with what is there.
use Rattle.std.specs.Prelude.{◌≡◌, Bool, true, ◌&&◌, Option, Some, None, option_map}
use Rattle.ada_entities.specs.declared.types.AdaType.{AdaType}
use Rattle.ada_entities.specs.declared.types.Subtype.{Subtype}
use Rattle.ada_entities.specs.Views.{type_of}
use Rattle.ada_entities.specs.Tables.{array_parts, parts_of}
use Rattle.ada_entities.specs.EntityViews.{Tables}
use Rattle.program_walk.specs.declared.extent.Extent.{Extent}
use Rattle.program_walk.specs.declared.symbols.Symbols.{Symbols}
use Rattle.program_walk.specs.Known.{knows_type}
use Rattle.program_walk.specs.SymbolViews.{Begins, IsKnown}

abbrev pub knows_parts : Extent → Option (Subtype × Subtype) → Bool
knows_parts e None = true
knows_parts e (Some p) = knows_type e p.0.of && knows_type e p.1.of

-- the subtypes of the index and of the components, where the type is an array (RM 3.6)
abbrev pub AreArrayParts : Symbols → AdaType → Option (Subtype × Subtype) → Type 0
AreArrayParts symbols of o =
    IsKnown symbols → (k : Tables) → Begins symbols k
    → option_map (parts_of k.types) o ≡ array_parts (type_of k.types of)
