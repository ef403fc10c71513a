-- Generics, and what is seen through instances, whatever tables begin with what is there.
use Rattle.std.specs.Prelude.{◌≡◌, ℕ, List, Option, Some, None, option_map}
use Rattle.std.specs.Borrow.{Bor}
use Rattle.std.specs.Option.{option_copied}
use Rattle.ada_meaning.specs.Types.{Owner}
use Rattle.ada_rules.specs.Entities as rules
use Rattle.ada_rules.specs.Entities.{Region}
use Rattle.ada_rules.specs.Environment.{Interface, generic_interface, World, interface_of}
use Rattle.ada_entities.specs.declared.entity.Entity.{Entity}
use Rattle.ada_entities.specs.declared.types.AdaType.{AdaType}
use Rattle.ada_entities.specs.declared.units.Interface.{Interface as CodeInterface}
use Rattle.ada_entities.specs.declared.units.Interface.TheVariants as interface
use Rattle.ada_entities.specs.Views.{type_by, type_of}
use Rattle.ada_entities.specs.EntityViews.{Tables, entity_of, region_of}
use Rattle.ada_entities.specs.RegionCode.{innermost}
use Rattle.program_walk.specs.declared.symbols.Symbols.{Symbols}
use Rattle.program_walk.specs.SymbolViews.{Begins, IsKnown}
use Rattle.program_walk.specs.Sites.{HoldsUnits}

-- a type as it is seen: in its own text, or through an instance
abbrev pub IsTypeSeen : Symbols → AdaType → Owner → AdaType → Type 0
IsTypeSeen symbols of o seen =
    IsKnown symbols → (k : Tables) → Begins symbols k
    → type_of k.types seen ≡ type_by k.types o (type_of k.types of)

-- the formals of a generic (RM 12.1)
abbrev pub formals_in : CodeInterface → Option (List (List ℕ × Entity))
formals_in (interface.Generic formals r) = Some formals
formals_in i = None

abbrev pub formals_shown : Interface → Option Region
formals_shown (generic_interface formals region) = Some formals
formals_shown i = None

abbrev pub AreFormals : Symbols → ℕ → Option (Bor (List (List ℕ × Entity))) → Type 0
AreFormals symbols n o =
    (k : Tables) (w : World) → HoldsUnits symbols k w
    → option_map (region_of k) (option_copied o) ≡ formals_shown (interface_of w n)

-- what a name denotes in the innermost region
abbrev pub IsInside : Symbols → List ℕ → Option Entity → Type 0
IsInside symbols name x =
    (k : Tables)
    → option_map (entity_of k) x ≡ rules.entity_of name (region_of k (innermost symbols.regions))
