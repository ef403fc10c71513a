-- Enumeration types and their literals, as the checker keeps them.
use Rattle.std.specs.Prelude.{◌≡◌, ℕ, pos, ◌-ℤ◌, List}
use Rattle.ada_syntax.specs.declared.name.Identifier.{Identifier}
use Rattle.ada_rules.specs.Types.{of_type, enumeration, numbers}
use Rattle.ada_rules.specs.Declarations.{literals}
use Rattle.ada_rules.specs.Entities.{literal}
use Rattle.ada_entities.specs.declared.entity.Entity.{Entity}
use Rattle.ada_entities.specs.declared.types.AdaType.{AdaType}
use Rattle.ada_entities.specs.declared.types.Identity.{Identity}
use Rattle.ada_entities.specs.declared.types.Subtype.{Subtype}
use Rattle.ada_entities.specs.Views.{identity_of, type_of, subtype_of}
use Rattle.ada_entities.specs.EntityViews.{Tables, entity_of, region_of}
use Rattle.ada_entities.specs.RegionCode.{innermost}
use Rattle.program_walk.specs.declared.symbols.Symbols.{Symbols}

abbrev pub IsEnumeration : Identity → ℕ → Subtype → Type 0
IsEnumeration i n t =
    (k : Tables) → subtype_of k.types t ≡ of_type (enumeration (identity_of i) n) (numbers (pos 0) (pos n -ℤ pos 1))

abbrev pub IsLiteral : AdaType → ℕ → Entity → Type 0
IsLiteral t n x = (k : Tables) → entity_of k x ≡ literal (type_of k.types t) (pos n)

abbrev pub DeclaresLiterals : (old new : Symbols) → AdaType → List Identifier → Type 0
DeclaresLiterals old new t is =
    (k : Tables)
    → region_of k (innermost new.regions) ≡ literals (type_of k.types t) 0 (region_of k (innermost old.regions)) is
