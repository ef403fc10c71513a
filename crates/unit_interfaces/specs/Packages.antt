-- Packages, as the checker keeps them for other units.
use Rattle.std.specs.Prelude.{◌≡◌, ℕ, List, ◌∷◌, Option}
use Rattle.ada_syntax.specs.declared.unit.Formal.{Formal}
use Rattle.ada_rules.specs.Entities.{Actual}
use Rattle.ada_rules.specs.Units as rules
use Rattle.ada_entities.specs.declared.entity.Entity.{Entity}
use Rattle.ada_entities.specs.declared.units.Interface.{Interface}
use Rattle.ada_entities.specs.EntityViews.{Tables, region_of}
use Rattle.ada_entities.specs.RegionCode.{innermost, enclosing}
use Rattle.ada_entities.specs.UnitViews.{interface_of}
use Rattle.program_walk.specs.declared.symbols.Symbols.{Symbols}
use Rattle.program_walk.specs.declared.extent.Extent.{Extent}
use Rattle.program_walk.specs.Alike.{IsKnownRegion}
use Rattle.program_walk.specs.Changes.{Becomes, ShowsKnown}
use Rattle.program_walk.specs.SymbolViews.{IsKnown}

-- all stays as it was, where a region is open and what there is leads to what is there
abbrev pub KeepsInnermost : (old new : Symbols) → Type 0
KeepsInnermost old new =
    IsKnown old
    → Becomes old new (innermost old.regions ∷ enclosing old.regions) old.units

-- what is seen of a package with these formals
abbrev pub IsInterfaceWith : Option (List Formal) → (formals region : List (List ℕ × Entity)) → Interface → Type 0
IsInterfaceWith o formals region i =
    (k : Tables) (actuals : ℕ → List Actual)
    → interface_of k actuals i ≡ rules.interface_with o (region_of k formals) (region_of k region)

-- and it leads only to what is there, where they do
abbrev pub IsKnownWith : Extent → (formals region : List (List ℕ × Entity)) → Interface → Type 0
IsKnownWith e formals region i = IsKnownRegion e formals → IsKnownRegion e region → ShowsKnown e i
