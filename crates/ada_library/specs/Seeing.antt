-- What units see of the library, as the code keeps it.
use Rattle.std.specs.Prelude.{◌≡◌, ℕ, List, [], ◌∷◌, ◌++◌, map, Option, option_map}
use Rattle.ada_syntax.specs.declared.name.Identifier.{Identifier}
use Rattle.ada_syntax.specs.declared.unit.LibraryItem.{LibraryItem}
use Rattle.ada_syntax.specs.declared.unit.Unit.{Unit as LibraryUnit}
use Rattle.ada_rules.specs.Entities.{Actual, key}
use Rattle.ada_rules.specs.Environment.{World}
use Rattle.ada_rules.specs.Library as rules
use Rattle.ada_rules.specs.Library.{denoted_in_with, item_name, seen_more}
use Rattle.ada_rules.specs.Units.{seen_in, seen_in_body}
use Rattle.ada_entities.specs.declared.entity.Entity.{Entity}
use Rattle.ada_entities.specs.declared.units.Interface.{Interface}
use Rattle.ada_entities.specs.EntityViews.{Tables, entity_of, region_of}
use Rattle.ada_entities.specs.UnitViews.{interface_of}
use Rattle.ada_library.specs.declared.library.Library.{Library}
use Rattle.ada_library.specs.LibraryView.{IsLibrary}

-- a world in which units have these interfaces, and their library, where numbers in entities lead to this
pub record Stands (x : Library) (units : List Interface) (all : List LibraryUnit) (k : Tables) (w : World) (l : rules.Library) : Type 0 where
  pub library : IsLibrary x all l
  pub actuals : ℕ → List Actual
  pub interfaces : w.interfaces ≡ map (interface_of k actuals) units

-- what a name denotes in `with`
abbrev pub IsDenoted : Library → List Interface → List ℕ → Option Entity → Type 0
IsDenoted x units name o =
    (all : List LibraryUnit) (k : Tables) (w : World) (l : rules.Library) → Stands x units all k w l
    → (i : Identifier) → key i ≡ name → option_map (entity_of k) o ≡ denoted_in_with w l i

-- what these names denote is seen too, and then what others behind them do
abbrev pub SeesNames : Library → List Interface → (old : List (List ℕ × Entity)) → List Identifier → (new : List (List ℕ × Entity)) → Type 0
SeesNames x units old names new =
    (all : List LibraryUnit) (k : Tables) (w : World) (l : rules.Library) → Stands x units all k w l
    → (more : List Identifier) → seen_more w l more (region_of k new) ≡ seen_more w l (names ++ more) (region_of k old)

-- a region with the name of a unit alone, which denotes this
abbrev pub IsOwn : LibraryItem → Entity → List (List ℕ × Entity) → Type 0
IsOwn i entity region = (k : Tables) → region_of k region ≡ (key (item_name i), entity_of k entity) ∷ []

-- what a unit sees in which its own name denotes this, and what the body of the package with a number sees
abbrev pub IsSeen : Library → List Interface → LibraryUnit → Entity → List (List ℕ × Entity) → Type 0
IsSeen x units u entity region =
    (all : List LibraryUnit) (k : Tables) (w : World) (l : rules.Library) → Stands x units all k w l
    → region_of k region ≡ seen_in w l u (entity_of k entity)

abbrev pub IsSeenInBody : Library → List Interface → List LibraryUnit → ℕ → LibraryUnit → List (List ℕ × Entity) → Type 0
IsSeenInBody x units all n u region =
    (k : Tables) (w : World) (l : rules.Library) → Stands x units all k w l → region_of k region ≡ seen_in_body w l n u
