-- The names of units as the code keeps them.
use Rattle.std.specs.Prelude.{◌≡◌, ℕ, Bool, List, [], Some}
use Rattle.ada_syntax.specs.declared.unit.LibraryItem.{LibraryItem}
use Rattle.ada_syntax.specs.declared.unit.Unit.{Unit as LibraryUnit}
use Rattle.ada_rules.specs.Library.{names_from, unit_named, bodies_named, first_number, wants_body}
use Rattle.ada_library.specs.declared.unit_names.UnitNames.{UnitNames}
use Rattle.ada_library.specs.NameTable.{named_in, bodies_from}

-- each name leads to the first unit that has it
pub record AreNames (all : List LibraryUnit) (names : UnitNames) : Type 0 where
  pub named : (name : List ℕ) → unit_named names.units name ≡ unit_named (names_from 0 all) name
  pub bodies : (name : List ℕ) → unit_named names.package_bodies name ≡ first_number (bodies_named name 0 all)

-- units that are added by their places stand behind those that have names
pub record AddsNames (old : UnitNames) (all : List LibraryUnit) (new : UnitNames) : Type 0 where
  pub named : (name : List ℕ) → named_in new.units [] name ≡ named_in old.units (names_from 0 all) name
  pub bodies : (name : List ℕ) → named_in new.package_bodies [] name ≡ named_in old.package_bodies (bodies_from 0 all) name

-- whether a unit that declares this is a package with a body
abbrev pub IsWanting : LibraryItem → Bool → Type 0
IsWanting i wants = (u : LibraryUnit) → u.item ≡ i → wants ≡ wants_body (Some u)
