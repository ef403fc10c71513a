-- What the code's library is of the rules' definitions.
use Rattle.std.specs.Prelude.{◌≡◌, ℕ, Bool, List, Option}
use Rattle.ada_syntax.specs.declared.unit.Unit.{Unit as LibraryUnit}
use Rattle.ada_rules.specs.Entities.{Standard}
use Rattle.ada_rules.specs.Library as rules
use Rattle.ada_rules.specs.Library.{unit_named, bodies_named, first_number, all_bodies, instance_number}
use Rattle.ada_rules.specs.Subprograms.{place_among}
use Rattle.ada_library.specs.declared.library.Library.{Library}
use Rattle.ada_library.specs.BodyNumbering.{AreBodies}
use Rattle.ada_library.specs.InstanceNumbering.{AreInstances}

-- The library of these units: names lead to the same units, and the rest is the same.
pub record IsLibrary (x : Library) (all : List LibraryUnit) (l : rules.Library) : Type 0 where
  pub of_units : l.units ≡ all
  pub named : (name : List ℕ) → unit_named x.names.units name ≡ unit_named l.names name
  pub package_bodies : (name : List ℕ) → unit_named x.names.package_bodies name ≡ first_number (bodies_named name 0 all)
  pub leads : x.dependencies.graph ≡ l.graph
  pub ordered : x.dependencies.order ≡ l.order
  pub complete : x.dependencies.is_ordered ≡ l.is_ordered
  pub numbered : AreBodies (all_bodies all) x.bodies
  pub instances : AreInstances all x.instances

-- that of these units, whatever names are predefined
abbrev pub IsLibraryOf : List LibraryUnit → Library → Type 0
IsLibraryOf all x = (standard : Standard) → IsLibrary x all (rules.library_of standard all)

-- what the library answers, whichever the rules' is
abbrev pub IsNamed : Library → List ℕ → Option ℕ → Type 0
IsNamed x name unit = (all : List LibraryUnit) (l : rules.Library) → IsLibrary x all l → unit ≡ unit_named l.names name

abbrev pub IsFirstBody : Library → List ℕ → Option ℕ → Type 0
IsFirstBody x name unit =
    (all : List LibraryUnit) (l : rules.Library) → IsLibrary x all l → unit ≡ first_number (bodies_named name 0 all)

abbrev pub IsLeadingBack : Library → (from to : ℕ) → Bool → Type 0
IsLeadingBack x from to leads =
    (all : List LibraryUnit) (l : rules.Library) → IsLibrary x all l → leads ≡ rules.leads_back l.is_ordered l.graph from to

abbrev pub IsOrder : Library → List ℕ → Type 0
IsOrder x order = (all : List LibraryUnit) (l : rules.Library) → IsLibrary x all l → order ≡ l.order

abbrev pub IsBodyNumber : Library → (unit name : List ℕ) → Option ℕ → Type 0
IsBodyNumber x unit name number =
    (all : List LibraryUnit) (l : rules.Library) → IsLibrary x all l → number ≡ place_among unit name 0 (all_bodies l.units)

abbrev pub IsInstanceNumber : Library → ℕ → ℕ → Type 0
IsInstanceNumber x n number = (all : List LibraryUnit) (l : rules.Library) → IsLibrary x all l → number ≡ instance_number n l.units
