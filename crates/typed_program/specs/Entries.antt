-- What the limits ask of the units, of what the checker keeps of them, in each world that has this.
use Rattle.std.specs.Prelude.{◌≡◌, ℕ, List, map}
use Rattle.ada_syntax.specs.declared.unit.LibraryItem.{LibraryItem}
use Rattle.ada_syntax.specs.declared.unit.PackageBody.{PackageBody}
use Rattle.ada_syntax.specs.declared.unit.Unit.{Unit as LibraryUnit}
use Rattle.ada_tree.specs.declared.program.UnitEntry.{UnitEntry}
use Rattle.ada_tree.specs.declared.program.UnitRole.{UnitRole}
use Rattle.ada_rules.specs.Entities.{Actual}
use Rattle.ada_rules.specs.Environment.{World, interface_of}
use Rattle.ada_rules.specs.Library.{Library as RulesLibrary}
use Rattle.ada_entities.specs.declared.units.Interface.{Interface}
use Rattle.ada_entities.specs.EntityViews.{Tables}
use Rattle.ada_entities.specs.UnitViews as view
use Rattle.ada_library.specs.declared.library.Library.{Library}
use Rattle.ada_library.specs.Seeing.{Stands}
use Rattle.program_weights.specs.Entries.{role_by, body_role, role_of, entry_of, entries_of}

abbrev pub IsRoleBy : ℕ → Interface → UnitRole → Type 0
IsRoleBy n i r = (k : Tables) (actuals : ℕ → List Actual) → r ≡ role_by n (view.interface_of k actuals i)

abbrev pub IsOwnRole : List Interface → ℕ → UnitRole → Type 0
IsOwnRole units n r =
    (k : Tables) (actuals : ℕ → List Actual) (w : World) → w.interfaces ≡ map (view.interface_of k actuals) units
    → r ≡ role_by n (interface_of w n)

abbrev pub IsBodyRole : Library → List Interface → PackageBody → UnitRole → Type 0
IsBodyRole x units b r =
    (all : List LibraryUnit) (k : Tables) (w : World) (l : RulesLibrary) → Stands x units all k w l
    → r ≡ body_role w l b

abbrev pub IsRoleOf : Library → List Interface → ℕ → LibraryItem → UnitRole → Type 0
IsRoleOf x units n i r =
    (all : List LibraryUnit) (k : Tables) (w : World) (l : RulesLibrary) → Stands x units all k w l
    → r ≡ role_of w l n i

abbrev pub IsEntryOf : Library → List Interface → ℕ → LibraryUnit → UnitEntry → Type 0
IsEntryOf x units n u e =
    (all : List LibraryUnit) (k : Tables) (w : World) (l : RulesLibrary) → Stands x units all k w l
    → e ≡ entry_of w l n u

abbrev pub AreEntries : Library → List Interface → List LibraryUnit → List UnitEntry → Type 0
AreEntries x units all es = (k : Tables) (w : World) (l : RulesLibrary) → Stands x units all k w l → es ≡ entries_of w l
