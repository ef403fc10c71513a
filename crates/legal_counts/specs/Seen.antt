-- What other units see of each unit, by its item, and in whose text what a program declares stands (Ada RM 2012,
-- 10.1.1, 12.1, 12.3).
use Rattle.std.specs.Prelude.{◌≡◌, ℕ, true, List, [], ◌∷◌, Option, Some, None, is_some, slice_get}
use Rattle.ada_syntax.specs.declared.unit.LibraryItem.{LibraryItem}
use Rattle.ada_syntax.specs.declared.unit.LibraryItem.TheVariants as library
use Rattle.ada_syntax.specs.declared.unit.Unit.{Unit as LibraryUnit}
use Rattle.ada_rules.specs.Entities.{Actual, key}
use Rattle.ada_rules.specs.Environment.{Interface, no_interface, package_interface, generic_interface, instance_interface, subprogram_interface, World, interface_of, UnitWords}
use Rattle.ada_rules.specs.Library.{Library, instance_number, unit_named}
use Rattle.legal_types.specs.TextGenerics.{shown_in, text_generic}

-- A package with formals is seen as a generic, one without as a package, and an instance and a library subprogram as
-- themselves. Nothing is seen of a body of a package, and nothing yet of a unit that was not looked at.
abbrev pub IsInterfaceOf : Interface → LibraryItem → Type 0
IsInterfaceOf no_interface i = Unit {0}
IsInterfaceOf (package_interface region) (library.Package x) = x.formals ≡ None
IsInterfaceOf (generic_interface formals region) (library.Package x) = is_some x.formals ≡ true
IsInterfaceOf (instance_interface g number actuals) (library.Instance i) = Unit {0}
IsInterfaceOf (subprogram_interface r) (library.Subprogram b) = Unit {0}
IsInterfaceOf j i = ⊥

abbrev pub AreInterfacesOf : List Interface → List LibraryUnit → Type 0
AreInterfacesOf [] [] = Unit {0}
AreInterfacesOf (j ∷ js) (u ∷ us) = IsInterfaceOf j u.item × AreInterfacesOf js us
AreInterfacesOf js us = ⊥

-- in which generic that stands which other units see of the unit with this number, if there is one
abbrev pub shown_of : ℕ → Option LibraryUnit → Option ℕ
shown_of n None = None
shown_of n (Some u) = shown_in n u.item

-- the unit with this number is seen as an instance, with the number that it has among these, of a package with formals
pub record IsSeenAsInstance (w : World) (units : List LibraryUnit) (n : ℕ) : Type 0 where
  pub generic : ℕ
  pub actuals : List Actual
  pub seen : interface_of w n ≡ instance_interface (Some generic) (instance_number n units) actuals
  pub formals : shown_of generic (slice_get units generic) ≡ Some generic

-- the package of whose text a unit is a part
abbrev pub package_of : Library → ℕ → LibraryItem → Option ℕ
package_of l n (library.Package x) = Some n
package_of l n (library.PackageBody b) = unit_named l.names (key b.name)
package_of l n i = None

-- the words of the text of a unit, which stand in the generic in which it stands
pub record IsOfText (w : World) (l : Library) (u : UnitWords) : Type 0 where
  pub unit : LibraryUnit
  pub there : slice_get l.units u.unit ≡ Some unit
  pub home : package_of l u.unit unit.item ≡ Some u.package_unit
  pub generic : u.generic ≡ text_generic w l u.unit unit.item

-- the generic, or none, in which the text of some unit stands
pub record IsGenericOfText (w : World) (l : Library) (g : Option ℕ) : Type 0 where
  pub place : ℕ
  pub unit : LibraryUnit
  pub there : slice_get l.units place ≡ Some unit
  pub is : g ≡ text_generic w l place unit.item
