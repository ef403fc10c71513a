-- In which generic the text of a unit stands: a specification by its formals, a body of a package by what the library has for its package.
use Rattle.std.specs.Prelude.{ℕ, ◌+◌, List, [], ◌∷◌, Option, None, Some, if◌then◌else◌}
use Rattle.ada_syntax.specs.declared.unit.LibraryItem.{LibraryItem}
use Rattle.ada_syntax.specs.declared.unit.LibraryItem.TheVariants as library
use Rattle.ada_syntax.specs.declared.unit.Unit.{Unit as LibraryUnit}
use Rattle.ada_tree.specs.Weights.{stands_in}
use Rattle.ada_rules.specs.Entities.{key}
use Rattle.ada_rules.specs.Environment.{World, interface_of}
use Rattle.ada_rules.specs.Library.{Library, unit_named}
use Rattle.ada_rules.specs.Units as rules
use Rattle.ada_rules.specs.Units.{is_generic_interface}

-- the generic that the package with this number is
abbrev pub generic_at : World → Option ℕ → Option ℕ
generic_at w None = None
generic_at w (Some n) = is_generic_interface (interface_of w n) n

-- of the bodies of a unit
abbrev pub generic_of_item : World → Library → LibraryItem → Option ℕ
generic_of_item w l (library.PackageBody b) = generic_at w (unit_named l.names (key b.name))
generic_of_item w l i = None

-- of what other units see of the unit with this number
abbrev pub shown_in : ℕ → LibraryItem → Option ℕ
shown_in n (library.Package x) = rules.generic_at x.formals n
shown_in n i = None

-- of all its text
abbrev pub text_generic : World → Library → ℕ → LibraryItem → Option ℕ
text_generic w l n (library.PackageBody b) = generic_at w (unit_named l.names (key b.name))
text_generic w l n i = shown_in n i

-- what counts for a generic, or for none, of the text of one or of none
abbrev pub part_in : (g text : Option ℕ) → ℕ → ℕ
part_in g o n = if stands_in g o then n else 0

-- a count over units that are numbered from n on
abbrev pub units_in : (LibraryItem → ℕ) → Option ℕ → World → Library → ℕ → List LibraryUnit → ℕ
units_in count g w l n [] = 0
units_in count g w l n (u ∷ us) = part_in g (text_generic w l n u.item) (count u.item) + units_in count g w l (n + 1) us
