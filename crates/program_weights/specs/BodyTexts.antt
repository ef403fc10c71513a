-- The bodies of subprograms in the units of a program, in the order of the text.
use Rattle.std.specs.Prelude.{List, [], ◌∷◌, ◌++◌}
use Rattle.ada_syntax.specs.declared.unit.BodyItem.{BodyItem}
use Rattle.ada_syntax.specs.declared.unit.BodyItem.TheVariants as item
use Rattle.ada_syntax.specs.declared.unit.LibraryItem.{LibraryItem}
use Rattle.ada_syntax.specs.declared.unit.LibraryItem.TheVariants as library
use Rattle.ada_syntax.specs.declared.unit.SubprogramBody.{SubprogramBody}
use Rattle.ada_syntax.specs.declared.unit.Unit.{Unit as LibraryUnit}

abbrev pub bodies_among : List BodyItem → List SubprogramBody
bodies_among [] = []
bodies_among (item.Body b ∷ rest) = b ∷ bodies_among rest
bodies_among (item.Declared i ∷ rest) = bodies_among rest

abbrev pub bodies_of_item : LibraryItem → List SubprogramBody
bodies_of_item (library.PackageBody b) = bodies_among b.items
bodies_of_item (library.Subprogram b) = b ∷ []
bodies_of_item i = []

abbrev pub bodies_in : List LibraryUnit → List SubprogramBody
bodies_in [] = []
bodies_in (u ∷ us) = bodies_of_item u.item ++ bodies_in us
