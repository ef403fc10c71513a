-- What the grammar ensures of the text of whole units beside their trees: enumerations, records and choices in them are
-- not empty, and an enumeration has no more literals than there are numbers for.
use Rattle.std.specs.Prelude.{List}
use Rattle.cov_base.specs.Lists.{Everywhere}
use Rattle.ada_syntax.specs.declared.unit.BodyItem.{BodyItem}
use Rattle.ada_syntax.specs.declared.unit.BodyItem.TheVariants as item
use Rattle.ada_syntax.specs.declared.unit.LibraryItem.{LibraryItem}
use Rattle.ada_syntax.specs.declared.unit.LibraryItem.TheVariants as library
use Rattle.ada_syntax.specs.declared.unit.PackageItem.{PackageItem}
use Rattle.ada_syntax.specs.declared.unit.PackageItem.TheVariants as part
use Rattle.ada_syntax.specs.declared.unit.Unit.{Unit as LibraryUnit}
use Rattle.legal_laws.specs.Written.{IsWritten, IsBodyText}

abbrev pub IsPackageItemText : PackageItem → Type 0
IsPackageItemText (part.Declaration d) = IsWritten d.kind
IsPackageItemText (part.Subprogram x) = Unit {0}

abbrev pub IsBodyItemText : BodyItem → Type 0
IsBodyItemText (item.Declared i) = IsPackageItemText i
IsBodyItemText (item.Body b) = IsBodyText b

abbrev pub IsItemText : LibraryItem → Type 0
IsItemText (library.Package x) = Everywhere IsPackageItemText x.items
IsItemText (library.PackageBody b) = Everywhere IsBodyItemText b.items
IsItemText (library.Instance i) = Unit {0}
IsItemText (library.Subprogram b) = IsBodyText b

abbrev pub AreUnitTexts : List LibraryUnit → Type 0
AreUnitTexts units = Everywhere (λ u. IsItemText u.item) units
