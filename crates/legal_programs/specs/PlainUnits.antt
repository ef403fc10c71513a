-- Units without generics: what they declare stands once.
use Rattle.std.specs.Prelude.{◌≡◌, List, None}
use Rattle.cov_base.specs.Lists.{Everywhere}
use Rattle.ada_syntax.specs.declared.unit.LibraryItem.{LibraryItem}
use Rattle.ada_syntax.specs.declared.unit.LibraryItem.TheVariants as library
use Rattle.ada_syntax.specs.declared.unit.Unit.{Unit as LibraryUnit}

-- a unit that is a library subprogram, a package or the body of a package: no generic, and no instance of one (RM 7.1,
-- 12.1, 12.3)
abbrev pub IsPlainUnit : LibraryItem → Type 0
IsPlainUnit (library.Subprogram b) = Unit {0}
IsPlainUnit (library.Package x) = x.formals ≡ None
IsPlainUnit (library.PackageBody b) = Unit {0}
IsPlainUnit (library.Instance i) = ⊥

abbrev pub ArePlainUnits : List LibraryUnit → Type 0
ArePlainUnits units = Everywhere (λ u. IsPlainUnit u.item) units
