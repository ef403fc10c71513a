-- How much of the grammar is open.
use Rattle.std.specs.Prelude.{ℕ, Bool, nat_le}
use Rattle.expression_parser.specs.declared.extent.Extent.{Extent}
use Rattle.expression_parser.specs.declared.extent.Extent.TheVariants.{StraightLine, Objects, Decisions, ShortCircuit, Types, Subprograms, Exceptions, Generics, Whole}

-- the place of an extent in their order
abbrev pub rank : Extent → ℕ
rank StraightLine = 0
rank Objects = 1
rank Decisions = 2
rank ShortCircuit = 3
rank Types = 4
rank Subprograms = 5
rank Exceptions = 6
rank Generics = 7
rank Whole = 8

-- whether the productions that come with an extent are open
unfoldable pub opens : Extent → Extent → Bool
opens extent needed = nat_le (rank needed) (rank extent)
