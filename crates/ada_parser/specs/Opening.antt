-- How much of the grammar sources are read by.
use Rattle.expression_parser.specs.declared.extent.Extent.{Extent}
use Rattle.expression_parser.specs.declared.extent.Extent.TheVariants.{Whole}

-- all of it
abbrev pub open_extent : Extent
open_extent = Whole
