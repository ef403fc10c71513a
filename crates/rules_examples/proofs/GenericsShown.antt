-- Shown by computing.
use Rattle.std.proofs.Common.{refl}
use Rattle.expression_parser.specs.Extents.{opens}
use Rattle.rules_examples.specs.Cases.{Hold}
use Rattle.rules_examples.specs.Generics.{Generics, changes_of_bounds, changes_of_copies, changes_of_sorter}

bounds_hold : Hold changes_of_bounds
unfolding opens
bounds_hold = record { shown = refl }

copies_hold : Hold changes_of_copies
unfolding opens
copies_hold = record { shown = refl }

sorter_hold : Hold changes_of_sorter
unfolding opens
sorter_hold = record { shown = refl }

pub generics_law : Generics
generics_law = (bounds_hold, copies_hold, sorter_hold)
