-- Shown by computing.
use Rattle.std.proofs.Common.{refl}
use Rattle.expression_parser.specs.Extents.{opens}
use Rattle.rules_examples.specs.Obliged.{Obliged, Recursive, Packaged, Twice, Ordered, Composite}

recursive_owes : Recursive
unfolding opens
recursive_owes = record { shown = refl; numbered = refl }

packaged_owes : Packaged
unfolding opens
packaged_owes = record { shown = refl; numbered = refl }

twice_owes : Twice
unfolding opens
twice_owes = record { shown = refl; numbered = refl }

ordered_owes : Ordered
unfolding opens
ordered_owes = record { shown = refl; numbered = refl }

composite_owes : Composite
unfolding opens
composite_owes = record { shown = refl; numbered = refl }

pub obliged_law : Obliged
obliged_law = (recursive_owes, packaged_owes, twice_owes, ordered_owes, composite_owes)
