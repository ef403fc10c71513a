-- Shown by computing.
use Rattle.std.proofs.Common.{refl}
use Rattle.expression_parser.specs.Extents.{opens}
use Rattle.rules_examples.specs.Cases.{Hold}
use Rattle.rules_examples.specs.Objects.{Objects, changes_of_sum, changes_of_swap, changes_of_plain}

sum_hold : Hold changes_of_sum
unfolding opens
sum_hold = record { shown = refl }

swap_hold : Hold changes_of_swap
unfolding opens
swap_hold = record { shown = refl }

plain_hold : Hold changes_of_plain
unfolding opens
plain_hold = record { shown = refl }

pub objects_law : Objects
objects_law = (sum_hold, swap_hold, plain_hold)
