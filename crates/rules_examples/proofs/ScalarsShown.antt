-- Shown by computing.
use Rattle.std.proofs.Common.{refl}
use Rattle.expression_parser.specs.Extents.{opens}
use Rattle.rules_examples.specs.Cases.{Hold}
use Rattle.rules_examples.specs.Scalars.{Scalars, changes_of_days, changes_of_nums, changes_of_reach}

days_hold : Hold changes_of_days
unfolding opens
days_hold = record { shown = refl }

nums_hold : Hold changes_of_nums
unfolding opens
nums_hold = record { shown = refl }

reach_hold : Hold changes_of_reach
unfolding opens
reach_hold = record { shown = refl }

pub scalars_law : Scalars
scalars_law = (days_hold, nums_hold, reach_hold)
