-- Shown by computing.
use Rattle.std.proofs.Common.{refl}
use Rattle.expression_parser.specs.Extents.{opens}
use Rattle.rules_examples.specs.Cases.{Hold}
use Rattle.rules_examples.specs.Whole.{Whole, near_limits, of_rules}

limits_hold : Hold near_limits
unfolding opens
limits_hold = record { shown = refl }

rules_hold : Hold of_rules
unfolding opens
rules_hold = record { shown = refl }

pub whole_law : Whole
whole_law = (limits_hold, rules_hold)
