-- Shown by computing.
use Rattle.std.proofs.Common.{refl}
use Rattle.expression_parser.specs.Extents.{opens}
use Rattle.rules_examples.specs.Cases.{Hold}
use Rattle.rules_examples.specs.Doubling.{Doubling, doubles, out_of_order, named_twice, without_value, of_own}

doubles_hold : Hold doubles
unfolding opens
doubles_hold = record { shown = refl }

out_of_order_hold : Hold out_of_order
unfolding opens
out_of_order_hold = record { shown = refl }

named_twice_hold : Hold named_twice
unfolding opens
named_twice_hold = record { shown = refl }

without_value_hold : Hold without_value
unfolding opens
without_value_hold = record { shown = refl }

of_own_hold : Hold of_own
unfolding opens
of_own_hold = record { shown = refl }

pub doubling_law : Doubling
doubling_law = (doubles_hold, out_of_order_hold, named_twice_hold, without_value_hold, of_own_hold)
