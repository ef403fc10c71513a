-- Shown by computing.
use Rattle.std.proofs.Common.{refl}
use Rattle.expression_parser.specs.Extents.{opens}
use Rattle.rules_examples.specs.Cases.{Hold}
use Rattle.rules_examples.specs.Conditions.{Conditions, changes_of_walk, changes_of_gate, changes_of_short, changes_of_nested}

walk_hold : Hold changes_of_walk
unfolding opens
walk_hold = record { shown = refl }

gate_hold : Hold changes_of_gate
unfolding opens
gate_hold = record { shown = refl }

short_hold : Hold changes_of_short
unfolding opens
short_hold = record { shown = refl }

nested_hold : Hold changes_of_nested
unfolding opens
nested_hold = record { shown = refl }

pub conditions_law : Conditions
conditions_law = (walk_hold, gate_hold, short_hold, nested_hold)
