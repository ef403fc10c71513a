-- Shown by computing.
use Rattle.std.proofs.Common.{refl}
use Rattle.expression_parser.specs.Extents.{opens}
use Rattle.rules_examples.specs.Cases.{Hold}
use Rattle.rules_examples.specs.Actuals.{Actuals, units_in_with, types_of_instances, functions_of_instances, values_of_instances}

units_in_with_hold : Hold units_in_with
unfolding opens
units_in_with_hold = record { shown = refl }

types_of_instances_hold : Hold types_of_instances
unfolding opens
types_of_instances_hold = record { shown = refl }

functions_of_instances_hold : Hold functions_of_instances
unfolding opens
functions_of_instances_hold = record { shown = refl }

values_of_instances_hold : Hold values_of_instances
unfolding opens
values_of_instances_hold = record { shown = refl }

pub actuals_law : Actuals
actuals_law = (units_in_with_hold, types_of_instances_hold, functions_of_instances_hold, values_of_instances_hold)
