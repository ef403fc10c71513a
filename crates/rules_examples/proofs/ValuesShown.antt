-- Shown by computing.
use Rattle.std.proofs.Common.{refl}
use Rattle.expression_parser.specs.Extents.{opens}
use Rattle.rules_examples.specs.Cases.{Hold}
use Rattle.rules_examples.specs.Values.{Values, values_of_objects, parts_of_expressions, bounds_of_loops}

values_of_objects_hold : Hold values_of_objects
unfolding opens
values_of_objects_hold = record { shown = refl }

parts_of_expressions_hold : Hold parts_of_expressions
unfolding opens
parts_of_expressions_hold = record { shown = refl }

bounds_of_loops_hold : Hold bounds_of_loops
unfolding opens
bounds_of_loops_hold = record { shown = refl }

pub values_law : Values
values_law = (values_of_objects_hold, parts_of_expressions_hold, bounds_of_loops_hold)
