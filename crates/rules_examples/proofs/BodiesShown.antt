-- Shown by computing.
use Rattle.std.proofs.Common.{refl}
use Rattle.expression_parser.specs.Extents.{opens}
use Rattle.rules_examples.specs.Cases.{Hold}
use Rattle.rules_examples.specs.Bodies.{Bodies, returns_of_bodies, ends_of_functions, case_statements, order_of_handlers, numbers_of_parameters}

returns_of_bodies_hold : Hold returns_of_bodies
unfolding opens
returns_of_bodies_hold = record { shown = refl }

ends_of_functions_hold : Hold ends_of_functions
unfolding opens
ends_of_functions_hold = record { shown = refl }

case_statements_hold : Hold case_statements
unfolding opens
case_statements_hold = record { shown = refl }

order_of_handlers_hold : Hold order_of_handlers
unfolding opens
order_of_handlers_hold = record { shown = refl }

numbers_of_parameters_hold : Hold numbers_of_parameters
unfolding opens
numbers_of_parameters_hold = record { shown = refl }

pub bodies_law : Bodies
bodies_law = (returns_of_bodies_hold, ends_of_functions_hold, case_statements_hold, order_of_handlers_hold, numbers_of_parameters_hold)
