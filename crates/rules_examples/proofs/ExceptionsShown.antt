-- Shown by computing.
use Rattle.std.proofs.Common.{refl}
use Rattle.expression_parser.specs.Extents.{opens}
use Rattle.rules_examples.specs.Cases.{Hold}
use Rattle.rules_examples.specs.Exceptions.{Exceptions, changes_of_guard, changes_of_errors, changes_of_depth}

guard_hold : Hold changes_of_guard
unfolding opens
guard_hold = record { shown = refl }

errors_hold : Hold changes_of_errors
unfolding opens
errors_hold = record { shown = refl }

depth_hold : Hold changes_of_depth
unfolding opens
depth_hold = record { shown = refl }

pub exceptions_law : Exceptions
exceptions_law = (guard_hold, errors_hold, depth_hold)
