-- Shown by computing.
use Rattle.std.proofs.Common.{refl}
use Rattle.expression_parser.specs.Extents.{opens}
use Rattle.rules_examples.specs.Cases.{Hold}
use Rattle.rules_examples.specs.Packages.{Packages, changes_of_stack, changes_of_funcs, changes_of_modes, changes_of_consts}

stack_hold : Hold changes_of_stack
unfolding opens
stack_hold = record { shown = refl }

funcs_hold : Hold changes_of_funcs
unfolding opens
funcs_hold = record { shown = refl }

modes_hold : Hold changes_of_modes
unfolding opens
modes_hold = record { shown = refl }

consts_hold : Hold changes_of_consts
unfolding opens
consts_hold = record { shown = refl }

pub packages_law : Packages
packages_law = (stack_hold, funcs_hold, modes_hold, consts_hold)
