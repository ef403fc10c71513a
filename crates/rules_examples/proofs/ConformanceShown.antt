-- Shown by computing.
use Rattle.std.proofs.Common.{refl}
use Rattle.expression_parser.specs.Extents.{opens}
use Rattle.rules_examples.specs.Cases.{Hold}
use Rattle.rules_examples.specs.Conformance.{Conformance, parameters_of_bodies, results_of_bodies}

parameters_of_bodies_hold : Hold parameters_of_bodies
unfolding opens
parameters_of_bodies_hold = record { shown = refl }

results_of_bodies_hold : Hold results_of_bodies
unfolding opens
results_of_bodies_hold = record { shown = refl }

pub conformance_law : Conformance
conformance_law = (parameters_of_bodies_hold, results_of_bodies_hold)
