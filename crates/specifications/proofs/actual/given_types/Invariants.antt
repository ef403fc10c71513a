-- The types so far, with those of the actuals that are left, are all.
use Rattle.std.proofs.Common.{◌≡◌, ◌++◌, drop, map, Some}
use Rattle.ada_rules.specs.Entities.{given_type}
use Rattle.ada_entities.specs.Views.{given_of}
use Rattle.ada_entities.specs.EntityViews.{Tables}
use Rattle.specifications.specs.Actuals.{actual_of}
use Rattle.specifications.proofs.actual.given_types.Given as goal

abbrev pub invariant-loop-actual : goal.invariant-loop-actual
invariant-loop-actual l =
    (k : Tables)
    → map (λ t. given_type (Some (given_of t))) l.types.items ++ map (λ a. given_type (Some (actual_of k a))) (drop l.actual-index l.fn.actuals)
    ≡ map (λ a. given_type (Some (actual_of k a))) l.fn.actuals
