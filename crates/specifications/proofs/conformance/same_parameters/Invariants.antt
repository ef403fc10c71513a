-- What is left of the parameters is the same if all are.
use Rattle.std.proofs.Common.{◌≡◌, drop}
use Rattle.ada_tree.specs.View.{owner_of}
use Rattle.ada_entities.specs.EntityViews.{Tables}
use Rattle.specifications.proofs.ConformanceLaws.{are_same}
use Rattle.specifications.proofs.conformance.same_parameters.Given as goal

abbrev pub invariant-loop-place : goal.invariant-loop-place
invariant-loop-place l =
    (k : Tables)
    → are_same k (owner_of l.fn.seen) (drop l.place l.fn.declared) (drop l.place l.fn.given) ≡ are_same k (owner_of l.fn.seen) l.fn.declared l.fn.given
