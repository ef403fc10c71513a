-- The test holds in all instances if it does in those that are left.
use Rattle.std.proofs.Common.{◌≡◌, drop}
use Rattle.std.specs.List.{list_all}
use Rattle.ada_rules.specs.Statics.{holds}
use Rattle.ada_judged.specs.ada_entities.specs.EntityViews.{Tables}
use Rattle.ada_demands.specs.DemandViews.{test_of}
use Rattle.ada_demands.specs.SpanViews.{listed, Begins}
use Rattle.ada_demands.proofs.facts.Instances.all_hold.Given as goal

abbrev pub invariant-loop-instance : goal.invariant-loop-instance
invariant-loop-instance l =
    (k : Tables) → Begins (listed l.spans) k
    → list_all (λ n. holds l.self n (test_of k l.test)) (drop l.instance-index l.places) ≡ list_all (λ n. holds l.self n (test_of k l.test)) l.places
