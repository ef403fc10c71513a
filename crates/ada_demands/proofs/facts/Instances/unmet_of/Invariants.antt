-- The first demand that fails is the first among those that are left.
use Rattle.std.proofs.Common.{◌≡◌, map, drop}
use Rattle.ada_judged.specs.ada_entities.specs.EntityViews.{Tables}
use Rattle.ada_demands.specs.DemandViews.{demand_of}
use Rattle.ada_demands.specs.Meeting.{failing_of, lent}
use Rattle.ada_demands.specs.SpanViews.{listed, Begins}
use Rattle.ada_demands.proofs.facts.Instances.unmet_of.Given as goal

abbrev pub invariant-loop-demand : goal.invariant-loop-demand
invariant-loop-demand l =
    (k : Tables) → Begins (listed l.spans) k
    → failing_of l.self l.instance (map (demand_of k) (lent (drop l.demand-index l.demands))) ≡ failing_of l.self l.instance (map (demand_of k) (lent l.demands))
