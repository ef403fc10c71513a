-- What is known of the actuals so far, with those that are left, is all.
use Rattle.std.proofs.Common.{◌≡◌, ◌++◌, drop, map}
use Rattle.ada_rules.specs.Instances as rules
use Rattle.ada_demands.specs.FactViews.{fact_of}
use Rattle.specifications.specs.Actuals.{actual_of}
use Rattle.specifications.specs.FactCode.{Finds}
use Rattle.specifications.proofs.facts.Lookup.all_facts.Given as goal

abbrev pub invariant-loop-actual : goal.invariant-loop-actual
invariant-loop-actual l =
    Finds l.fn.self (λ k. map fact_of l.facts.items
    ++ map (λ a. rules.fact_of l.fn.self.instances.now (actual_of k a)) (drop l.actual-index l.fn.actuals)
    ≡ map (λ a. rules.fact_of l.fn.self.instances.now (actual_of k a)) l.fn.actuals)
