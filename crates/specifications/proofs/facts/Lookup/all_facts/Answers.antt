use Rattle.std.proofs.Common.{◌+◌, ◌++◌, drop, map, arith, refl, ap, ◌∙◌}
use Rattle.ada_rules.specs.Instances as rules
use Rattle.ada_demands.specs.FactViews.{fact_of}
use Rattle.specifications.specs.Actuals.{actual_of}
use Rattle.specifications.proofs.Listing.{one_more, all_there}
use Rattle.specifications.proofs.facts.Lookup.all_facts.Goals as goal

pub loop-actual-preserved : goal.loop-actual-preserved
loop-actual-preserved c known k b spans =
    let xs = c.args.actuals.now in
    let i = c.loop-actual.actual-index in
    let inst = c.args.self.now.instances.now in
    ap (λ ys. map fact_of ys ++ map (λ a. rules.fact_of inst (actual_of k a)) (drop (i + 1) xs)) c.in_ok-push.ensures.items
    ∙ one_more fact_of (λ a. rules.fact_of inst (actual_of k a)) xs c.loop-actual.facts.items (map (λ a. rules.fact_of inst (actual_of k a)) xs) i _ _
    c.in_ok-fact.field-0 (omega arith) refl (c.in_ok-fact.ensures known k b spans) (c.loop-actual.invariant known k b spans)

pub returns : goal.returns
returns c known k b spans =
    let xs = c.args.actuals.now in
    let inst = c.args.self.now.instances.now in
    rw c.from.ensures
    (all_there fact_of (λ a. rules.fact_of inst (actual_of k a)) xs c.loop-actual.facts.items (map (λ a. rules.fact_of inst (actual_of k a)) xs)
    c.loop-actual.actual-index (omega arith) (c.loop-actual.invariant known k b spans))
