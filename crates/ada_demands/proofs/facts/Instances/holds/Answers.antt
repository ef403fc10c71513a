use Rattle.std.proofs.Common.{sym, ap, ◌∙◌}
use Rattle.ada_rules.specs.Statics.{holds, is_in, is_ordered}
use Rattle.ada_demands.specs.DemandViews.{test_of}
use Rattle.ada_demands.proofs.facts.Instances.holds.Goals as goal

pub returns-in-Lies : goal.returns-in-Lies
returns-in-Lies c k b =
    let instances = c.args.self.now in
    c.is_in.ensures instances
    ∙ ((λ i. is_in instances (c.tree.ensures i) (c.bounds.ensures i)) ∙ ap (λ t. holds instances c.args.instance (test_of k t)) (sym c.in-Lies.is))

pub returns-in_ok-bounds-in-Chosen : goal.returns-in_ok-bounds-in-Chosen
returns-in_ok-bounds-in-Chosen c k b =
    let instances = c.args.self.now in
    c.is_in-in-Chosen.ensures instances
    ∙ ((λ i. is_in instances (c.tree-in-Chosen.ensures i) (c.in_ok-bounds-in-Chosen.ensures k b i))
    ∙ ap (λ t. holds instances c.args.instance (test_of k t)) (sym c.in-Chosen.is))

pub returns-in-Ordered : goal.returns-in-Ordered
returns-in-Ordered c k b =
    let instances = c.args.self.now in
    c.is_ordered.ensures instances
    ∙ (ap (is_ordered instances) c.range.ensures ∙ ap (λ t. holds instances c.args.instance (test_of k t)) (sym c.in-Ordered.is))
