use Rattle.std.proofs.Common.{sym, ap, ◌∙◌}
use Rattle.ada_demands.specs.DemandViews.{demand_of}
use Rattle.ada_demands.proofs.UnmetLaws.{place_unless, failing_unless}
use Rattle.ada_demands.proofs.unmet.unmet_in.Goals as goal

pub returns-then-branch : goal.returns-then-branch
returns-then-branch c k b =
    sym (failing_unless c.args.instances.now c.args.places.now (demand_of k c.args.demand.now)
    ∙ ap (λ x. place_unless x c.args.demand.now.pos) (sym (c.in_ok-all_hold.ensures k b) ∙ c.if-branch.true))

pub returns : goal.returns
returns c k b =
    sym (failing_unless c.args.instances.now c.args.places.now (demand_of k c.args.demand.now)
    ∙ ap (λ x. place_unless x c.args.demand.now.pos) (sym (c.in_ok-all_hold.ensures k b) ∙ c.if-branch.false))
