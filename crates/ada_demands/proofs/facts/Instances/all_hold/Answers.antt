use Rattle.std.proofs.lemmas.Grind.{common_steps}
use Rattle.std.proofs.Common.{sym, ◌∙◌, arith}
use Rattle.std.specs.List.{list_all}
use Rattle.std.proofs.lemmas.List.{at_drop_all}
use Rattle.ada_rules.specs.Statics.{holds}
use Rattle.ada_demands.specs.DemandViews.{test_of}
use Rattle.ada_demands.proofs.facts.Instances.all_hold.Goals as goal

pub returns : goal.returns
returns c k b =
    sym (at_drop_all (λ us. list_all (λ n. holds c.args.self.now n (test_of k c.args.test.now)) us) c.args.places.now c.loop-instance.instance-index (omega arith))
    ∙ c.loop-instance.invariant k b

pub loop-instance-preserved : goal.loop-instance-preserved
loop-instance-preserved c = grind (arith, common_steps)

pub returns-then-not-branch : goal.returns-then-not-branch
returns-then-not-branch c = grind (arith, common_steps)
