use Rattle.std.proofs.lemmas.Grind.{common_steps}
use Rattle.std.proofs.Common.{◌∙◌, arith}
use Rattle.ada_rules.specs.Statics.{instance_values}
use Rattle.ada_demands.proofs.ComputingLaws.{one_computed}
use Rattle.ada_demands.proofs.facts.Instances.constants_in.Goals as goal

pub loop-constant-preserved : goal.loop-constant-preserved
loop-constant-preserved c =
    one_computed (instance_values c.args.self.now) c.args.instance c.of-constant-items.result.now c.loop-constant.constant-index _
    c.loop-constant.values.items c.as_slice.result.now c.push.new.self.items c.next_constant-value.result
    (omega arith) c.as_slice.ensures.value c.next_constant-value.ensures c.in_ok-push.ensures.items
    ∙ c.loop-constant.invariant

pub returns : goal.returns
returns c = grind (arith, common_steps)
