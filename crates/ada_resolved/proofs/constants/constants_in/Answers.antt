use Rattle.std.proofs.Common.{◌∙◌, arith}
use Rattle.std.proofs.lemmas.Grind.{common_steps}
use Rattle.ada_meaning.specs.Statics.{values_of}
use Rattle.ada_tree.specs.Programs.{program_of}
use Rattle.ada_resolved.proofs.Instances.{one_more}
use Rattle.ada_resolved.proofs.constants.constants_in.Goals as goal

pub loop-constant-preserved : goal.loop-constant-preserved
loop-constant-preserved c =
    one_more (values_of (program_of c.args.program.now)) c.args.instance c.args.generic c.as_slice-constant-items.result.now c.loop-constant.constant-index _
    c.loop-constant.values.items c.as_slice.result.now c.push.new.self.items c.next_constant-value.result
    (omega arith) c.if-constant-generic.false c.as_slice.ensures.value c.next_constant-value.ensures c.in_ok-push.ensures.items
    ∙ c.loop-constant.invariant

pub loop-constant-preserved-then-constant-generic : goal.loop-constant-preserved-then-constant-generic
loop-constant-preserved-then-constant-generic c = grind (arith, common_steps)

pub returns : goal.returns
returns c = grind (arith, common_steps)
