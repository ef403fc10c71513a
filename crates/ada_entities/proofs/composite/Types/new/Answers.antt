use Rattle.std.proofs.lemmas.Grind.{common_steps}
use Rattle.std.proofs.Common.{arith}
use Rattle.ada_entities.proofs.TableLaws.{nothing_there}
use Rattle.ada_entities.proofs.composite.Types.new.Goals as goal

pub returns : goal.returns
returns c =
    nothing_there c.loop.instances.items c.new-2.result.items c.loop.counter c.args.others c.loop.invariant c.new-2.ensures.items
    (omega (arith, c.loop.auto.counter-end, c.loop-test.false))

pub loop-preserved : goal.loop-preserved
loop-preserved c = grind (arith, common_steps)
