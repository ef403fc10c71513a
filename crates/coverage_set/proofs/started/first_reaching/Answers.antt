use Rattle.std.proofs.Common.{◌∙◌, arith}
use Rattle.coverage_set.proofs.Starts.{one_past, none_there}
use Rattle.coverage_set.proofs.started.first_reaching.Goals as goal

pub loop-at-preserved : goal.loop-at-preserved
loop-at-preserved c = λ rows from.
    one_past c.args.view.now.blocks c.loop-at.at c.block.result c.args.pc rows c.block.ensures (omega (arith, c.if-block-pc.false)) from
    ∙ c.loop-at.invariant rows from

pub returns-clause-reaches : goal.returns-clause-reaches
returns-clause-reaches c = none_there c.args.view.now.blocks c.blocks-2.result c.args.pc c.blocks-2.ensures.count
