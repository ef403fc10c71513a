use Rattle.std.proofs.Common.{◌∙◌}
use Rattle.trace_format.specs.Trace.{trace_in}
use Rattle.coverage_set.proofs.Starts.{first_decides, reached}
use Rattle.coverage_set.proofs.started.is_covered_at.Goals as goal

pub returns : goal.returns
returns c =
    c.covers.ensures
    ∙ first_decides (trace_in c.args.view.now) c.args.at c.block.result c.args.pc c.blocks-2.ensures.passed.passes c.block.ensures
    (reached c.args.view.now.blocks c.args.at c.block.result c.args.pc c.block.ensures c.requires)
