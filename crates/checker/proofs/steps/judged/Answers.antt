use Rattle.std.proofs.Common.{◌∙◌}
use Rattle.walked_program.proofs.EndLaws.{judged_at_end}
use Rattle.checker.proofs.steps.judged.Goals as goal

pub returns : goal.returns
returns c l whole =
    judged_at_end c.args.step c.args.library.now l c.args.main.now _ c.walk_over-walked.result c.ended.result c.ended.ensures
    (c.walk_over-walked.ensures l whole c.in_ok-whole.ensures.walk (c.in_ok-whole.ensures.instances ∙ c.in_ok-instances.ensures))
