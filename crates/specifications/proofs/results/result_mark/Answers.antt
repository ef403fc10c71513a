use Rattle.specifications.proofs.ResultLaws.{rule_seen}
use Rattle.specifications.proofs.results.result_mark.Goals as goal

pub returns-in-Typing : goal.returns-in-Typing
returns-in-Typing c k region before s =
    rw (c.in-Typing.is, c.ok_or.ensures.value, c.refused.ensures)
    (rule_seen k region c.args.parameters.now c.args.marked s c.args.pos c.function_result.result (c.function_result.ensures k))
