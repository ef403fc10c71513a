use Rattle.std.proofs.Common.{◌∙◌}
use Rattle.specifications.proofs.RoutineLaws.{entered_is}
use Rattle.specifications.proofs.routines.new_routine.Goals as goal

pub returns-clause-named : goal.returns-clause-named
returns-clause-named c k env name region b generic body =
    entered_is k c.in_ok-number.number c.args.completion c.routine_with.result (c.in_ok-number.ensures.number k b)
    ∙ c.routine_with.ensures k env name region c.args.completion generic body
