use Rattle.specifications.proofs.RoutineLaws.{routine_is}
use Rattle.specifications.proofs.routines.routine_with.Goals as goal

pub returns : goal.returns
returns c k env name region w generic body =
    routine_is k env region c.args.generic c.owner.result name c.args.body w c.args.profile c.values.result generic c.owner.ensures body (c.values.ensures k)
