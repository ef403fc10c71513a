use Rattle.program_walk.proofs.Following.{looping}
use Rattle.program_walk.proofs.context.Context.in_loop.Goals as goal

pub returns : goal.returns
returns c w k env h = looping c.args.self w k env h
