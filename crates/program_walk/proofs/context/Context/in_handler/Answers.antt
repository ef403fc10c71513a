use Rattle.program_walk.proofs.Following.{handling}
use Rattle.program_walk.proofs.context.Context.in_handler.Goals as goal

pub returns : goal.returns
returns c w k env h = handling c.args.self w k env h
