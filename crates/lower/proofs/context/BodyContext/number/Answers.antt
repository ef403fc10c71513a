use Rattle.std.proofs.Common.{rules}
use Rattle.lower.proofs.context.BodyContext.number.Goals as goal

pub returns : goal.returns
returns c = rw (← c.program.ensures, ← c.number_in.ensures) (search rules)
