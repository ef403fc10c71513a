use Rattle.std.proofs.Common.{rules}
use Rattle.trace_format.proofs.head.head_of.Goals as goal

pub returns : goal.returns
returns c = search rules
