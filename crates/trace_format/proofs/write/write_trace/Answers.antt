use Rattle.std.proofs.Common.{rules}
use Rattle.trace_format.proofs.write.write_trace.Goals as goal

pub returns : goal.returns
returns c = search rules
