use Rattle.std.proofs.Common.{rules}
use Rattle.trace_format.proofs.reader.TraceReader.in_history.Goals as goal

pub returns : goal.returns
returns g = search rules
