use Rattle.std.proofs.Common.{rules}
use Rattle.trace_format.proofs.reader.TraceReader.next.Goals as goal

pub returns-in_default : goal.returns-in_default
returns-in_default g = search rules

pub returns-in-Err : goal.returns-in-Err
returns-in-Err g = search rules
