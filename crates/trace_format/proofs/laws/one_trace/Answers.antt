use Rattle.trace_format.proofs.TraceLaws.{one_trace}
use Rattle.trace_format.proofs.laws.one_trace.Goals as goal

pub returns : goal.returns
returns c = one_trace
