use Rattle.std.proofs.Common.{arith}
use Rattle.trace_record.proofs.Histories.{short_history}
use Rattle.trace_record.proofs.laws.histories_are_no_longer_than_runs.Goals as goal

pub returns : goal.returns
returns c = grind (arith, short_history)
