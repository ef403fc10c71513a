use Rattle.trace_format.proofs.ConsolidatedLaws.{one_file}
use Rattle.trace_format.proofs.laws.one_consolidated_file.Goals as goal

pub returns : goal.returns
returns c = one_file
