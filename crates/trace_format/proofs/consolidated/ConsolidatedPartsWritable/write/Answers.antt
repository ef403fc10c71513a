use Rattle.std.proofs.Common.{rules}
use Rattle.std.proofs.Common.{arith}
use Rattle.std.proofs.lemmas.Grind.{common_steps}
use Rattle.trace_format.proofs.consolidated.ConsolidatedPartsWritable.write.Goals as goal

pub returns : goal.returns
returns c = record { spelled = grind (arith, common_steps); fits = search rules }
