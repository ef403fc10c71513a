use Rattle.std.proofs.Common.{arith}
use Rattle.std.proofs.lemmas.Grind.{common_steps}
use Rattle.std.proofs.Common.{rules}
use Rattle.trace_format.proofs.trace.TracePartsWritable.write.Goals as goal

pub put_list-requires-2 : goal.put_list-requires-2
put_list-requires-2 c = search rules

pub returns : goal.returns
returns c = record { spelled = grind (arith, common_steps); fits = search rules }
