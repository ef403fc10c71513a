use Rattle.std.proofs.Common.{arith}
use Rattle.std.proofs.lemmas.Grind.{common_steps}
use Rattle.condition_graph.proofs.reading.Reading.read_byte.Goals as goal

pub returns-in_ok-begin : goal.returns-in_ok-begin
returns-in_ok-begin c = grind (arith, common_steps) steps 2000000
