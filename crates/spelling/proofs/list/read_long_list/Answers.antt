use Rattle.std.proofs.Common.{arith}
use Rattle.std.proofs.lemmas.Grind.{common_steps}
use Rattle.spelling.proofs.list.read_long_list.Goals as goal

pub returns : goal.returns
returns g c = grind (arith, common_steps)
