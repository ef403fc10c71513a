use Rattle.std.proofs.Common.{arith}
use Rattle.std.proofs.lemmas.Grind.{common_steps}
use Rattle.spelling.proofs.file.checked.Goals as goal

pub returns-in_err-closing : goal.returns-in_err-closing
returns-in_err-closing c = grind (arith, common_steps) steps 2000000

pub returns-in-Err-Fault : goal.returns-in-Err-Fault
returns-in-Err-Fault g c = grind (arith, common_steps)

pub returns : goal.returns
returns g c = grind (arith, common_steps)
