use Rattle.std.proofs.Common.{arith}
use Rattle.std.proofs.lemmas.Grind.{common_steps}
use Rattle.exemptions.proofs.mark.mark_at.Goals as goal

pub returns-in-Some-behind_exempt_on : goal.returns-in-Some-behind_exempt_on
returns-in-Some-behind_exempt_on c = grind (arith, common_steps) steps 2000000
