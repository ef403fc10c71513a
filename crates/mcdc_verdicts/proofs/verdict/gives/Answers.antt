use Rattle.std.proofs.Common.{arith}
use Rattle.std.proofs.lemmas.Grind.{common_steps}
use Rattle.mcdc_verdicts.proofs.verdict.gives.Goals as goal

pub returns-then-outcome-given : goal.returns-then-outcome-given
returns-then-outcome-given c = grind (arith, common_steps) steps 2000000

pub returns : goal.returns
returns c = grind (arith, common_steps) steps 2000000
