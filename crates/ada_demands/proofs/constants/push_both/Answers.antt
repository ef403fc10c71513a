use Rattle.std.proofs.Common.{arith}
use Rattle.std.proofs.lemmas.Grind.{common_steps}
use Rattle.std.proofs.Common.{rules}
use Rattle.ada_demands.proofs.constants.push_both.Goals as goal

pub returns-in-Err : goal.returns-in-Err
returns-in-Err c = record { group_kept = grind (arith, common_steps); grouped = search rules; kept = grind (arith, common_steps); declared = search rules }
