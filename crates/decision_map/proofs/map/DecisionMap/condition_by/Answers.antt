use Rattle.std.proofs.Common.{arith}
use Rattle.std.proofs.lemmas.Grind.{common_steps}
use Rattle.decision_map.proofs.map.DecisionMap.condition_by.Goals as goal

pub role_at-requires : goal.role_at-requires
role_at-requires c = grind (arith, common_steps) steps 2000000
