use Rattle.unit_walk.proofs.InstantiatingLaws.{judged}
use Rattle.unit_walk.proofs.laws.instances_are_judged.Goals as goal

pub returns : goal.returns
returns c env s p n k i = judged env s p n k i
