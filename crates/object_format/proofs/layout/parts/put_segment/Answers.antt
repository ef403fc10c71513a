use Rattle.std.proofs.Common.{arith}
use Rattle.std.proofs.lemmas.Grind.{common_steps}
use Rattle.object_format.specs.Layout.{segment}
use Rattle.object_format.proofs.layout.parts.put_segment.Goals as goal

pub returns-clause-appends : goal.returns-clause-appends
unfolding segment
returns-clause-appends c = grind (arith, common_steps)
