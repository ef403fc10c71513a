use Rattle.std.proofs.Common.{arith}
use Rattle.std.proofs.lemmas.Grind.{common_steps}
use Rattle.ada_library.proofs.dependencies.units_but_bodies.Goals as goal

pub loop-index-preserved-then-is_package_body : goal.loop-index-preserved-then-is_package_body
loop-index-preserved-then-is_package_body c = grind (arith, common_steps)

pub loop-index-preserved : goal.loop-index-preserved
loop-index-preserved c = grind (arith, common_steps)
