use Rattle.std.proofs.Common.{arith}
use Rattle.std.proofs.lemmas.Grind.{common_steps}
use Rattle.object_format.specs.Layout.{parts, segment, to_cover}
use Rattle.object_format.proofs.layout.parts.read_parts.Goals as goal

pub returns : goal.returns
unfolding parts segment to_cover
returns c = grind (arith, common_steps)
