use Rattle.ada_resolved.proofs.SizeLaws.{size_exact}
use Rattle.ada_resolved.proofs.sizes.sizes_are_exact.Goals as goal

pub returns : goal.returns
returns c = size_exact
