-- Shown by computing.
use Rattle.std.proofs.Common.{refl}
use Rattle.ada_meaning.specs.Execution.{deepest}
use Rattle.meaning_examples.specs.Depth.{Deep, Signs, Limits}

pub deep : Deep
unfolding deepest
deep = (refl, refl)

pub signs : Signs
unfolding deepest
signs = refl

pub at_limits : Limits
unfolding deepest
at_limits = (refl, refl, refl, refl)
