use Rattle.std.proofs.Common.{◌∙◌, pos, ap}
use Rattle.ada_resolved.proofs.Fits.{converted_to}
use Rattle.ada_resolved.proofs.arithmetic.length.Goals as goal

pub returns : goal.returns
returns c = c.ok.ensures.value ∙ converted_to c.try_from.result _ _ c.try_from.ensures (ap pos c.values_in.ensures)
