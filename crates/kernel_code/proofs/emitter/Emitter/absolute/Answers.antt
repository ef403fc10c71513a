use Rattle.std.proofs.lemmas.Result.{on_ok_weaker}
use Rattle.kernel_code.proofs.LineParts.{four_parts}
use Rattle.kernel_code.proofs.emitter.Emitter.absolute.Goals as goal

pub returns : goal.returns
returns c =
    on_ok_weaker c.store_right.result
    (four_parts _ _ _ _ _ _ _ _ _ c.in_ok-load_right.ensures c.in_ok-check_least.ensures c.in_ok-take_magnitude.ensures)
    c.store_right.ensures
