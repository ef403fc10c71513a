use Rattle.std.proofs.lemmas.Result.{on_ok_weaker}
use Rattle.kernel_code.proofs.LineParts.{three_parts}
use Rattle.kernel_code.proofs.emitter.Emitter.get.Goals as goal

pub returns : goal.returns
returns c =
    on_ok_weaker c.store_left.result
    (three_parts _ _ _ _ _ _ _ c.in_ok-ask.ensures c.in_ok-check_input.ensures)
    c.store_left.ensures
