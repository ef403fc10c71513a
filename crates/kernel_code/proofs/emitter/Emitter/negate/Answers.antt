use Rattle.std.proofs.lemmas.Result.{on_ok_weaker}
use Rattle.kernel_code.proofs.LineParts.{three_parts}
use Rattle.kernel_code.proofs.emitter.Emitter.negate.Goals as goal

pub returns : goal.returns
returns c =
    on_ok_weaker c.opposite.result
    (three_parts _ _ _ _ _ _ _ c.in_ok-load_right.ensures c.in_ok-check_least.ensures)
    c.opposite.ensures
