use Rattle.std.proofs.lemmas.Result.{on_ok_weaker}
use Rattle.kernel_code.proofs.LineParts.{four_parts}
use Rattle.kernel_code.proofs.emitter.Emitter.set_copy.Goals as goal

pub returns : goal.returns
returns c =
    on_ok_weaker c.set_count.result
    (four_parts _ _ _ _ _ _ _ _ _ c.in_ok-set_goal.ensures c.in_ok-load_left.ensures c.in_ok-in_bytes.ensures)
    c.set_count.ensures
