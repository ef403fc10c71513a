use Rattle.std.proofs.lemmas.Result.{on_ok_weaker}
use Rattle.kernel_code.proofs.LineParts.{three_parts}
use Rattle.kernel_code.proofs.emitter.Emitter.offset.Goals as goal

pub returns : goal.returns
returns c =
    on_ok_weaker c.add_words.result
    (three_parts _ _ _ _ _ _ _ c.in_ok-load_left.ensures c.in_ok-load_right.ensures)
    c.add_words.ensures
