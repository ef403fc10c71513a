use Rattle.std.proofs.lemmas.Result.{on_ok_weaker}
use Rattle.kernel_code.proofs.LineParts.{three_parts}
use Rattle.kernel_code.proofs.emitter.Emitter.fill.Goals as goal

pub returns : goal.returns
returns c =
    on_ok_weaker c.call_piece.result
    (three_parts _ _ _ _ _ _ _ c.in_ok-check_words.ensures c.in_ok-in_bytes.ensures)
    c.call_piece.ensures
