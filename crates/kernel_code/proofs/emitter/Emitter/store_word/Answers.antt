use Rattle.std.proofs.lemmas.Result.{on_ok_weaker}
use Rattle.kernel_code.proofs.LineParts.{four_parts}
use Rattle.kernel_code.proofs.emitter.Emitter.store_word.Goals as goal

pub returns : goal.returns
returns c =
    on_ok_weaker c.write_word.result
    (four_parts _ _ _ _ _ _ _ _ _ c.in_ok-check_words.ensures c.in_ok-in_bytes.ensures c.in_ok-load_right.ensures)
    c.write_word.ensures
