use Rattle.std.proofs.lemmas.Result.{on_ok_weaker}
use Rattle.kernel_code.proofs.LineParts.{two_parts}
use Rattle.kernel_code.proofs.emitter.Emitter.load_word.Goals as goal

pub returns : goal.returns
returns c =
    on_ok_weaker c.read_word.result
    (two_parts _ _ _ _ _ c.in_ok-check_words.ensures)
    c.read_word.ensures
