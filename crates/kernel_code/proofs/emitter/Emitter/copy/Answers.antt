use Rattle.std.proofs.lemmas.Result.{on_ok_weaker}
use Rattle.kernel_code.proofs.LineParts.{copy_put}
use Rattle.kernel_code.proofs.emitter.Emitter.copy.Goals as goal

pub returns : goal.returns
returns c =
    on_ok_weaker c.copy_loop.result
    (copy_put c.args.raise_to c.args.place c.args.to c.args.from c.args.words _ _ _ _ _ _ _ _
    c.word_count-count.ensures c.in_ok-second.ensures.number c.in_ok-turn.ensures.number c.in_ok-check_words.ensures
    c.in_ok-check_words-2.ensures c.in_ok-set_copy.ensures)
    c.copy_loop.ensures
