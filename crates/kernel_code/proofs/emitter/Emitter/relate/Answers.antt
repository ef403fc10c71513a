use Rattle.std.proofs.Common.{◌++◌, [], List, ap, ◌∙◌}
use Rattle.std.proofs.lemmas.Result.{on_ok_weaker}
use Rattle.kernel_code.specs.Line.{Line}
use Rattle.kernel_code.specs.Words.{store_slot}
use Rattle.kernel_code.proofs.LineParts.{two_parts, relate_behind}
use Rattle.kernel_code.proofs.emitter.Emitter.relate.Goals as goal

pub returns : goal.returns
returns c =
    on_ok_weaker c.store_left.result
    (λ h. two_parts _ _ _ _ _ c.in_ok-relate_words.ensures h
    ∙ ap (λ (b : List Line). c.args.self.now ++ b) (relate_behind c.args.relation (store_slot 10 c.args.to [])))
    c.store_left.ensures
