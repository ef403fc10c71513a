use Rattle.std.proofs.Common.{refl, sym, ◌∙◌}
use Rattle.ada_phrases.specs.Answers.{counted}
use Rattle.specifications.proofs.ObjectLaws.{turn_limit, all_limited}
use Rattle.specifications.proofs.objects.note_limit.Goals as goal

pub loop-name-init : goal.loop-name-init
loop-name-init c s = refl

pub loop-name-preserved : goal.loop-name-preserved
loop-name-preserved c s =
    sym (turn_limit c.args.names.now c.loop-name.name-index _ c.loop-name-test.true c.name-item.is c.loop-name.number _ (counted c.loop-name.decisions s) _
    c.in_ok-number.ensures.number (c.in_ok-note_excess.ensures s))
    ∙ c.loop-name.invariant s

pub returns : goal.returns
returns c s =
    sym (all_limited c.args.names.now c.loop-name.name-index c.loop-name-test.false c.loop-name.number (counted c.loop-name.decisions s))
    ∙ c.loop-name.invariant s
