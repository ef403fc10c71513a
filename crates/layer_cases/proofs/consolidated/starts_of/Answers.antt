use Rattle.std.proofs.Common.{◌≡◌, ◌++◌, ◌∷◌, [], ap, sym, ◌∙◌, arith}
use Rattle.std.proofs.lemmas.List.{take_all}
use Rattle.coverage_set.proofs.Replayed.{taken_at}
use Rattle.layer_cases.proofs.consolidated.starts_of.Goals as goal

pub loop-at-preserved : goal.loop-at-preserved
loop-at-preserved c =
    c.in_ok-push.ensures.items
    ∙ (ap (λ items. items ++ c.start.result ∷ []) c.loop-at.invariant ∙ sym (taken_at c.args.view.now.starts c.loop-at.at c.start.result c.start.ensures))

pub returns : goal.returns
returns c = c.loop-at.invariant ∙ take_all c.loop-at.at c.args.view.now.starts (omega (arith, c.starts-at-end.ensures, c.loop-at-test.false))
