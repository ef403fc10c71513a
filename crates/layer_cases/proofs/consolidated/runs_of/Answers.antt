use Rattle.std.proofs.Common.{◌≡◌, ◌++◌, ◌∷◌, [], ap, sym, ◌∙◌, arith}
use Rattle.std.proofs.lemmas.List.{take_all}
use Rattle.coverage_set.proofs.Replayed.{taken_at}
use Rattle.layer_cases.proofs.consolidated.runs_of.Goals as goal

pub loop-at-preserved : goal.loop-at-preserved
loop-at-preserved c =
    c.in_ok-push.ensures.items
    ∙ (ap (λ items. items ++ c.run.result ∷ []) c.loop-at.invariant ∙ sym (taken_at c.args.view.now.runs c.loop-at.at c.run.result c.run.ensures))

pub returns : goal.returns
returns c = c.loop-at.invariant ∙ take_all c.loop-at.at c.args.view.now.runs (omega (arith, c.runs-at-end.ensures, c.loop-at-test.false))
