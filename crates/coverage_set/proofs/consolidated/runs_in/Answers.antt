use Rattle.std.proofs.Common.{◌≡◌, ◌+◌, ◌++◌, map, drop, refl, sym, subst, ◌∙◌, arith}
use Rattle.std.specs.Prelude.{◌↔◌}
use Rattle.std.proofs.lemmas.List.{map-id}
use Rattle.cov_base.specs.Lists.{Somewhere}
use Rattle.coverage_set.proofs.Turns.{one_more, none_left}
use Rattle.coverage_set.proofs.consolidated.runs_in.Goals as goal

pub loop-at-preserved : goal.loop-at-preserved
loop-at-preserved c =
    let runs = c.args.view.now.runs in
    subst (λ items. items ++ map (λ d. d) (drop (c.loop-at.at + 1) runs) ≡ map (λ d. d) runs) (sym c.in_ok-push.ensures.items)
    (one_more (λ d. d) (map (λ d. d) runs) c.loop-at.runs.items runs c.loop-at.at c.run.result c.run.ensures c.loop-at.invariant)

pub returns : goal.returns
returns c =
    let runs = c.args.view.now.runs in
    let same = none_left (map (λ d. d)) refl (map (λ d. d) runs) c.loop-at.runs.items runs c.loop-at.at (omega (arith, c.runs-at-end.ensures, c.loop-at-test.false)) c.loop-at.invariant ∙ map-id runs in
    λ d. subst (λ xs. Somewhere (λ x. x ≡ d) c.of.result ↔ Somewhere (λ x. x ≡ d) xs) same (c.of.ensures d)
