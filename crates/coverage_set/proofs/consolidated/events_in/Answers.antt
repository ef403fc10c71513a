use Rattle.std.proofs.Common.{◌≡◌, ◌+◌, ◌++◌, map, drop, refl, sym, subst, arith}
use Rattle.std.proofs.lemmas.Grind.{common_steps}
use Rattle.std.specs.Prelude.{◌↔◌}
use Rattle.cov_base.specs.Lists.{Somewhere}
use Rattle.coverage_set.specs.Consolidated.{start_of, done_of, events_in}
use Rattle.coverage_set.proofs.Turns.{one_more, none_left}
use Rattle.coverage_set.proofs.consolidated.events_in.Goals as goal

pub loop-at-preserved : goal.loop-at-preserved
loop-at-preserved c =
    let starts = c.args.view.now.starts in
    subst (λ items. items ++ map start_of (drop (c.loop-at.at + 1) starts) ≡ map start_of starts) (sym c.in_ok-push.ensures.items)
    (one_more start_of (map start_of starts) c.loop-at.events.items starts c.loop-at.at c.start-start.result c.start-start.ensures c.loop-at.invariant)

pub loop-at-2-preserved : goal.loop-at-2-preserved
loop-at-2-preserved c =
    let vectors = c.args.view.now.vectors in
    subst (λ items. items ++ map done_of (drop (c.loop-at-2.at + 1) vectors) ≡ events_in c.args.view.now) (sym c.in_ok-push-2.ensures.items)
    (one_more done_of (events_in c.args.view.now) c.loop-at-2.events.items vectors c.loop-at-2.at c.vector-done.result c.vector-done.ensures c.loop-at-2.invariant)

pub returns : goal.returns
returns c =
    let same = none_left (map done_of) refl (events_in c.args.view.now) c.loop-at-2.events.items c.args.view.now.vectors c.loop-at-2.at
    (omega (arith, c.vectors-at-end.ensures, c.loop-at-2-test.false)) c.loop-at-2.invariant in
    λ e. subst (λ xs. Somewhere (λ x. x ≡ e) c.of.result ↔ Somewhere (λ x. x ≡ e) xs) same (c.of.ensures e)

pub loop-at-2-init : goal.loop-at-2-init
loop-at-2-init c = grind (arith, common_steps) steps 2000000
