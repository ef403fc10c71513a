use Rattle.std.proofs.Common.{◌≡◌, ◌↔◌, ◌≤◌, List, [], length, true, subst, arith}
use Rattle.std.proofs.lemmas.Grind.{common_steps}
use Rattle.std.proofs.lemmas.Result.{err_from_is_err_and}
use Rattle.decision_map.specs.Roles.{needs_history}
use Rattle.object_facts.specs.Object.{facts_of}
use Rattle.trace_format.specs.declared.trace.HistoryEntry.{HistoryEntry}
use Rattle.cov_base.specs.declared.event.Event.{Event}
use Rattle.cov_base.specs.Lists.{Somewhere}
use Rattle.transcript.specs.Computed.{done_of}
use Rattle.vector_rebuild.specs.Rebuilt.{visits_of}
use Rattle.coverage_set.proofs.Replayed.{everywhere_at, replayed_more, taken_whole, breaks}
use Rattle.coverage_set.proofs.said.replay.Goals as goal

pub loop-at-init : goal.loop-at-init
loop-at-init c = record { holds = c.new-rebuild.ensures.fed (facts_of c.args.map.now); told = λ e. rw c.new-events.ensures (λ some. some, λ some. some) }

pub feed-requires-clause-needed : goal.feed-requires-clause-needed
feed-requires-clause-needed c =
    everywhere_at (λ (h : HistoryEntry). needs_history c.args.map.now h.address ≡ true) c.args.view.now.history c.loop-at.at c.entry.result c.requires.kept c.entry.ensures

pub returns-in_err-event-clause-broken : goal.returns-in_err-event-clause-broken
returns-in_err-event-clause-broken c =
    let p = err_from_is_err_and c.from_residual.result c.from_residual.ensures.1 in
    rw (p.1, p.2)
    (breaks c.args.map.now c.loop-at.rebuild c.args.view.now.history c.loop-at.at c.entry.result c.in_err-event.field-0.0 c.requires.kept c.entry.ensures
    c.loop-at.invariant.holds (c.in_err-event.ensures.broken _ c.loop-at.invariant.holds))

pub loop-at-preserved : goal.loop-at-preserved
loop-at-preserved c =
    replayed_more (facts_of c.args.map.now) c.loop-at.rebuild c.feed.new.self c.loop-at.events c.add.new.events c.args.view.now.history
    c.loop-at.at c.entry.result c.in_ok-event.event c.entry.ensures c.loop-at.invariant c.in_ok-event.ensures.fed c.in_ok-event.ensures.computed c.in_ok-add.ensures

pub returns-clause-events : goal.returns-clause-events
returns-clause-events c = λ e.
    let o = facts_of c.args.map.now in
    let whole : length c.args.view.now.history ≤ c.loop-at.at = omega (arith, c.history-at-end.ensures, c.loop-at-test.false) in
    subst (λ (fed : List HistoryEntry). Somewhere (λ (x : Event). x ≡ e) c.loop-at.events ↔ Somewhere (λ (x : Event). x ≡ e) (done_of o [] (visits_of o fed)))
    (taken_whole c.args.view.now.history c.loop-at.at whole) (c.loop-at.invariant.told e)

pub returns-clause-follow : goal.returns-clause-follow
returns-clause-follow c = grind (arith, common_steps) steps 2000000
