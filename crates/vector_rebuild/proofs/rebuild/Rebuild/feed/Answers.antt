use Rattle.std.proofs.Common.{◌≡◌, List, Some, ap, subst, ◌∙◌}
use Rattle.std.proofs.lemmas.Result.{err_from_is_err_and}
use Rattle.condition_graph.specs.Target.{place_of}
use Rattle.cov_base.specs.Graph.{Next, Edges, next_in}
use Rattle.object_facts.proofs.Fair.{fair}
use Rattle.object_facts.specs.Object.{facts_of}
use Rattle.transcript.specs.Replay.{put_half}
use Rattle.transcript.specs.Visit.{Key}
use Rattle.vector_rebuild.specs.Rebuilt.{visit_as, kept_of, taken_by, under_way}
use Rattle.vector_rebuild.proofs.Fed.{IsTaken, taken, now_holds, answers, answers_computed, refuses, edge_of, coming_to}
use Rattle.vector_rebuild.proofs.rebuild.Rebuild.feed.Goals as goal

-- the edge of the visit, as the facts have it
edge_is : (c : goal.After-event) → place_of c.next-next.result ≡ edge_of (facts_of c.args.map.now) (visit_as c.visit_of-visit.result)
edge_is c =
    c.next-next.ensures
    ∙ ap (λ (g : List Edges). next_in g c.visit_of-visit.result.step.node.0 c.visit_of-visit.result.step.value) c.graph.ensures.exact

is_taken : (c : goal.After-event) → IsTaken (facts_of c.args.map.now) c.args.self.now (visit_as c.visit_of-visit.result) c.in_ok-completed.completed
is_taken c =
    let o = facts_of c.args.map.now in
    let v = visit_as c.visit_of-visit.result in
    taken o c.args.self.now v c.in_ok-completed.completed
    (subst (λ (next : Next). taken_by next v.step (coming_to c.args.self.now v) ≡ Some c.in_ok-completed.completed) (edge_is c) c.in_ok-completed.ensures.answer)

pub returns-clause-fed : goal.returns-clause-fed
returns-clause-fed c fed holds =
    let o = facts_of c.args.map.now in
    let old = c.args.self.now in
    let v = visit_as c.visit_of-visit.result in
    now_holds o old c.take.new.self fed c.args.entry v c.in_ok-completed.completed c.visit_of-visit.ensures.visit (is_taken c)
    (subst (λ (next : Next). (k : Key) → kept_of c.take.new.self k ≡ put_half (kept_of old) v.key (under_way next v.step (coming_to old v)) k)
    (edge_is c) c.in_ok-completed.ensures.after)
    c.in_ok-completed.ensures.count holds

pub returns-clause-event : goal.returns-clause-event
returns-clause-event c fed holds =
    rw c.event.ensures
    (answers (facts_of c.args.map.now) (fair c.args.map.now c.requires.sound) c.args.self.now fed c.args.entry (visit_as c.visit_of-visit.result)
    c.in_ok-completed.completed c.visit_of-visit.ensures.visit (is_taken c) holds)

pub returns-clause-computed : goal.returns-clause-computed
returns-clause-computed c fed holds =
    rw c.event.ensures
    (answers_computed (facts_of c.args.map.now) c.args.self.now fed c.args.entry (visit_as c.visit_of-visit.result)
    c.in_ok-completed.completed c.visit_of-visit.ensures.visit (is_taken c) holds)

pub returns-in_err-completed-clause-broken : goal.returns-in_err-completed-clause-broken
returns-in_err-completed-clause-broken c =
    let p = err_from_is_err_and c.from_residual.result c.from_residual.ensures.1 in
    rw (p.1, p.2)
    (λ fed holds. refuses (facts_of c.args.map.now) c.args.self.now fed c.args.entry (visit_as c.visit_of-visit.result) c.in_err-completed.field-0.0
    c.visit_of-visit.ensures.visit c.in_err-completed.ensures.off holds)
