use Rattle.std.proofs.Common.{inl, inr, refl, sym, ◌∙◌, arith}
use Rattle.std.proofs.lemmas.Result.{on_ok_weaker}
use Rattle.coverage_set.proofs.ReplaySeen.{some_is, none_is, replay_stopped, replay_stops, replay_fed, replay_refused}
use Rattle.coverage_set.proofs.replay.Replay.see.Goals as goal
use Rattle.coverage_set.proofs.replay.Replay.see.Goals.{then-fed-via-then-fed, then-fed-via-else-fed+then-not-needs_history}

pub returns-then-is_some : goal.returns-then-is_some
returns-then-is_some c = λ history few so_far.
    let at = some_is c.args.self.now.stopped (sym c.if-is_some.ensures) in
    replay_stopped c.args.map.now c.args.self.now history c.args.entry at.0 at.1 so_far

pub returns-then-fed : goal.returns-then-fed
returns-then-fed c = λ history few so_far.
    let going = none_is c.args.self.now.stopped (sym c.if-is_some.ensures) in
    elim c.then-fed.branch [
      | then-fed-via-then-fed w ↦
          replay_stops c.args.map.now c.args.self.now _ history c.args.entry c.fed-fed.result (inl (omega (arith, w.if-fed.true, c.fed-fed.ensures))) refl refl refl going few so_far
      | then-fed-via-else-fed+then-not-needs_history w ↦
          replay_stops c.args.map.now c.args.self.now _ history c.args.entry c.fed-fed.result (inr (sym w.needs_history.ensures.exact ∙ w.if-not-needs_history.true)) refl refl refl going few so_far
    ]

pub returns-in-Ok : goal.returns-in-Ok
returns-in-Ok c =
    let going = none_is c.args.self.now.stopped (sym c.if-is_some.ensures) in
    on_ok_weaker c.add.result (λ added history few so_far.
    replay_fed c.args.map.now c.args.self.now _ history c.args.entry c.in-Ok.event (sym c.needs_history.ensures.exact ∙ c.if-not-needs_history.false)
    c.in-Ok.ensures.fed c.in-Ok.ensures.computed added going going so_far) c.add.ensures

pub returns-in-Err-Fault : goal.returns-in-Err-Fault
returns-in-Err-Fault c = λ history few so_far.
    let going = none_is c.args.self.now.stopped (sym c.if-is_some.ensures) in
    replay_refused c.args.map.now c.args.self.now _ history c.args.entry c.in-Err-Fault.broken c.in-Err-Fault.ensures.refused refl
    (rw c.in-Err-Fault.field-0-is at c.in-Err-Fault.ensures.broken) refl going so_far
