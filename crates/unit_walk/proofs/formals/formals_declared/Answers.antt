use Rattle.std.proofs.lemmas.Result.{err_from_is_err_and}
use Rattle.program_walk.proofs.GoingLaws.{inside_continues, goes_nowhere, then_goes, stays_behind, refused_behind}
use Rattle.program_walk.proofs.InsideLaws.{stays_open}
use Rattle.unit_walk.proofs.FormalWalks.{reaches_first, reaches_next, refuses_next, reaches_last}
use Rattle.unit_walk.proofs.formals.formals_declared.Goals as goal

pub loop-formal-init : goal.loop-formal-init
loop-formal-init c = record {
  rest = λ k env h b. reaches_first c.args.context.now c.args.walk.now k env c.args.formals.now h;
  inside = goes_nowhere c.args.walk.now;
}

pub loop-formal-preserved : goal.loop-formal-preserved
loop-formal-preserved c = record {
  rest = λ k env h b.
      let middle = c.loop-formal.walk in
      let new = c.formal_declared.new.walk in
      let goes = c.in_ok-formal_declared.ensures.goes (stays_open _ _ (c.loop-formal.invariant.inside h.symbols.inside).symbols) in
      let before = inside_continues middle new goes k b in
      let r = c.loop-formal.invariant.rest k env h before in
      reaches_next c.args.context.now c.args.walk.now middle k env c.args.formals.now c.loop-formal.formal-index c.loop-formal.place r _ new _
      c.loop-formal-test.true c.formal-item.is c.in_ok-place.ensures.number goes b
      (c.in_ok-formal_declared.ensures.comes _ k r.here_now r.stands b);
  inside = λ h.
      let a = c.loop-formal.invariant.inside h in
      then_goes _ _ _ a (c.in_ok-formal_declared.ensures.goes (stays_open _ _ a.symbols));
}

pub returns-in_err-formal_declared-clause-comes : goal.returns-in_err-formal_declared-clause-comes
returns-in_err-formal_declared-clause-comes c p k env h b =
    let e = err_from_is_err_and c.from_residual.result c.from_residual.ensures.1 in
    rw (e.1, e.2) (let middle = c.loop-formal.walk in
    let new = c.formal_declared.new.walk in
    let f = c.in_err-formal_declared.field-0.0 in
    let stays = c.in_err-formal_declared.ensures.goes (stays_open _ _ (c.loop-formal.invariant.inside h.symbols.inside).symbols) in
    refused_behind middle new k f _ stays b (λ before.
    let r = c.loop-formal.invariant.rest k env h before in
    refuses_next c.args.context.now c.args.walk.now middle k env c.args.formals.now c.loop-formal.formal-index c.loop-formal.place r _ f p
    c.loop-formal-test.true c.formal-item.is (c.in_err-formal_declared.ensures.comes _ k r.here_now r.stands b)))

pub returns-in_err-formal_declared-clause-goes : goal.returns-in_err-formal_declared-clause-goes
returns-in_err-formal_declared-clause-goes c h =
    let e = err_from_is_err_and c.from_residual.result c.from_residual.ensures.1 in
    rw (e.1, e.2) (let a = c.loop-formal.invariant.inside h in
    stays_behind c.args.walk.now c.loop-formal.walk c.formal_declared.new.walk c.in_err-formal_declared.field-0.0
    (inside_continues c.args.walk.now c.loop-formal.walk a) (c.in_err-formal_declared.ensures.goes (stays_open _ _ a.symbols)))

pub returns-clause-comes : goal.returns-clause-comes
returns-clause-comes c p k env h b =
    reaches_last c.args.context.now c.args.walk.now c.loop-formal.walk k env c.args.formals.now c.loop-formal.formal-index c.loop-formal.place
    (c.loop-formal.invariant.rest k env h b) p c.loop-formal-test.false

pub returns-clause-goes : goal.returns-clause-goes
returns-clause-goes c = c.loop-formal.invariant.inside
