use Rattle.std.proofs.lemmas.Result.{err_from_is_err_and}
use Rattle.program_walk.proofs.GoingLaws.{inside_continues, goes_nowhere, then_goes, stays_behind, refused_behind}
use Rattle.program_walk.proofs.InsideLaws.{stays_open}
use Rattle.specifications.proofs.ParameterWalks.{reaches_first, reaches_next, refuses_next, reaches_last}
use Rattle.specifications.proofs.parameters.parameters.Goals as goal

pub loop-group-init : goal.loop-group-init
loop-group-init c = record {
  rest = λ k env h b. rw c.new-parameters.ensures.items (reaches_first c.args.context.now c.args.walk.now k env c.args.groups.now h);
  inside = goes_nowhere c.args.walk.now;
}

pub loop-group-preserved : goal.loop-group-preserved
loop-group-preserved c = record {
  rest = λ k env h b.
      let middle = c.loop-group.walk in
      let new = c.add_parameters.new.walk in
      let goes = c.in_ok-add_parameters.ensures.goes (stays_open _ _ (c.loop-group.invariant.inside h.symbols.inside).symbols) in
      let before = inside_continues middle new goes k b in
      let r = c.loop-group.invariant.rest k env h before in
      reaches_next c.args.context.now c.args.walk.now middle k env c.args.groups.now c.loop-group.group-index
      c.loop-group.parameters.items r _ new c.add_parameters.new.parameters.items c.loop-group-test.true c.group-item.is goes b
      (c.in_ok-add_parameters.ensures.comes k r.here_now r.stands b);
  inside = λ h.
      let a = c.loop-group.invariant.inside h in
      then_goes _ _ _ a (c.in_ok-add_parameters.ensures.goes (stays_open _ _ a.symbols));
}

pub returns-in_err-add_parameters-clause-comes : goal.returns-in_err-add_parameters-clause-comes
returns-in_err-add_parameters-clause-comes c p k env h b =
    let e = err_from_is_err_and c.from_residual.result c.from_residual.ensures.1 in
    rw (e.1, e.2) (let middle = c.loop-group.walk in
    let new = c.add_parameters.new.walk in
    let f = c.in_err-add_parameters.field-0.0 in
    let stays = c.in_err-add_parameters.ensures.goes (stays_open _ _ (c.loop-group.invariant.inside h.symbols.inside).symbols) in
    refused_behind middle new k f _ stays b (λ before.
    let r = c.loop-group.invariant.rest k env h before in
    refuses_next c.args.context.now c.args.walk.now middle k env c.args.groups.now c.loop-group.group-index
    c.loop-group.parameters.items r _ f p c.loop-group-test.true c.group-item.is
    (c.in_err-add_parameters.ensures.comes k r.here_now r.stands b)))

pub returns-in_err-add_parameters-clause-goes : goal.returns-in_err-add_parameters-clause-goes
returns-in_err-add_parameters-clause-goes c h =
    let e = err_from_is_err_and c.from_residual.result c.from_residual.ensures.1 in
    rw (e.1, e.2) (let a = c.loop-group.invariant.inside h in
    stays_behind c.args.walk.now c.loop-group.walk c.add_parameters.new.walk c.in_err-add_parameters.field-0.0
    (inside_continues c.args.walk.now c.loop-group.walk a) (c.in_err-add_parameters.ensures.goes (stays_open _ _ a.symbols)))

pub returns-clause-comes : goal.returns-clause-comes
returns-clause-comes c p k env h b =
    let w = c.loop-group.walk in
    reaches_last c.args.context.now c.args.walk.now w k env c.args.groups.now c.loop-group.group-index c.loop-group.parameters.items
    (c.loop-group.invariant.rest k env h b) p c.loop-group-test.false

pub returns-clause-goes : goal.returns-clause-goes
returns-clause-goes c = c.loop-group.invariant.inside
