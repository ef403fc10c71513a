use Rattle.std.proofs.lemmas.Result.{err_from_is_err_and}
use Rattle.program_walk.proofs.GoingLaws.{inside_continues, goes_nowhere, then_goes, stays_behind, refused_behind}
use Rattle.program_walk.proofs.InsideLaws.{stays_open}
use Rattle.declarations.proofs.FieldWalks.{reaches_first, reaches_next, refuses_next, reaches_last}
use Rattle.declarations.proofs.components.fields.Goals as goal

pub loop-component-init : goal.loop-component-init
loop-component-init c = record {
  rest = λ k env h b. rw c.new-fields.ensures.items (reaches_first c.args.context.now c.args.walk.now k env c.args.components.now h);
  inside = goes_nowhere c.args.walk.now;
}

pub loop-component-preserved : goal.loop-component-preserved
loop-component-preserved c = record {
  rest = λ k env h b.
      let middle = c.loop-component.walk in
      let new = c.add_fields.new.walk in
      let goes = c.in_ok-add_fields.ensures.goes (stays_open _ _ (c.loop-component.invariant.inside h.symbols.inside).symbols) in
      let before = inside_continues middle new goes k b in
      let r = c.loop-component.invariant.rest k env h before in
      reaches_next c.args.context.now c.args.walk.now middle k env c.args.components.now c.loop-component.component-index
      c.loop-component.fields.items r _ new c.add_fields.new.fields.items c.loop-component-test.true c.component-item.is goes b
      (c.in_ok-add_fields.ensures.comes k r.here r.stands b);
  inside = λ h.
      let a = c.loop-component.invariant.inside h in
      then_goes _ _ _ a (c.in_ok-add_fields.ensures.goes (stays_open _ _ a.symbols));
}

pub returns-in_err-add_fields-clause-comes : goal.returns-in_err-add_fields-clause-comes
returns-in_err-add_fields-clause-comes c p k env h b =
    let e = err_from_is_err_and c.from_residual.result c.from_residual.ensures.1 in
    rw (e.1, e.2) (let middle = c.loop-component.walk in
    let new = c.add_fields.new.walk in
    let f = c.in_err-add_fields.field-0.0 in
    let stays = c.in_err-add_fields.ensures.goes (stays_open _ _ (c.loop-component.invariant.inside h.symbols.inside).symbols) in
    refused_behind middle new k f _ stays b (λ before.
    let r = c.loop-component.invariant.rest k env h before in
    refuses_next c.args.context.now c.args.walk.now middle k env c.args.components.now c.loop-component.component-index
    c.loop-component.fields.items r _ f p c.loop-component-test.true c.component-item.is
    (c.in_err-add_fields.ensures.comes k r.here r.stands b)))

pub returns-in_err-add_fields-clause-goes : goal.returns-in_err-add_fields-clause-goes
returns-in_err-add_fields-clause-goes c h =
    let e = err_from_is_err_and c.from_residual.result c.from_residual.ensures.1 in
    rw (e.1, e.2) (let a = c.loop-component.invariant.inside h in
    stays_behind c.args.walk.now c.loop-component.walk c.add_fields.new.walk c.in_err-add_fields.field-0.0
    (inside_continues c.args.walk.now c.loop-component.walk a) (c.in_err-add_fields.ensures.goes (stays_open _ _ a.symbols)))

pub returns-clause-comes : goal.returns-clause-comes
returns-clause-comes c p k env h b =
    let w = c.loop-component.walk in
    reaches_last c.args.context.now c.args.walk.now w k env c.args.components.now c.loop-component.component-index c.loop-component.fields.items
    (c.loop-component.invariant.rest k env h b) p c.loop-component-test.false

pub returns-clause-goes : goal.returns-clause-goes
returns-clause-goes c = c.loop-component.invariant.inside
