use Rattle.std.proofs.lemmas.Result.{err_from_is_err_and}
use Rattle.program_walk.proofs.GoingLaws.{inside_continues, goes_nowhere, then_goes, stays_behind, refused_behind}
use Rattle.program_walk.proofs.InsideLaws.{stays_open}
use Rattle.declarations.proofs.AllWalks.{reaches_first, reaches_next, refuses_next, reaches_last}
use Rattle.declarations.proofs.kinds.all_declared.Goals as goal

pub loop-declaration-init : goal.loop-declaration-init
loop-declaration-init c = record {
  rest = λ k env h b. rw c.new-made.ensures.items (reaches_first c.args.context.now c.args.walk.now k env c.args.declarations.now h);
  inside = goes_nowhere c.args.walk.now;
}

pub loop-declaration-preserved : goal.loop-declaration-preserved
loop-declaration-preserved c = record {
  rest = λ k env h b.
      let middle = c.loop-declaration.walk in
      let new = c.declared.new.walk in
      let goes = c.in_ok-declared.ensures.goes (stays_open _ _ (c.loop-declaration.invariant.inside h.symbols.inside).symbols) in
      let before = inside_continues middle new goes k b in
      let r = c.loop-declaration.invariant.rest k env h before in
      reaches_next c.args.context.now c.args.walk.now middle k env c.args.declarations.now c.loop-declaration.declaration-index
      c.loop-declaration.made.items r _ new c.declared.new.made.items c.loop-declaration-test.true c.declaration-item.is goes b
      (c.in_ok-declared.ensures.comes k r.here r.stands b);
  inside = λ h.
      let a = c.loop-declaration.invariant.inside h in
      then_goes _ _ _ a (c.in_ok-declared.ensures.goes (stays_open _ _ a.symbols));
}

pub returns-in_err-declared-clause-comes : goal.returns-in_err-declared-clause-comes
returns-in_err-declared-clause-comes c p k env h b =
    let e = err_from_is_err_and c.from_residual.result c.from_residual.ensures.1 in
    rw (e.1, e.2) (let middle = c.loop-declaration.walk in
    let new = c.declared.new.walk in
    let f = c.in_err-declared.field-0.0 in
    let stays = c.in_err-declared.ensures.goes (stays_open _ _ (c.loop-declaration.invariant.inside h.symbols.inside).symbols) in
    refused_behind middle new k f _ stays b (λ before.
    let r = c.loop-declaration.invariant.rest k env h before in
    refuses_next c.args.context.now c.args.walk.now middle k env c.args.declarations.now c.loop-declaration.declaration-index
    c.loop-declaration.made.items r _ f p c.loop-declaration-test.true c.declaration-item.is
    (c.in_err-declared.ensures.comes k r.here r.stands b)))

pub returns-in_err-declared-clause-goes : goal.returns-in_err-declared-clause-goes
returns-in_err-declared-clause-goes c h =
    let e = err_from_is_err_and c.from_residual.result c.from_residual.ensures.1 in
    rw (e.1, e.2) (let a = c.loop-declaration.invariant.inside h in
    stays_behind c.args.walk.now c.loop-declaration.walk c.declared.new.walk c.in_err-declared.field-0.0
    (inside_continues c.args.walk.now c.loop-declaration.walk a) (c.in_err-declared.ensures.goes (stays_open _ _ a.symbols)))

pub returns-clause-comes : goal.returns-clause-comes
returns-clause-comes c p k env h b =
    let w = c.loop-declaration.walk in
    reaches_last c.args.context.now c.args.walk.now w k env c.args.declarations.now c.loop-declaration.declaration-index c.loop-declaration.made.items
    (c.loop-declaration.invariant.rest k env h b) p c.loop-declaration-test.false

pub returns-clause-goes : goal.returns-clause-goes
returns-clause-goes c = c.loop-declaration.invariant.inside
