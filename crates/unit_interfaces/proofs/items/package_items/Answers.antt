use Rattle.std.proofs.Common.{refl}
use Rattle.std.proofs.lemmas.Result.{err_from_is_err_and}
use Rattle.ada_rules.specs.Units.{package_item, package_items}
use Rattle.program_walk.proofs.GoingLaws.{inside_continues, goes_nowhere, then_goes, stays_behind, refused_behind}
use Rattle.program_walk.proofs.InsideLaws.{stays_open}
use Rattle.unit_interfaces.proofs.GoingLaws.{inside_advances}
use Rattle.unit_interfaces.proofs.ItemLaws.{reaches_first, reaches_next, refuses_next, reaches_last}
use Rattle.unit_interfaces.proofs.items.package_items.Goals as goal

pub loop-item-init : goal.loop-item-init
loop-item-init c = record {
  rest = λ k env h b. reaches_first package_item package_items c.args.context.now c.args.walk.now k env c.args.items.now h;
  inside = goes_nowhere c.args.walk.now;
}

pub loop-item-preserved : goal.loop-item-preserved
loop-item-preserved c = record {
  rest = λ k env h b.
      let middle = c.loop-item.walk in
      let new = c.package_item.new.walk in
      let goes = c.in_ok-package_item.ensures.goes (stays_open _ _ (c.loop-item.invariant.inside h.symbols.inside).symbols) in
      let r = c.loop-item.invariant.rest k env h (inside_continues middle new goes k b) in
      reaches_next package_item package_items (λ env s p x xs. refl) c.args.context.now c.args.walk.now middle k env c.args.items.now c.loop-item.item-index r
      _ new c.loop-item-test.true c.item-item.is (inside_advances middle new goes) b (λ p. c.in_ok-package_item.ensures.comes p k r.here_now r.stands b);
  inside = λ h.
      let a = c.loop-item.invariant.inside h in
      then_goes _ _ _ a (c.in_ok-package_item.ensures.goes (stays_open _ _ a.symbols));
}

pub returns-in_err-package_item-clause-comes : goal.returns-in_err-package_item-clause-comes
returns-in_err-package_item-clause-comes c p k env h b =
    let e = err_from_is_err_and c.from_residual.result c.from_residual.ensures.1 in
    rw (e.1, e.2) (let middle = c.loop-item.walk in
    let new = c.package_item.new.walk in
    let f = c.in_err-package_item.field-0.0 in
    let stays = c.in_err-package_item.ensures.goes (stays_open _ _ (c.loop-item.invariant.inside h.symbols.inside).symbols) in
    refused_behind middle new k f _ stays b (λ before.
    let r = c.loop-item.invariant.rest k env h before in
    refuses_next package_item package_items (λ env s p x xs. refl) c.args.context.now c.args.walk.now middle k env c.args.items.now c.loop-item.item-index r
    _ f p c.loop-item-test.true c.item-item.is (c.in_err-package_item.ensures.comes p k r.here_now r.stands b)))

pub returns-in_err-package_item-clause-goes : goal.returns-in_err-package_item-clause-goes
returns-in_err-package_item-clause-goes c h =
    let e = err_from_is_err_and c.from_residual.result c.from_residual.ensures.1 in
    rw (e.1, e.2) (let a = c.loop-item.invariant.inside h in
    stays_behind c.args.walk.now c.loop-item.walk c.package_item.new.walk c.in_err-package_item.field-0.0
    (inside_continues c.args.walk.now c.loop-item.walk a)
    (c.in_err-package_item.ensures.goes (stays_open _ _ a.symbols)))

pub returns-clause-comes : goal.returns-clause-comes
returns-clause-comes c p k env h b =
    reaches_last package_item package_items (λ env s p. refl) c.args.context.now c.args.walk.now c.loop-item.walk k env c.args.items.now c.loop-item.item-index
    (c.loop-item.invariant.rest k env h b) p c.loop-item-test.false

pub returns-clause-goes : goal.returns-clause-goes
returns-clause-goes c = c.loop-item.invariant.inside
