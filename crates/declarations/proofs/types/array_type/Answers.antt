use Rattle.std.proofs.Common.{Ok, refl, sym, ap, ◌∙◌}
use Rattle.std.proofs.lemmas.Result.{err_from_is_err_and}
use Rattle.ada_rules.specs.Environment.{given}
use Rattle.ada_entities.specs.EntityViews.{region_of}
use Rattle.ada_entities.specs.RegionCode.{innermost}
use Rattle.ada_entities.specs.Views.{identity_of}
use Rattle.program_walk.specs.Subtypes.{subtype_in}
use Rattle.program_walk.specs.States.{kept_state, state_of}
use Rattle.program_walk.proofs.GoingLaws.{region_is}
use Rattle.program_walk.proofs.HidingLaws.{symbols_stay}
use Rattle.declarations.proofs.TypeLaws.{index_refused, component_refused, array_passes}
use Rattle.declarations.proofs.types.array_type.Goals as goal

pub returns-in_err-index-clause-comes : goal.returns-in_err-index-clause-comes
returns-in_err-index-clause-comes c p k env h b =
    let e = err_from_is_err_and c.from_residual.result c.from_residual.ensures.1 in
    rw (e.1, e.2) (let w = c.args.walk.now in
    index_refused env (state_of k w) p (identity_of c.args.identity) c.args.range.now c.args.indication.now c.in_err-index.field-0.0
    (c.in_err-index.ensures k env (kept_state k w.counts w.found) (c.place-place.ensures k env h.symbols h.instances h.generic)))

pub returns-in_err-index-clause-keeps : goal.returns-in_err-index-clause-keeps
returns-in_err-index-clause-keeps c =
    let e = err_from_is_err_and c.from_residual.result c.from_residual.ensures.1 in
    rw (e.1, e.2) (symbols_stay c.args.walk.now _ c.in_err-index.field-0.0 (λ k b. b) refl)

pub returns-in_err-component-clause-comes : goal.returns-in_err-component-clause-comes
returns-in_err-component-clause-comes c p k env h b =
    let e = err_from_is_err_and c.from_residual-in_err-component.result c.from_residual-in_err-component.ensures.1 in
    rw (e.1, e.2) (let w = c.args.walk.now in
    let s = kept_state k w.counts w.found in
    let at = c.place-place.ensures k env h.symbols h.instances h.generic in
    component_refused env (state_of k w) p (identity_of c.args.identity) c.args.range.now c.args.indication.now
    (given (subtype_in k c.in_ok-index.index) (state_of k (record w { notes = c.index_of.new.notes }))) (c.in_ok-index.ensures k env s at)
    c.in_err-component.field-0.0 (c.in_err-component.ensures k env s at))

pub returns-in_err-component-clause-keeps : goal.returns-in_err-component-clause-keeps
returns-in_err-component-clause-keeps c =
    let e = err_from_is_err_and c.from_residual-in_err-component.result c.from_residual-in_err-component.ensures.1 in
    rw (e.1, e.2) (symbols_stay c.args.walk.now _ c.in_err-component.field-0.0 (λ k b. b) refl)

pub returns-clause-comes : goal.returns-clause-comes
returns-clause-comes c p k env h b =
    let w = c.args.walk.now in
    let s = kept_state k w.counts w.found in
    let at = c.place-place.ensures k env h.symbols h.instances h.generic in
    let n = state_of k (record w { notes = c.indicated.new.notes }) in
    let defined = c.in_ok-subtype.ensures.defined h.symbols.units.known k b.symbols in
    let region = region_is c.args.context.now w k env h ∙ ap (λ rs. region_of k (innermost rs)) (sym c.in_ok-subtype.ensures.grown.regions) in
    array_passes env (state_of k w) p (identity_of c.args.identity) c.args.range.now c.args.indication.now
    (given (subtype_in k c.in_ok-index.index) (state_of k (record w { notes = c.index_of.new.notes }))) (c.in_ok-index.ensures k env s at)
    (given (subtype_in k c.in_ok-component.component) n) (c.in_ok-component.ensures k env s at)
    ∙ (λ z. Ok (given (record { subtype = sym defined z; region = region z }) n))

pub returns-clause-keeps : goal.returns-clause-keeps
returns-clause-keeps c = record { symbols = c.in_ok-subtype.ensures.grown; spans = refl }
