use Rattle.std.proofs.Common.{Ok, [], refl, sym, ap, ◌∙◌}
use Rattle.std.proofs.lemmas.Result.{err_from_is_err_and}
use Rattle.ada_rules.specs.Environment.{given, beginning_state}
use Rattle.ada_entities.specs.EntityViews.{region_of}
use Rattle.ada_entities.specs.RegionCode.{innermost}
use Rattle.ada_entities.specs.Views.{identity_of}
use Rattle.program_walk.specs.Places.{with_notes}
use Rattle.program_walk.specs.Subtypes.{subtype_in}
use Rattle.program_walk.proofs.HideLaws.{then_inside}
use Rattle.program_walk.specs.declared.walk.Walk.{Walk}
use Rattle.program_walk.specs.Walks.{Begins}
use Rattle.program_walk.specs.States.{with_found, kept_state, state_of}
use Rattle.program_walk.proofs.GoingLaws.{is_in, stands_then}
use Rattle.program_walk.proofs.HidingLaws as hiding
use Rattle.program_walk.proofs.HidingLaws.{symbols_stay, name_hidden}
use Rattle.declarations.proofs.KindLaws.{subtype_name_refused, mark_refused, subtype_passes}
use Rattle.declarations.proofs.kinds.subtype_declared.Goals as goal

pub returns-in_err-declare-clause-comes : goal.returns-in_err-declare-clause-comes
returns-in_err-declare-clause-comes c k env h b =
    let e = err_from_is_err_and c.from_residual.result c.from_residual.ensures.1 in
    rw (e.1, e.2) (let w = c.args.walk.now in
    subtype_name_refused env (state_of k w) c.args.pos c.args.name.now c.args.indication.now c.in_err-declare.field-0.0
    (hiding.name_refused c.args.context.now w k env h c.args.name.now c.in_err-declare.field-0.0 c.in_err-declare.ensures.refused))

pub returns-in_err-declare-clause-goes : goal.returns-in_err-declare-clause-goes
returns-in_err-declare-clause-goes c open_now =
    let e = err_from_is_err_and c.from_residual.result c.from_residual.ensures.1 in
    rw (e.1, e.2) (symbols_stay c.args.walk.now _ c.in_err-declare.field-0.0 c.declare.ensures.continues refl)

pub returns-in_err-subtype-clause-comes : goal.returns-in_err-subtype-clause-comes
returns-in_err-subtype-clause-comes c k env h b =
    let e = err_from_is_err_and c.from_residual-in_err-subtype.result c.from_residual-in_err-subtype.ensures.1 in
    rw (e.1, e.2) (let w = c.args.walk.now in
    let first : Walk = record w { symbols = c.declare.new.self; counts = c.new_identity.new.counts } in
    let g = c.in_ok-declare.ensures.inside in
    let stands = stands_then c.args.context.now w k env h first (record { symbols = g; spans = refl }) (record { symbols = b.symbols; spans = b.spans }) in
    mark_refused env (state_of k w) c.args.pos c.args.name.now (state_of k first) (identity_of c.in_ok-identity.identity)
    (ap (λ s. with_notes k w.notes (with_found k w.found s)) (c.in_ok-identity.ensures.taken beginning_state))
    (c.in_ok-identity.ensures.identity env (state_of k w) (is_in c.args.context.now w k env h) refl)
    (region_of k (innermost first.symbols.regions)) (name_hidden c.args.context.now w k env h first.symbols c.args.name.now c.in_ok-declare.ensures.declared)
    c.args.indication.now c.in_err-subtype.field-0.0
    (c.in_err-subtype.ensures k _ (kept_state k first.counts w.found) (c.place-place.ensures k _ stands.symbols stands.instances stands.generic)))

pub returns-in_err-subtype-clause-goes : goal.returns-in_err-subtype-clause-goes
returns-in_err-subtype-clause-goes c open_now =
    let e = err_from_is_err_and c.from_residual-in_err-subtype.result c.from_residual-in_err-subtype.ensures.1 in
    rw (e.1, e.2) (symbols_stay c.args.walk.now _ c.in_err-subtype.field-0.0 c.declare.ensures.continues refl)

pub returns-clause-comes : goal.returns-clause-comes
returns-clause-comes c k env h b =
    let w = c.args.walk.now in
    let first : Walk = record w { symbols = c.declare.new.self; counts = c.new_identity.new.counts } in
    let g = c.in_ok-declare.ensures.inside in
    let begins : Begins first k = record { symbols = c.in_ok-redefine.ensures.inside.begins k b.symbols; spans = b.spans } in
    let stands = stands_then c.args.context.now w k env h first (record { symbols = g; spans = refl }) begins in
    let n = state_of k (record first { notes = c.indicated.new.notes }) in
    subtype_passes env (state_of k w) c.args.pos c.args.name.now (state_of k first) (identity_of c.in_ok-identity.identity)
    (ap (λ s. with_notes k w.notes (with_found k w.found s)) (c.in_ok-identity.ensures.taken beginning_state))
    (c.in_ok-identity.ensures.identity env (state_of k w) (is_in c.args.context.now w k env h) refl)
    (region_of k (innermost first.symbols.regions)) (name_hidden c.args.context.now w k env h first.symbols c.args.name.now c.in_ok-declare.ensures.declared)
    c.args.indication.now (given (subtype_in k c.in_ok-subtype.subtype) n)
    (c.in_ok-subtype.ensures k _ (kept_state k first.counts w.found) (c.place-place.ensures k _ stands.symbols stands.instances stands.generic))
    ∙ (λ z. Ok (record { region = sym (c.in_ok-redefine.ensures.redefined k) z; next = n; made = [] }))

pub returns-clause-goes : goal.returns-clause-goes
returns-clause-goes c open_now = record {
  symbols = then_inside _ _ _ c.in_ok-declare.ensures.inside c.in_ok-redefine.ensures.inside;
  spans = refl;
}
