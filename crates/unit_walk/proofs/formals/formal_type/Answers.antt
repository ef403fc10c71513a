use Rattle.std.proofs.Common.{Ok, refl, sym, ap, ◌∙◌}
use Rattle.std.proofs.lemmas.Result.{err_from_is_err_and}
use Rattle.ada_rules.specs.Entities.{key, mark, redefined}
use Rattle.ada_rules.specs.Environment.{given, beginning_state}
use Rattle.ada_entities.specs.EntityViews.{region_of}
use Rattle.ada_entities.specs.RegionCode.{innermost}
use Rattle.ada_entities.specs.Views.{is_integral, identity_of}
use Rattle.program_walk.specs.Places.{with_notes}
use Rattle.program_walk.proofs.HideLaws.{then_inside}
use Rattle.program_walk.specs.declared.walk.Walk.{Walk}
use Rattle.program_walk.specs.States.{with_found, state_of}
use Rattle.program_walk.proofs.GoingLaws.{is_in}
use Rattle.program_walk.proofs.HidingLaws as hiding
use Rattle.program_walk.proofs.HidingLaws.{symbols_stay, name_hidden}
use Rattle.unit_walk.proofs.FormalLaws.{type_refused, type_passes}
use Rattle.unit_walk.proofs.formals.formal_type.Goals as goal

pub returns-in_err-declare-clause-comes : goal.returns-in_err-declare-clause-comes
returns-in_err-declare-clause-comes c p k env h b =
    let e = err_from_is_err_and c.from_residual.result c.from_residual.ensures.1 in
    rw (e.1, e.2) (let w = c.args.walk.now in
    type_refused env (state_of k w) p c.args.name.now c.args.place (is_integral c.args.kind) c.in_err-declare.field-0.0
    (hiding.name_refused c.args.context.now w k env h c.args.name.now c.in_err-declare.field-0.0 c.in_err-declare.ensures.refused))

pub returns-in_err-declare-clause-goes : goal.returns-in_err-declare-clause-goes
returns-in_err-declare-clause-goes c open_now =
    let e = err_from_is_err_and c.from_residual.result c.from_residual.ensures.1 in
    rw (e.1, e.2) (symbols_stay c.args.walk.now _ c.in_err-declare.field-0.0 c.declare.ensures.continues refl)

pub returns-clause-comes : goal.returns-clause-comes
returns-clause-comes c p k env h b =
    let w = c.args.walk.now in
    let first : Walk = record w { symbols = c.declare.new.self; counts = c.new_identity.new.counts } in
    let j = identity_of c.in_ok-identity.identity in
    let region = c.in_ok-redefine.ensures.redefined k
    ∙ ap (λ t. redefined (key c.args.name.now) (mark j t) (region_of k (innermost first.symbols.regions))) (c.formal_subtype-subtype.ensures k.types) in
    type_passes env (state_of k w) p c.args.name.now c.args.place (is_integral c.args.kind)
    (region_of k (innermost first.symbols.regions)) (state_of k first) j
    (name_hidden c.args.context.now w k env h first.symbols c.args.name.now c.in_ok-declare.ensures.declared)
    (ap (λ s. with_notes k w.notes (with_found k w.found s)) (c.in_ok-identity.ensures.taken beginning_state))
    (c.in_ok-identity.ensures.identity env (state_of k w) (is_in c.args.context.now w k env h) refl)
    ∙ (λ z. Ok (given (sym region z) (state_of k first)))

pub returns-clause-goes : goal.returns-clause-goes
returns-clause-goes c open_now = record {
  symbols = then_inside _ _ _ c.in_ok-declare.ensures.inside c.in_ok-redefine.ensures.inside;
  spans = refl;
}
