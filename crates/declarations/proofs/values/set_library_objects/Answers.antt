use Rattle.std.proofs.Common.{Ok, refl, ap, ◌∙◌}
use Rattle.std.proofs.lemmas.Result.{err_from_is_err_and}
use Rattle.ada_rules.specs.Environment.{given, with_local}
use Rattle.ada_rules.specs.Declarations.{library_declared}
use Rattle.ada_entities.specs.Views.{subtype_of}
use Rattle.ada_phrases.specs.Scopes.{step_of}
use Rattle.ada_phrases.proofs.Parts.{refused_as}
use Rattle.program_walk.specs.States.{kept_state, state_of}
use Rattle.program_walk.specs.Going.{region_in}
use Rattle.declarations.specs.Initials.{library_value_of}
use Rattle.program_walk.proofs.GoingLaws.{is_in, is_in_local, goes_noted}
use Rattle.program_walk.proofs.HidingLaws.{symbols_stay}
use Rattle.declarations.proofs.ValueLaws.{library_refused, library_passes}
use Rattle.declarations.proofs.values.set_library_objects.Goals as goal

pub returns-in_err-value-clause-comes : goal.returns-in_err-value-clause-comes
returns-in_err-value-clause-comes c k env h b =
    let e = err_from_is_err_and c.from_residual.result c.from_residual.ensures.1 in
    rw (e.1, e.2) (let w = c.args.walk.now in
    library_refused env c.args.pos c.args.constancy (subtype_of k.types c.args.subtype) (region_in k w) c.args.names.now c.args.initial.now (state_of k w)
    c.in_err-value.field-0.0
    (c.in_err-value.ensures k (with_local env (region_in k w)) (kept_state k w.counts w.found)
    (c.place-place.ensures k (with_local env (region_in k w)) h.symbols h.instances h.generic)))

pub returns-in_err-value-clause-goes : goal.returns-in_err-value-clause-goes
returns-in_err-value-clause-goes c open_now =
    let e = err_from_is_err_and c.from_residual.result c.from_residual.ensures.1 in
    rw (e.1, e.2) (symbols_stay c.args.walk.now _ c.in_err-value.field-0.0 (λ k b. b) refl)

pub returns-in_err-one_name-clause-comes : goal.returns-in_err-one_name-clause-comes
returns-in_err-one_name-clause-comes c k env h b =
    let e = err_from_is_err_and c.from_residual-in_err-one_name.result c.from_residual-in_err-one_name.ensures.1 in
    rw (e.1, e.2) (let w = c.args.walk.now in
    let t = subtype_of k.types c.args.subtype in
    let is = c.args.names.now in
    let v = given (library_value_of k c.in_ok-value.value) (state_of k (record w { notes = c.library_value.new.notes })) in
    refused_as _ _ c.in_err-one_name.field-0.0
    (library_passes env c.args.pos c.args.constancy t (region_in k w) is c.args.initial.now (state_of k w) v (step_of c.args.context.now.step)
    (c.in_ok-value.ensures k (with_local env (region_in k w)) (kept_state k w.counts w.found)
    (c.place-place.ensures k (with_local env (region_in k w)) h.symbols h.instances h.generic)) h.symbols.step)
    (c.in_err-one_name.ensures (library_declared env c.args.constancy (region_in k w) is t v.value v.next)))

pub returns-in_err-one_name-clause-goes : goal.returns-in_err-one_name-clause-goes
returns-in_err-one_name-clause-goes c open_now =
    let e = err_from_is_err_and c.from_residual-in_err-one_name.result c.from_residual-in_err-one_name.ensures.1 in
    rw (e.1, e.2) (symbols_stay c.args.walk.now _ c.in_err-one_name.field-0.0 (λ k b. b) refl)

pub returns-clause-comes : goal.returns-clause-comes
returns-clause-comes c k env h b =
    let w = c.args.walk.now in
    let t = subtype_of k.types c.args.subtype in
    let is = c.args.names.now in
    let v = given (library_value_of k c.in_ok-value.value) (state_of k (record w { notes = c.library_value.new.notes })) in
    library_passes env c.args.pos c.args.constancy t (region_in k w) is c.args.initial.now (state_of k w) v (step_of c.args.context.now.step)
    (c.in_ok-value.ensures k (with_local env (region_in k w)) (kept_state k w.counts w.found)
    (c.place-place.ensures k (with_local env (region_in k w)) h.symbols h.instances h.generic)) h.symbols.step
    ∙ (c.in_ok-one_name.ensures (library_declared env c.args.constancy (region_in k w) is t v.value v.next)
    ∙ ap Ok (c.in_ok-make_library_objects.ensures.made k env (is_in_local c.args.context.now env (region_in k w) (is_in c.args.context.now w k (with_local env (region_in k w)) h)) h.symbols.units.known
    h.symbols.units.begins))

pub returns-clause-goes : goal.returns-clause-goes
returns-clause-goes c open_now = goes_noted c.args.walk.now _ _ refl refl (c.in_ok-make_library_objects.ensures.inside open_now)
