use Rattle.std.proofs.Common.{Ok, refl, ap, ◌∙◌}
use Rattle.std.proofs.lemmas.Result.{err_from_is_err_and}
use Rattle.ada_rules.specs.Environment.{given, with_local}
use Rattle.ada_rules.specs.Declarations.{local_set}
use Rattle.ada_entities.specs.Views.{subtype_of}
use Rattle.ada_phrases.specs.Scopes.{step_of}
use Rattle.ada_phrases.proofs.Parts.{refused_as}
use Rattle.program_walk.specs.States.{kept_state, state_of}
use Rattle.program_walk.specs.Going.{region_in}
use Rattle.object_values.specs.NewValues.{new_value_of}
use Rattle.program_walk.proofs.GoingLaws.{is_in, is_in_local, goes_noted}
use Rattle.program_walk.proofs.HidingLaws.{symbols_stay}
use Rattle.program_walk.specs.ada_demands.specs.StaticsViews.{noted}
use Rattle.declarations.specs.Locals.{made_of}
use Rattle.declarations.specs.Made.{behind}
use Rattle.declarations.proofs.KindLaws.{behind_refused}
use Rattle.declarations.proofs.ValueLaws.{locals_refused, locals_pass, rule_refuses, rule_passes}
use Rattle.declarations.proofs.values.set_locals.Goals as goal

pub returns-in_err-value-clause-comes : goal.returns-in_err-value-clause-comes
returns-in_err-value-clause-comes c k env h b =
    let e = err_from_is_err_and c.from_residual.result c.from_residual.ensures.1 in
    rw (e.1, e.2) (let w = c.args.walk.now in
    behind_refused (made_of k c.args.made.now.items) _ c.in_err-value.field-0.0
    (locals_refused env c.args.pos c.args.constancy (subtype_of k.types c.args.subtype) (region_in k w) c.args.names.now c.args.initial.now (state_of k w)
    c.in_err-value.field-0.0
    (c.in_err-value.ensures k (with_local env (region_in k w)) (noted k w.notes.statics (kept_state k w.counts w.found))
    (c.place-place.ensures k (with_local env (region_in k w)) h.symbols h.instances h.generic).site)))

pub returns-in_err-value-clause-goes : goal.returns-in_err-value-clause-goes
returns-in_err-value-clause-goes c open_now =
    let e = err_from_is_err_and c.from_residual.result c.from_residual.ensures.1 in
    rw (e.1, e.2) (symbols_stay c.args.walk.now _ c.in_err-value.field-0.0 (λ k b. b) refl)

pub returns-in-Err-clause-comes : goal.returns-in-Err-clause-comes
returns-in-Err-clause-comes c k env h b =
    let w = c.args.walk.now in
    let t = subtype_of k.types c.args.subtype in
    let is = c.args.names.now in
    let v = given (new_value_of k c.in_ok-value.value) (state_of k (record w { notes = record w.notes { decisions = c.new_value.new.decisions } })) in
    behind_refused (made_of k c.args.made.now.items) _ c.in-Err.fault
    (refused_as _ _ c.in-Err.fault
    (locals_pass env c.args.pos c.args.constancy t (region_in k w) is c.args.initial.now (state_of k w) v (step_of c.args.context.now.step)
    (c.in_ok-value.ensures k (with_local env (region_in k w)) (noted k w.notes.statics (kept_state k w.counts w.found))
    (c.place-place.ensures k (with_local env (region_in k w)) h.symbols h.instances h.generic).site) h.symbols.step)
    (rule_refuses _ _ c.one_name.result c.in-Err.fault c.in-Err.is (c.one_name.ensures (local_set env c.args.pos c.args.constancy (region_in k w) is t v))))

pub returns-in-Err-clause-goes : goal.returns-in-Err-clause-goes
returns-in-Err-clause-goes c open_now = symbols_stay c.args.walk.now _ c.in-Err.fault (λ k b. b) refl

pub returns-in_ok-make_locals-in-Ok-clause-comes : goal.returns-in_ok-make_locals-in-Ok-clause-comes
returns-in_ok-make_locals-in-Ok-clause-comes c k env h b =
    let w = c.args.walk.now in
    let t = subtype_of k.types c.args.subtype in
    let is = c.args.names.now in
    let v = given (new_value_of k c.in_ok-value.value) (state_of k (record w { notes = record w.notes { decisions = c.new_value.new.decisions } })) in
    ap (behind (made_of k c.args.made.now.items))
    (locals_pass env c.args.pos c.args.constancy t (region_in k w) is c.args.initial.now (state_of k w) v (step_of c.args.context.now.step)
    (c.in_ok-value.ensures k (with_local env (region_in k w)) (noted k w.notes.statics (kept_state k w.counts w.found))
    (c.place-place.ensures k (with_local env (region_in k w)) h.symbols h.instances h.generic).site) h.symbols.step
    ∙ rule_passes _ _ c.one_name.result tt c.in-Ok.is (c.one_name.ensures (local_set env c.args.pos c.args.constancy (region_in k w) is t v)))
    ∙ ap Ok (c.in_ok-make_locals-in-Ok.ensures.made k env (is_in_local c.args.context.now env (region_in k w) (is_in c.args.context.now w k (with_local env (region_in k w)) h)) h.symbols.units.known
    h.symbols.units.begins)

pub returns-in_ok-make_locals-in-Ok-clause-goes : goal.returns-in_ok-make_locals-in-Ok-clause-goes
returns-in_ok-make_locals-in-Ok-clause-goes c open_now = goes_noted c.args.walk.now _ _ refl refl (c.in_ok-make_locals-in-Ok.ensures.inside open_now)
