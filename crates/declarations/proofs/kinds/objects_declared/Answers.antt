use Rattle.std.proofs.Common.{refl, ap}
use Rattle.std.proofs.lemmas.Result.{err_from_is_err_and}
use Rattle.ada_rules.specs.Environment.{given}
use Rattle.ada_entities.specs.EntityViews.{region_of}
use Rattle.ada_entities.specs.RegionCode.{innermost}
use Rattle.ada_phrases.proofs.Parts.{answers_as}
use Rattle.program_walk.specs.Subtypes.{subtype_in}
use Rattle.program_walk.specs.declared.walk.Walk.{Walk}
use Rattle.program_walk.specs.States.{kept_state, state_of}
use Rattle.declarations.specs.Locals.{made_of}
use Rattle.declarations.specs.Made.{behind}
use Rattle.declarations.specs.Values.{declared_in}
use Rattle.program_walk.proofs.GoingLaws.{stands_then, answers_behind_change, then_goes_on}
use Rattle.program_walk.proofs.InsideLaws.{stays_open}
use Rattle.program_walk.proofs.HidingLaws as hiding
use Rattle.program_walk.proofs.HidingLaws.{symbols_stay, names_hidden}
use Rattle.declarations.proofs.KindLaws.{behind_refused, names_refused, indication_refused, objects_pass}
use Rattle.declarations.proofs.kinds.objects_declared.Goals as goal

pub returns-in_err-hide_all-clause-comes : goal.returns-in_err-hide_all-clause-comes
returns-in_err-hide_all-clause-comes c k env h b =
    let e = err_from_is_err_and c.from_residual.result c.from_residual.ensures.1 in
    rw (e.1, e.2) (let w = c.args.walk.now in
    let f = c.in_err-hide_all.field-0.0 in
    behind_refused (made_of k c.args.made.now.items) _ f
    (names_refused env (state_of k w) c.args.pos c.args.constancy c.args.names.now c.args.indication.now c.args.initial.now f
    (hiding.names_refused c.args.context.now w k env h c.args.names.now _ c.args.pos f refl c.in_err-hide_all.ensures.refused)))

pub returns-in_err-hide_all-clause-goes : goal.returns-in_err-hide_all-clause-goes
returns-in_err-hide_all-clause-goes c open_now =
    let e = err_from_is_err_and c.from_residual.result c.from_residual.ensures.1 in
    rw (e.1, e.2) (symbols_stay c.args.walk.now _ c.in_err-hide_all.field-0.0 c.hide_all.ensures.continues refl)

pub returns-in_err-subtype-clause-comes : goal.returns-in_err-subtype-clause-comes
returns-in_err-subtype-clause-comes c k env h b =
    let e = err_from_is_err_and c.from_residual-in_err-subtype.result c.from_residual-in_err-subtype.ensures.1 in
    rw (e.1, e.2) (let w = c.args.walk.now in
    let f = c.in_err-subtype.field-0.0 in
    let first : Walk = record w { symbols = c.hide_all.new.self } in
    let g = c.in_ok-hide_all.ensures.inside h.symbols.inside in
    let stands = stands_then c.args.context.now w k env h first (record { symbols = g; spans = refl }) (record { symbols = b.symbols; spans = b.spans }) in
    behind_refused (made_of k c.args.made.now.items) _ f
    (indication_refused env (state_of k w) c.args.pos c.args.constancy c.args.names.now c.args.indication.now c.args.initial.now
    (region_of k (innermost first.symbols.regions))
    (names_hidden c.args.context.now w k env h first.symbols c.args.names.now _ c.args.pos refl c.in_ok-hide_all.ensures.hidden) f
    (c.in_err-subtype.ensures k _ (kept_state k w.counts w.found) (c.place-place.ensures k _ stands.symbols stands.instances stands.generic))))

pub returns-in_err-subtype-clause-goes : goal.returns-in_err-subtype-clause-goes
returns-in_err-subtype-clause-goes c open_now =
    let e = err_from_is_err_and c.from_residual-in_err-subtype.result c.from_residual-in_err-subtype.ensures.1 in
    rw (e.1, e.2) (symbols_stay c.args.walk.now _ c.in_err-subtype.field-0.0 c.hide_all.ensures.continues refl)

pub returns-clause-comes : goal.returns-clause-comes
returns-clause-comes c k env h b =
    let w = c.args.walk.now in
    let x = c.some_objects in
    let first : Walk = record w { symbols = c.hide_all.new.self; notes = c.indicated.new.notes } in
    let g = c.in_ok-hide_all.ensures.inside h.symbols.inside in
    let goes = x.ensures.goes (stays_open w.symbols first.symbols g) in
    answers_behind_change (λ u. declared_in k x.new.walk x.new.made.items) first x.new.walk k _ x.result goes b (λ begins.
    let stands = stands_then c.args.context.now w k env h first (record { symbols = g; spans = refl }) begins in
    let old_stands = stands_then c.args.context.now w k env h (record w { symbols = c.hide_all.new.self }) (record { symbols = g; spans = refl })
    (record { symbols = begins.symbols; spans = begins.spans }) in
    answers_as (λ u. declared_in k x.new.walk x.new.made.items) _ _ x.result
    (ap (behind (made_of k c.args.made.now.items))
    (objects_pass env (state_of k w) c.args.pos c.args.constancy c.args.names.now c.args.indication.now c.args.initial.now
    (region_of k (innermost first.symbols.regions))
    (names_hidden c.args.context.now w k env h first.symbols c.args.names.now _ c.args.pos refl c.in_ok-hide_all.ensures.hidden)
    (given (subtype_in k c.in_ok-subtype.subtype) (state_of k first))
    (c.in_ok-subtype.ensures k _ (kept_state k w.counts w.found) (c.place-place.ensures k _ old_stands.symbols old_stands.instances old_stands.generic))))
    (x.ensures.comes k env stands b))

pub returns-clause-goes : goal.returns-clause-goes
returns-clause-goes c open_now =
    let w = c.args.walk.now in
    let x = c.some_objects in
    let first : Walk = record w { symbols = c.hide_all.new.self; notes = c.indicated.new.notes } in
    let g = c.in_ok-hide_all.ensures.inside open_now in
    then_goes_on w first x.new.walk x.result (record { symbols = g; spans = refl }) (x.ensures.goes (stays_open w.symbols first.symbols g))
