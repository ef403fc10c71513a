use Rattle.std.proofs.Common.{refl, ap, ◌∙◌}
use Rattle.std.proofs.lemmas.Result.{err_from_is_err_and}
use Rattle.ada_rules.specs.Environment.{given}
use Rattle.ada_rules.specs.Entities.{component}
use Rattle.ada_rules.specs.Declarations.{all_as, with_fields}
use Rattle.declarations.specs.Fields.{fields_before}
use Rattle.ada_entities.specs.EntityViews.{region_of}
use Rattle.ada_entities.specs.RegionCode.{innermost}
use Rattle.program_walk.specs.Subtypes.{subtype_in}
use Rattle.program_walk.specs.States.{kept_state, state_of}
use Rattle.declarations.proofs.FieldLaws.{names_refused, subtype_refused, fields_pass}
use Rattle.program_walk.proofs.InsideLaws.{stays_open}
use Rattle.program_walk.proofs.HidingLaws as hiding
use Rattle.program_walk.proofs.HidingLaws.{symbols_stay, names_hidden, stands_behind, place_is}
use Rattle.program_walk.proofs.HideLaws.{then_inside}
use Rattle.declarations.proofs.components.add_fields.Goals as goal

pub returns-in_err-hide_all-clause-comes : goal.returns-in_err-hide_all-clause-comes
returns-in_err-hide_all-clause-comes c k env h b =
    let e = err_from_is_err_and c.from_residual.result c.from_residual.ensures.1 in
    rw (e.1, e.2) (λ p cs. names_refused env _ c.args.component.now p cs c.in_err-hide_all.field-0.0
    (hiding.names_refused c.args.context.now c.args.walk.now k env h c.args.component.now.names _ p c.in_err-hide_all.field-0.0 c.as_slice.ensures
    c.in_err-hide_all.ensures.refused))

pub returns-in_err-hide_all-clause-goes : goal.returns-in_err-hide_all-clause-goes
returns-in_err-hide_all-clause-goes c open_now =
    let e = err_from_is_err_and c.from_residual.result c.from_residual.ensures.1 in
    rw (e.1, e.2) (symbols_stay c.args.walk.now _ c.in_err-hide_all.field-0.0 c.hide_all.ensures.continues refl)

pub returns-in_err-subtype-clause-comes : goal.returns-in_err-subtype-clause-comes
returns-in_err-subtype-clause-comes c k env h b =
    let e = err_from_is_err_and c.from_residual-in_err-subtype.result c.from_residual-in_err-subtype.ensures.1 in
    rw (e.1, e.2) (λ p cs. let w = c.args.walk.now in
    let s = c.hide_all.new.self in
    let g = c.in_ok-hide_all.ensures.inside h.symbols.inside in
    let stands = stands_behind c.args.context.now w k env h s g (record { symbols = b.symbols; spans = b.spans }) in
    subtype_refused env (state_of k w) c.args.component.now p cs (region_of k (innermost s.regions))
    (names_hidden c.args.context.now w k env h s c.args.component.now.names _ p c.as_slice.ensures c.in_ok-hide_all.ensures.hidden) c.in_err-subtype.field-0.0
    (c.in_err-subtype.ensures k _ (kept_state k w.counts w.found) (c.place-place.ensures k _ stands.symbols stands.instances stands.generic)))

pub returns-in_err-subtype-clause-goes : goal.returns-in_err-subtype-clause-goes
returns-in_err-subtype-clause-goes c open_now =
    let e = err_from_is_err_and c.from_residual-in_err-subtype.result c.from_residual-in_err-subtype.ensures.1 in
    rw (e.1, e.2) (symbols_stay c.args.walk.now _ c.in_err-subtype.field-0.0 c.hide_all.ensures.continues refl)

pub returns-clause-comes : goal.returns-clause-comes
returns-clause-comes c k env h b p cs =
    let w = c.args.walk.now in
    let s = c.hide_all.new.self in
    let g = c.in_ok-hide_all.ensures.inside h.symbols.inside in
    let more = c.in_ok-declare_components.ensures.inside (stays_open w.symbols s g) in
    let stands = stands_behind c.args.context.now w k env h s g (record { symbols = more.begins k b.symbols; spans = b.spans }) in
    let n = state_of k (record w { notes = c.indicated.new.notes }) in
    fields_pass env (state_of k w) c.args.component.now p cs (region_of k (innermost s.regions))
    (names_hidden c.args.context.now w k env h s c.args.component.now.names _ p c.as_slice.ensures c.in_ok-hide_all.ensures.hidden)
    k.types c.args.fields.now.items c.add_named.new.fields.items (given (subtype_in k c.in_ok-subtype.subtype) n) _ n
    (c.in_ok-subtype.ensures k _ (kept_state k w.counts w.found) (c.place-place.ensures k _ stands.symbols stands.instances stands.generic))
    (c.in_ok-declare_components.ensures.components k ∙ ap (all_as component (region_of k (innermost s.regions))) c.as_slice-2.ensures) refl
    (λ rest. c.in_ok-add_named.ensures k.types rest
    ∙ ap (λ xs. fields_before k.types c.args.fields.now.items (with_fields xs (subtype_in k c.in_ok-subtype.subtype) rest)) c.as_slice-3.ensures)

pub returns-clause-goes : goal.returns-clause-goes
returns-clause-goes c open_now =
    let w = c.args.walk.now in
    let s = c.hide_all.new.self in
    let g = c.in_ok-hide_all.ensures.inside open_now in
    record { symbols = then_inside w.symbols s _ g (c.in_ok-declare_components.ensures.inside (stays_open w.symbols s g)); spans = refl }
