use Rattle.std.proofs.Common.{◌++◌, refl, ap, ◌∙◌}
use Rattle.std.proofs.lemmas.Result.{err_from_is_err_and}
use Rattle.ada_meaning.specs.Types.{here}
use Rattle.ada_rules.specs.Environment.{given}
use Rattle.ada_rules.specs.Declarations.{with_objects}
use Rattle.ada_rules.specs.Subprograms.{parameters_for, parameter_objects, limited}
use Rattle.ada_entities.specs.EntityViews.{region_of}
use Rattle.ada_entities.specs.RegionCode.{innermost}
use Rattle.ada_phrases.specs.Answers.{counted}
use Rattle.ada_demands.specs.StaticsViews.{noted}
use Rattle.program_walk.specs.Marks.{marked_of}
use Rattle.specifications.specs.Profiles.{parameters_of}
use Rattle.program_walk.specs.declared.walk.Walk.{Walk}
use Rattle.program_walk.specs.States.{kept_state, state_of}
use Rattle.program_walk.specs.Going.{region_in}
use Rattle.program_walk.proofs.InsideLaws.{stays_open}
use Rattle.program_walk.proofs.GoingLaws.{inside_continues, then_goes}
use Rattle.program_walk.proofs.HidingLaws as hiding
use Rattle.program_walk.proofs.HidingLaws.{symbols_stay, names_hidden, stands_behind}
use Rattle.specifications.proofs.ParameterLaws.{names_refused, mark_refused, parameters_pass}
use Rattle.specifications.proofs.parameters.add_parameters.Goals as goal

pub returns-in_err-hide_all-clause-comes : goal.returns-in_err-hide_all-clause-comes
returns-in_err-hide_all-clause-comes c k env h b =
    let e = err_from_is_err_and c.from_residual.result c.from_residual.ensures.1 in
    rw (e.1, e.2) (λ p qs. names_refused env _ c.args.group.now p qs c.in_err-hide_all.field-0.0
    (hiding.names_refused c.args.context.now c.args.walk.now k env h c.args.group.now.names _ p c.in_err-hide_all.field-0.0 c.as_slice.ensures
    c.in_err-hide_all.ensures.refused))

pub returns-in_err-hide_all-clause-goes : goal.returns-in_err-hide_all-clause-goes
returns-in_err-hide_all-clause-goes c open_now =
    let e = err_from_is_err_and c.from_residual.result c.from_residual.ensures.1 in
    rw (e.1, e.2) (symbols_stay c.args.walk.now _ c.in_err-hide_all.field-0.0 c.hide_all.ensures.continues refl)

pub returns-in_err-marked-clause-comes : goal.returns-in_err-marked-clause-comes
returns-in_err-marked-clause-comes c k env h b =
    let e = err_from_is_err_and c.from_residual-in_err-marked.result c.from_residual-in_err-marked.ensures.1 in
    rw (e.1, e.2) (λ p qs. let w = c.args.walk.now in
    let s = c.hide_all.new.self in
    let g = c.in_ok-hide_all.ensures.inside h.symbols.inside in
    let stands = stands_behind c.args.context.now w k env h s g (record { symbols = b.symbols; spans = b.spans }) in
    mark_refused env (state_of k w) c.args.group.now p qs (region_of k (innermost s.regions))
    (names_hidden c.args.context.now w k env h s c.args.group.now.names _ p c.as_slice.ensures c.in_ok-hide_all.ensures.hidden) c.in_err-marked.field-0.0
    (c.in_err-marked.ensures k _ (noted k w.notes.statics (kept_state k w.counts w.found))
    (c.place-place.ensures k _ stands.symbols stands.instances stands.generic).site))

pub returns-in_err-marked-clause-goes : goal.returns-in_err-marked-clause-goes
returns-in_err-marked-clause-goes c open_now =
    let e = err_from_is_err_and c.from_residual-in_err-marked.result c.from_residual-in_err-marked.ensures.1 in
    rw (e.1, e.2) (symbols_stay c.args.walk.now _ c.in_err-marked.field-0.0 c.hide_all.ensures.continues refl)

pub returns-clause-comes : goal.returns-clause-comes
returns-clause-comes c k env h b p qs =
    let w = c.args.walk.now in
    let q = c.args.group.now in
    let s = c.hide_all.new.self in
    let g = c.in_ok-hide_all.ensures.inside h.symbols.inside in
    let noting : Walk = record w { symbols = s; notes = record w.notes { decisions = c.note_limit.new.decisions } } in
    let more = c.in_ok-add_objects.ensures.inside (stays_open w.symbols s g) in
    let begins = inside_continues noting c.add_objects.new.walk more k b in
    let stands = stands_behind c.args.context.now w k env h s g (record { symbols = begins.symbols; spans = begins.spans }) in
    let names = region_of k (innermost s.regions) in
    let base = noted k w.notes.statics (kept_state k w.counts w.found) in
    let t = given (marked_of k c.in_ok-marked.marked) (counted c.mark.new.decisions base) in
    let mode = c.mode_of.ensures in
    let added = c.in_ok-add_objects.ensures.added k (c.in_ok-tree.ensures stands.symbols.units.known k stands.symbols.units.begins) in
    let limit = c.in_ok-note_limit.ensures base ∙ ap (λ xs. limited w.counts.objects xs t.next) c.as_slice-2.ensures in
    parameters_pass env (state_of k w) q p qs names
    (names_hidden c.args.context.now w k env h s q.names _ p c.as_slice.ensures c.in_ok-hide_all.ensures.hidden)
    k c.args.parameters.now.items c.add_named.new.parameters.items t (region_in k c.add_objects.new.walk) (state_of k c.add_objects.new.walk)
    (c.in_ok-marked.ensures k _ base (c.place-place.ensures k _ stands.symbols stands.instances stands.generic).site)
    (added.region ∙ (λ z. parameter_objects (mode z) t.value.subtype w.counts.objects names (c.as_slice-3.ensures z)))
    (added.state ∙ (λ z. with_objects t.value.subtype (c.as_slice-3.ensures z) (limit z)))
    (c.in_ok-add_named.ensures k
    ∙ (λ z. parameters_of k here c.args.parameters.now.items ++ parameters_for (mode z) t.value (c.as_slice-4.ensures z)))

pub returns-clause-goes : goal.returns-clause-goes
returns-clause-goes c open_now =
    let w = c.args.walk.now in
    let s = c.hide_all.new.self in
    let g = c.in_ok-hide_all.ensures.inside open_now in
    let noting : Walk = record w { symbols = s; notes = record w.notes { decisions = c.note_limit.new.decisions } } in
    then_goes w noting c.add_objects.new.walk (record { symbols = g; spans = refl }) (c.in_ok-add_objects.ensures.inside (stays_open w.symbols s g))
