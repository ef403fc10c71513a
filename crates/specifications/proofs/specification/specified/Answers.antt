use Rattle.std.proofs.Common.{None, Ok, sym, ap, ◌∙◌}
use Rattle.std.proofs.lemmas.Result.{err_from_is_err_and}
use Rattle.ada_rules.specs.Environment.{given, opened}
use Rattle.ada_demands.specs.StaticsViews.{noted}
use Rattle.ada_phrases.proofs.Parts.{refused_as}
use Rattle.ada_phrases.specs.Answers.{counted}
use Rattle.program_walk.specs.States.{kept_state, state_of}
use Rattle.program_walk.specs.Walks.{Begins}
use Rattle.program_walk.proofs.Following.{opened_inside}
use Rattle.program_walk.specs.Going.{region_in}
use Rattle.program_walk.proofs.GoingLaws.{inside_continues, stays_behind, refused_behind, stands_then}
use Rattle.program_walk.proofs.HidingLaws.{stays_there}
use Rattle.specifications.specs.Results.{profile_with}
use Rattle.specifications.proofs.SpecificationLaws.{opened_walk, opening_continues, fresh_state, with_list, parameters_refused, parameters_pass, opens_open, opens_then}
use Rattle.specifications.proofs.specification.specified.Goals as goal

pub returns-in_err-list-clause-comes : goal.returns-in_err-list-clause-comes
returns-in_err-list-clause-comes c k env h b =
    let e = err_from_is_err_and c.from_residual-in_err-list.result c.from_residual-in_err-list.ensures.1 in
    rw (e.1, e.2) (let w = c.args.walk.now in
    let x = c.args.specification.now in
    let first = opened_walk w c.open.new.self c.new.result in
    let f = c.in_err-list.field-0.0 in
    refused_behind first c.parameters.new.walk k f _ (c.in_err-list.ensures.goes (opens_open _ _ c.in_ok-open.ensures)) b (λ before.
    let stands = opened_inside c.args.context.now c.inside-inside.result w first c.inside-inside.ensures c.in_ok-open.ensures k env h before in
    parameters_refused env (state_of k w) x (state_of k first) _ (fresh_state k w.notes w.counts w.found c.new.result c.new.ensures.items) c.as_slice.ensures f
    (c.in_err-list.ensures.comes x.pos k (opened env) stands b)))

pub returns-in_err-list-clause-enters : goal.returns-in_err-list-clause-enters
returns-in_err-list-clause-enters c =
    let e = err_from_is_err_and c.from_residual-in_err-list.result c.from_residual-in_err-list.ensures.1 in
    rw (e.1, e.2) (let w = c.args.walk.now in
    let first = opened_walk w c.open.new.self c.new.result in
    stays_behind w first c.parameters.new.walk c.in_err-list.field-0.0
    (opening_continues w c.open.new.self c.new.result c.in_ok-open.ensures) (c.in_err-list.ensures.goes (opens_open _ _ c.in_ok-open.ensures)))

pub returns-in_err-mark-clause-comes : goal.returns-in_err-mark-clause-comes
returns-in_err-mark-clause-comes c k env h b =
    let e = err_from_is_err_and c.from_residual-in_err-mark.result c.from_residual-in_err-mark.ensures.1 in
    rw (e.1, e.2) (let w = c.args.walk.now in
    let x = c.args.specification.now in
    let first = opened_walk w c.open.new.self c.new.result in
    let second = c.parameters.new.walk in
    let goes = c.in_ok-list.ensures.goes (opens_open _ _ c.in_ok-open.ensures) in
    let behind : Begins second k = record { symbols = b.symbols; spans = b.spans } in
    let before = inside_continues first second goes k behind in
    let stands = opened_inside c.args.context.now c.inside-inside.result w first c.inside-inside.ensures c.in_ok-open.ensures k env h before in
    let there = stands_then c.inside-inside.result first k (opened env) stands second goes behind in
    let base = noted k second.notes.statics (kept_state k second.counts second.found) in
    refused_as _ _ c.in_err-mark.field-0.0
    (parameters_pass env (state_of k w) x (state_of k first) _ (fresh_state k w.notes w.counts w.found c.new.result c.new.ensures.items) c.as_slice.ensures
    (given (profile_with k (region_in k second) c.in_ok-list.list.items None) (state_of k second))
    (c.in_ok-list.ensures.comes x.pos k (opened env) stands behind)
    ∙ with_list k (opened env) x (region_in k second) (state_of k second) _ _ (sym c.as_slice-2.ensures.value))
    (c.in_err-mark.ensures k (opened env) (region_in k second) base
    (c.place-place.ensures k _ there.symbols there.instances there.generic).site))

pub returns-in_err-mark-clause-enters : goal.returns-in_err-mark-clause-enters
returns-in_err-mark-clause-enters c =
    let e = err_from_is_err_and c.from_residual-in_err-mark.result c.from_residual-in_err-mark.ensures.1 in
    rw (e.1, e.2) (let w = c.args.walk.now in
    let first = opened_walk w c.open.new.self c.new.result in
    let second = c.parameters.new.walk in
    let goes = c.in_ok-list.ensures.goes (opens_open _ _ c.in_ok-open.ensures) in
    stays_there w _ c.in_err-mark.field-0.0 (λ k b.
    opening_continues w c.open.new.self c.new.result c.in_ok-open.ensures k
    (inside_continues first second goes k (record { symbols = b.symbols; spans = b.spans }))))

pub returns-clause-comes : goal.returns-clause-comes
returns-clause-comes c k env h b =
    let w = c.args.walk.now in
    let x = c.args.specification.now in
    let first = opened_walk w c.open.new.self c.new.result in
    let second = c.parameters.new.walk in
    let goes = c.in_ok-list.ensures.goes (opens_open _ _ c.in_ok-open.ensures) in
    let behind : Begins second k = record { symbols = b.symbols; spans = b.spans } in
    let before = inside_continues first second goes k behind in
    let stands = opened_inside c.args.context.now c.inside-inside.result w first c.inside-inside.ensures c.in_ok-open.ensures k env h before in
    let there = stands_then c.inside-inside.result first k (opened env) stands second goes behind in
    let base = noted k second.notes.statics (kept_state k second.counts second.found) in
    parameters_pass env (state_of k w) x (state_of k first) _ (fresh_state k w.notes w.counts w.found c.new.result c.new.ensures.items) c.as_slice.ensures
    (given (profile_with k (region_in k second) c.in_ok-list.list.items None) (state_of k second))
    (c.in_ok-list.ensures.comes x.pos k (opened env) stands behind)
    ∙ (with_list k (opened env) x (region_in k second) (state_of k second) _ _ (sym c.as_slice-2.ensures.value)
    ∙ (c.in_ok-mark.ensures k (opened env) (region_in k second) base (c.place-place.ensures k _ there.symbols there.instances there.generic).site
    ∙ ap (λ qs. Ok (given (profile_with k (region_in k second) qs c.in_ok-mark.mark) (counted c.result.new.decisions base)))
    (c.as_slice-2.ensures.value ∙ sym c.from.ensures)))

pub returns-clause-enters : goal.returns-clause-enters
returns-clause-enters c =
    let w = c.args.walk.now in
    let goes = c.in_ok-list.ensures.goes (opens_open _ _ c.in_ok-open.ensures) in
    record { symbols = opens_then w.symbols c.open.new.self c.parameters.new.walk.symbols c.in_ok-open.ensures goes.symbols; spans = goes.spans }
