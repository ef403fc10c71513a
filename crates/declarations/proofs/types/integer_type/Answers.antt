use Rattle.std.proofs.Common.{Ok, refl, ap, ◌∙◌}
use Rattle.std.proofs.lemmas.Result.{err_from_is_err_and}
use Rattle.ada_rules.specs.Types.{integer_type as Integer, of_type, range_in}
use Rattle.ada_rules.specs.Environment.{given}
use Rattle.ada_entities.specs.Views.{identity_of}
use Rattle.program_walk.specs.Subtypes.{range_of}
use Rattle.program_walk.specs.States.{kept_state, state_of}
use Rattle.program_walk.proofs.GoingLaws.{region_is}
use Rattle.program_walk.proofs.InsideLaws.{grows_itself}
use Rattle.program_walk.proofs.HidingLaws.{symbols_stay}
use Rattle.declarations.proofs.TypeLaws.{integer_refused, integer_passes}
use Rattle.declarations.proofs.types.integer_type.Goals as goal

pub returns-in_err-range-clause-comes : goal.returns-in_err-range-clause-comes
returns-in_err-range-clause-comes c p k env h b =
    let e = err_from_is_err_and c.from_residual.result c.from_residual.ensures.1 in
    rw (e.1, e.2) (let w = c.args.walk.now in
    integer_refused env (state_of k w) p (identity_of c.args.identity) c.args.bounds.now _ (ap range_in (c.integer-base.ensures k.types)) c.in_err-range.field-0.0
    (c.in_err-range.ensures k env (kept_state k w.counts w.found) (c.place-place.ensures k env h.symbols h.instances h.generic)))

pub returns-in_err-range-clause-keeps : goal.returns-in_err-range-clause-keeps
returns-in_err-range-clause-keeps c =
    let e = err_from_is_err_and c.from_residual.result c.from_residual.ensures.1 in
    rw (e.1, e.2) (symbols_stay c.args.walk.now _ c.in_err-range.field-0.0 (λ k b. b) refl)

pub returns-clause-comes : goal.returns-clause-comes
returns-clause-comes c p k env h b =
    let w = c.args.walk.now in
    let n = state_of k (record w { notes = c.bounded.new.notes }) in
    integer_passes env (state_of k w) p (identity_of c.args.identity) c.args.bounds.now _ (ap range_in (c.integer-base.ensures k.types))
    (given (range_of k c.in_ok-range.range) n)
    (c.in_ok-range.ensures k env (kept_state k w.counts w.found) (c.place-place.ensures k env h.symbols h.instances h.generic))
    ∙ ap (λ r. Ok (given (record { subtype = of_type (Integer (identity_of c.args.identity)) (range_of k c.in_ok-range.range); region = r }) n)) (region_is c.args.context.now w k env h)

pub returns-clause-keeps : goal.returns-clause-keeps
returns-clause-keeps c = record { symbols = grows_itself c.args.walk.now.symbols; spans = refl }
