use Rattle.std.proofs.Common.{Ok, refl, ap, ◌∙◌}
use Rattle.std.proofs.lemmas.Result.{err_from_is_err_and}
use Rattle.ada_entities.specs.EntityViews.{region_of}
use Rattle.ada_entities.specs.RegionCode.{innermost}
use Rattle.program_walk.specs.declared.walk.Walk.{Walk}
use Rattle.program_walk.specs.States.{state_of}
use Rattle.program_walk.proofs.GoingLaws.{is_in, then_goes}
use Rattle.program_walk.proofs.InsideLaws.{stays_open}
use Rattle.program_walk.proofs.HidingLaws as hiding
use Rattle.program_walk.proofs.HidingLaws.{symbols_stay, names_hidden}
use Rattle.declarations.proofs.KindLaws.{exceptions_refused, exceptions_pass}
use Rattle.declarations.proofs.kinds.exceptions_declared.Goals as goal

pub returns-in_err-hide_all-clause-comes : goal.returns-in_err-hide_all-clause-comes
returns-in_err-hide_all-clause-comes c k env h b =
    let e = err_from_is_err_and c.from_residual.result c.from_residual.ensures.1 in
    rw (e.1, e.2) (let w = c.args.walk.now in
    exceptions_refused env (state_of k w) c.args.pos c.args.names.now c.in_err-hide_all.field-0.0
    (hiding.names_refused c.args.context.now w k env h c.args.names.now _ c.args.pos c.in_err-hide_all.field-0.0 refl c.in_err-hide_all.ensures.refused))

pub returns-in_err-hide_all-clause-goes : goal.returns-in_err-hide_all-clause-goes
returns-in_err-hide_all-clause-goes c open_now =
    let e = err_from_is_err_and c.from_residual.result c.from_residual.ensures.1 in
    rw (e.1, e.2) (symbols_stay c.args.walk.now _ c.in_err-hide_all.field-0.0 c.hide_all.ensures.continues refl)

pub returns-clause-comes : goal.returns-clause-comes
returns-clause-comes c k env h b =
    let w = c.args.walk.now in
    let s = c.hide_all.new.self in
    exceptions_pass env (state_of k w) c.args.pos c.args.names.now (region_of k (innermost s.regions))
    (names_hidden c.args.context.now w k env h s c.args.names.now _ c.args.pos refl c.in_ok-hide_all.ensures.hidden)
    ∙ ap Ok (c.in_ok-add_exceptions.ensures.added k env (is_in c.args.context.now w k env h))

pub returns-clause-goes : goal.returns-clause-goes
returns-clause-goes c open_now =
    let w = c.args.walk.now in
    let first : Walk = record w { symbols = c.hide_all.new.self } in
    let g = c.in_ok-hide_all.ensures.inside open_now in
    then_goes w first _ (record { symbols = g; spans = refl }) (c.in_ok-add_exceptions.ensures.inside (stays_open w.symbols first.symbols g))
