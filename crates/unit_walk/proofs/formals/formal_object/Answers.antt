use Rattle.std.proofs.Common.{Ok, refl, sym, ◌∙◌}
use Rattle.std.proofs.lemmas.Result.{err_from_is_err_and}
use Rattle.ada_rules.specs.Environment.{given}
use Rattle.ada_entities.specs.EntityViews.{region_of}
use Rattle.ada_entities.specs.RegionCode.{innermost}
use Rattle.ada_demands.specs.StaticsViews.{noted}
use Rattle.ada_phrases.specs.Answers.{counted}
use Rattle.program_walk.specs.Marks.{marked_of}
use Rattle.program_walk.proofs.HideLaws.{then_inside}
use Rattle.program_walk.specs.Walks.{Begins}
use Rattle.program_walk.specs.States.{kept_state, state_of}
use Rattle.program_walk.proofs.HidingLaws as hiding
use Rattle.program_walk.proofs.HidingLaws.{with_symbols, symbols_stay, name_hidden, stands_behind}
use Rattle.unit_walk.proofs.FormalLaws.{object_refused, mark_refused, object_passes}
use Rattle.unit_walk.proofs.formals.formal_object.Goals as goal

pub returns-in_err-declare-clause-comes : goal.returns-in_err-declare-clause-comes
returns-in_err-declare-clause-comes c p k env h b =
    let e = err_from_is_err_and c.from_residual.result c.from_residual.ensures.1 in
    rw (e.1, e.2) (let w = c.args.walk.now in
    object_refused env (state_of k w) p c.args.name.now c.args.place c.args.mark.now c.in_err-declare.field-0.0
    (hiding.name_refused c.args.context.now w k env h c.args.name.now c.in_err-declare.field-0.0 c.in_err-declare.ensures.refused))

pub returns-in_err-declare-clause-goes : goal.returns-in_err-declare-clause-goes
returns-in_err-declare-clause-goes c open_now =
    let e = err_from_is_err_and c.from_residual.result c.from_residual.ensures.1 in
    rw (e.1, e.2) (symbols_stay c.args.walk.now _ c.in_err-declare.field-0.0 c.declare.ensures.continues refl)

pub returns-in_err-marked-clause-comes : goal.returns-in_err-marked-clause-comes
returns-in_err-marked-clause-comes c p k env h b =
    let e = err_from_is_err_and c.from_residual-in_err-marked.result c.from_residual-in_err-marked.ensures.1 in
    rw (e.1, e.2) (let w = c.args.walk.now in
    let s = c.declare.new.self in
    let stands = stands_behind c.args.context.now w k env h s c.in_ok-declare.ensures.inside (record { symbols = b.symbols; spans = b.spans }) in
    mark_refused env (state_of k w) p c.args.name.now c.args.place c.args.mark.now (region_of k (innermost s.regions))
    (name_hidden c.args.context.now w k env h s c.args.name.now c.in_ok-declare.ensures.declared) c.in_err-marked.field-0.0
    (c.in_err-marked.ensures k _ (noted k w.notes.statics (kept_state k w.counts w.found))
    (c.place-there.ensures k _ stands.symbols stands.instances stands.generic).site))

pub returns-in_err-marked-clause-goes : goal.returns-in_err-marked-clause-goes
returns-in_err-marked-clause-goes c open_now =
    let e = err_from_is_err_and c.from_residual-in_err-marked.result c.from_residual-in_err-marked.ensures.1 in
    rw (e.1, e.2) (symbols_stay c.args.walk.now _ c.in_err-marked.field-0.0 c.declare.ensures.continues refl)

pub returns-clause-comes : goal.returns-clause-comes
returns-clause-comes c p k env h b =
    let w = c.args.walk.now in
    let s = c.declare.new.self in
    let begins : Begins (with_symbols w s) k = record { symbols = c.in_ok-redefine.ensures.inside.begins k b.symbols; spans = b.spans } in
    let stands = stands_behind c.args.context.now w k env h s c.in_ok-declare.ensures.inside begins in
    let base = noted k w.notes.statics (kept_state k w.counts w.found) in
    let n = counted c.scalar_mark.new.decisions base in
    object_passes env (state_of k w) p c.args.name.now c.args.place c.args.mark.now (region_of k (innermost s.regions))
    (name_hidden c.args.context.now w k env h s c.args.name.now c.in_ok-declare.ensures.declared)
    (given (marked_of k c.in_ok-marked.marked) n)
    (c.in_ok-marked.ensures k _ base (c.place-there.ensures k _ stands.symbols stands.instances stands.generic).site)
    ∙ (λ z. Ok (given (sym (c.in_ok-redefine.ensures.redefined k) z) n))

pub returns-clause-goes : goal.returns-clause-goes
returns-clause-goes c open_now = record {
  symbols = then_inside _ _ _ c.in_ok-declare.ensures.inside c.in_ok-redefine.ensures.inside;
  spans = refl;
}
