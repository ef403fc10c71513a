use Rattle.std.proofs.Common.{Ok, [], refl, sym, ap, ◌∙◌}
use Rattle.std.proofs.lemmas.Result.{err_from_is_err_and}
use Rattle.ada_rules.specs.Environment.{given, beginning_state}
use Rattle.ada_entities.specs.EntityViews.{region_of}
use Rattle.ada_entities.specs.RegionCode.{innermost}
use Rattle.ada_entities.specs.Views.{identity_of}
use Rattle.program_walk.specs.Places.{with_notes}
use Rattle.program_walk.specs.declared.walk.Walk.{Walk}
use Rattle.program_walk.specs.Walks.{Begins}
use Rattle.program_walk.specs.States.{with_found, state_of}
use Rattle.declarations.specs.Types.{defined_in}
use Rattle.program_walk.proofs.GoingLaws.{is_in, stands_then, inside_continues, refused_behind, stays_behind, then_goes}
use Rattle.program_walk.proofs.InsideLaws.{stays_open}
use Rattle.program_walk.proofs.HidingLaws as hiding
use Rattle.program_walk.proofs.HidingLaws.{symbols_stay, name_hidden}
use Rattle.declarations.proofs.KindLaws.{name_refused, definition_refused, type_passes}
use Rattle.declarations.proofs.kinds.type_declared.Goals as goal

pub returns-in_err-declare-clause-comes : goal.returns-in_err-declare-clause-comes
returns-in_err-declare-clause-comes c k env h b =
    let e = err_from_is_err_and c.from_residual.result c.from_residual.ensures.1 in
    rw (e.1, e.2) (let w = c.args.walk.now in
    name_refused env (state_of k w) c.args.pos c.args.name.now c.args.definition.now c.in_err-declare.field-0.0
    (hiding.name_refused c.args.context.now w k env h c.args.name.now c.in_err-declare.field-0.0 c.in_err-declare.ensures.refused))

pub returns-in_err-declare-clause-goes : goal.returns-in_err-declare-clause-goes
returns-in_err-declare-clause-goes c open_now =
    let e = err_from_is_err_and c.from_residual.result c.from_residual.ensures.1 in
    rw (e.1, e.2) (symbols_stay c.args.walk.now _ c.in_err-declare.field-0.0 c.declare.ensures.continues refl)

pub returns-in_err-subtype-clause-comes : goal.returns-in_err-subtype-clause-comes
returns-in_err-subtype-clause-comes c k env h b =
    let e = err_from_is_err_and c.from_residual-in_err-subtype.result c.from_residual-in_err-subtype.ensures.1 in
    rw (e.1, e.2) (let w = c.args.walk.now in
    let first : Walk = record w { symbols = c.declare.new.self; counts = c.new_identity.new.counts } in
    let g = c.in_ok-declare.ensures.inside in
    let f = c.in_err-subtype.field-0.0 in
    refused_behind first c.defined.new.walk k f _ (c.in_err-subtype.ensures.goes (stays_open w.symbols first.symbols g)) b (λ begins.
    definition_refused env (state_of k w) c.args.pos c.args.name.now (state_of k first) (identity_of c.in_ok-identity.identity)
    (ap (λ s. with_notes k w.notes (with_found k w.found s)) (c.in_ok-identity.ensures.taken beginning_state))
    (c.in_ok-identity.ensures.identity env (state_of k w) (is_in c.args.context.now w k env h) refl)
    (region_of k (innermost first.symbols.regions)) (name_hidden c.args.context.now w k env h first.symbols c.args.name.now c.in_ok-declare.ensures.declared)
    c.args.definition.now f
    (c.in_err-subtype.ensures.comes c.args.pos k _ (stands_then c.args.context.now w k env h first (record { symbols = g; spans = refl }) begins) b)))

pub returns-in_err-subtype-clause-goes : goal.returns-in_err-subtype-clause-goes
returns-in_err-subtype-clause-goes c open_now =
    let e = err_from_is_err_and c.from_residual-in_err-subtype.result c.from_residual-in_err-subtype.ensures.1 in
    rw (e.1, e.2) (let w = c.args.walk.now in
    let first : Walk = record w { symbols = c.declare.new.self; counts = c.new_identity.new.counts } in
    let g = c.in_ok-declare.ensures.inside in
    stays_behind w first c.defined.new.walk c.in_err-subtype.field-0.0 (inside_continues w first (record { symbols = g; spans = refl }))
    (c.in_err-subtype.ensures.goes (stays_open w.symbols first.symbols g)))

pub returns-clause-comes : goal.returns-clause-comes
returns-clause-comes c k env h b =
    let w = c.args.walk.now in
    let first : Walk = record w { symbols = c.declare.new.self; counts = c.new_identity.new.counts } in
    let second = c.defined.new.walk in
    let g = c.in_ok-declare.ensures.inside in
    let goes = c.in_ok-subtype.ensures.goes (stays_open w.symbols first.symbols g) in
    let later : Begins second k = record { symbols = c.in_ok-redefine.ensures.inside.begins k b.symbols; spans = b.spans } in
    let begins = inside_continues first second goes k later in
    let counted = c.in_ok-count_type.ensures (goes.symbols.known (g.known h.symbols.units.known)) k env second.notes second.counts later.symbols h.generic in
    type_passes env (state_of k w) c.args.pos c.args.name.now (state_of k first) (identity_of c.in_ok-identity.identity)
    (ap (λ s. with_notes k w.notes (with_found k w.found s)) (c.in_ok-identity.ensures.taken beginning_state))
    (c.in_ok-identity.ensures.identity env (state_of k w) (is_in c.args.context.now w k env h) refl)
    (region_of k (innermost first.symbols.regions)) (name_hidden c.args.context.now w k env h first.symbols c.args.name.now c.in_ok-declare.ensures.declared)
    c.args.definition.now (given (defined_in second k c.in_ok-subtype.subtype) (state_of k second))
    (c.in_ok-subtype.ensures.comes c.args.pos k _ (stands_then c.args.context.now w k env h first (record { symbols = g; spans = refl }) begins) later)
    ∙ (λ z. Ok (record { region = sym (c.in_ok-redefine.ensures.redefined k) z; next = sym counted z; made = [] }))

pub returns-clause-goes : goal.returns-clause-goes
returns-clause-goes c open_now =
    let w = c.args.walk.now in
    let first : Walk = record w { symbols = c.declare.new.self; counts = c.new_identity.new.counts } in
    let second = c.defined.new.walk in
    let g = c.in_ok-declare.ensures.inside in
    then_goes w second _
    (then_goes w first second (record { symbols = g; spans = refl }) (c.in_ok-subtype.ensures.goes (stays_open w.symbols first.symbols g)))
    (record { symbols = c.in_ok-redefine.ensures.inside; spans = refl })
