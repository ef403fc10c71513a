use Rattle.std.proofs.Common.{[], refl, sym, ◌∙◌, subst}
use Rattle.std.proofs.lemmas.Result.{err_from_is_err_and}
use Rattle.ada_entities.specs.declared.units.Interface.TheVariants as interface
use Rattle.ada_demands.specs.SpanViews as spans
use Rattle.program_walk.specs.declared.walk.Walk.{Walk}
use Rattle.program_walk.specs.Walks.{Begins}
use Rattle.program_walk.specs.Changes.{Becomes}
use Rattle.program_walk.specs.SymbolViews as symbols
use Rattle.unit_walk.proofs.BetweenLaws.{is_entered, as_entered, left_becomes, shown_behind, goes_behind}
use Rattle.unit_walk.proofs.InstanceLaws.{instance_refused, instance_walked, notes_stay}
use Rattle.unit_walk.proofs.instances.instance_shown.Goals as goal

pub returns-in_err-made-clause-comes : goal.returns-in_err-made-clause-comes
returns-in_err-made-clause-comes c between k world before begins =
    let e = err_from_is_err_and c.from_residual-in_err-made.result c.from_residual-in_err-made.ensures.1 in
    rw (e.1, e.2) (let p = c.args.place in
    let old = c.args.walk.now in
    let first = c.enter_unit.new.walk in
    let entered = is_entered old first c.args.seen c.new.result c.new.ensures between c.in_ok-enter_unit.ensures in
    instance_refused p.step p.library.now c.args.instances.now p.unit p.unit_name.now c.context-context.result c.context-context.ensures
    old first c.args.seen entered c.place-inside.result c.place-inside.ensures c.args.pos c.args.number c.args.instance.now k world before
    (record { symbols = begins.symbols; spans = begins.spans }) c.instance_actuals.new.notes c.in_err-made.field-0.0 c.in_err-made.ensures)

pub returns-in_err-made-clause-passes : goal.returns-in_err-made-clause-passes
returns-in_err-made-clause-passes c between =
    let e = err_from_is_err_and c.from_residual-in_err-made.result c.from_residual-in_err-made.ensures.1 in
    rw (e.1, e.2) (let first = c.enter_unit.new.walk in
    let entered = is_entered c.args.walk.now first c.args.seen c.new.result c.new.ensures between c.in_ok-enter_unit.ensures in
    notes_stay c.args.walk.now first c.args.seen entered c.instance_actuals.new.notes c.in_err-made.field-0.0)

pub returns-clause-comes : goal.returns-clause-comes
returns-clause-comes c between k world before begins =
    let p = c.args.place in
    let old = c.args.walk.now in
    let first = c.enter_unit.new.walk in
    let entered = is_entered old first c.args.seen c.new.result c.new.ensures between c.in_ok-enter_unit.ensures in
    let second : Walk = record first { notes = c.instance_actuals.new.notes; symbols = c.leave_unit.new.symbols } in
    let third = c.make_instance.new.walk in
    let kept = c.in_ok-make_instance.ensures.kept in
    let b_third : Begins third k = record { symbols = c.in_ok-show_instance.ensures.added.begins k begins.symbols; spans = begins.spans } in
    let b_second = subst (λ s. symbols.Begins s k) kept.symbols b_third.symbols in
    let b_first : Begins first k = record { symbols = c.leave_unit.ensures.left.begins k b_second; spans = subst (λ s. spans.Begins s k) kept.spans b_third.spans } in
    instance_walked p.step p.library.now c.args.instances.now p.unit p.unit_name.now c.context-context.result c.context-context.ensures
    old first c.args.seen entered c.place-inside.result c.place-inside.ensures c.args.pos c.args.number c.args.instance.now k world before
    b_first c.in_ok-made.made second c.in_ok-made.ensures refl c.leave_unit.ensures.left refl third c.make_instance.new.instances
    c.in_ok-make_instance.ensures.made kept c.show_instance.new.symbols c.in_ok-show_instance.ensures.shown begins b_third

pub returns-clause-passes : goal.returns-clause-passes
returns-clause-passes c between =
    let old = c.args.walk.now in
    let first = c.enter_unit.new.walk in
    let entered = is_entered old first c.args.seen c.new.result c.new.ensures between c.in_ok-enter_unit.ensures in
    let kept = c.in_ok-make_instance.ensures.kept in
    let left = left_becomes old first first.symbols c.leave_unit.new.symbols c.args.seen [] [] entered (as_entered old first c.args.seen [] entered)
    c.leave_unit.ensures.left in
    goes_behind old _ c.args.seen _ between
    (shown_behind old.symbols c.make_instance.new.walk.symbols c.show_instance.new.symbols c.args.place.unit
    (interface.Instance c.in_ok-made.made.generic c.args.number)
    (subst (λ s. Becomes old.symbols s [] old.symbols.units) (sym kept.symbols) left)
    c.in_ok-show_instance.ensures.added)
    (kept.spans ∙ entered.spans)
