use Rattle.std.proofs.lemmas.Result.{err_from_is_err_and}
use Rattle.program_walk.specs.Walks.{Begins}
use Rattle.unit_interfaces.specs.unit_walk.proofs.BetweenLaws.{entered_stays}
use Rattle.library_units.proofs.BodyLaws.{text_known, sound_entered, advanced_stays, body_left, refused_at_items, refused_at_end, body_comes}
use Rattle.library_units.proofs.package_bodies.package_body.Goals as goal

pub returns-in_err-body_items-clause-comes : goal.returns-in_err-body_items-clause-comes
returns-in_err-body_items-clause-comes c p between k world before begins =
    let e = err_from_is_err_and c.from_residual-in_err-body_items.result c.from_residual-in_err-body_items.ensures.1 in
    rw (e.1, e.2) (let at = c.args.place in
    let old = c.args.walk.now in
    let first = c.enter_unit.new.walk in
    let second = c.body_items.new.walk in
    let text = c.in_ok-text.text in
    let is_text = c.in_ok-text.ensures in
    let entered = c.in_ok-enter_unit.ensures between.closed between.seen_known (text_known old.symbols c.args.package_unit text between.known is_text) between.known in
    let sound = sound_entered old first c.args.seen text entered between.known in
    refused_at_items at.step at.library.now c.args.instances.now at.unit at.unit_name.now c.context.result c.package_context-context.result c.context.ensures
    c.generic_of-generic.result c.args.package_unit c.package_context-context.ensures old first second c.args.seen text entered is_text c.generic_of-generic.ensures
    c.args.body.now c.as_slice.result.now c.as_slice.ensures k world before p c.in_err-body_items.field-0.0
    (c.in_err-body_items.ensures.goes sound) begins c.in_err-body_items.ensures.comes)

pub returns-in_err-body_items-clause-passes : goal.returns-in_err-body_items-clause-passes
returns-in_err-body_items-clause-passes c between =
    let e = err_from_is_err_and c.from_residual-in_err-body_items.result c.from_residual-in_err-body_items.ensures.1 in
    rw (e.1, e.2) (let old = c.args.walk.now in
    let first = c.enter_unit.new.walk in
    let text = c.in_ok-text.text in
    let entered = c.in_ok-enter_unit.ensures between.closed between.seen_known (text_known old.symbols c.args.package_unit text between.known c.in_ok-text.ensures) between.known in
    let sound = sound_entered old first c.args.seen text entered between.known in
    entered_stays old first c.body_items.new.walk c.args.seen text c.in_err-body_items.field-0.0 entered (c.in_err-body_items.ensures.goes sound))

pub returns-in_err-closed_by-clause-comes : goal.returns-in_err-closed_by-clause-comes
returns-in_err-closed_by-clause-comes c p between k world before begins =
    let e = err_from_is_err_and c.from_residual-in_err-closed_by.result c.from_residual-in_err-closed_by.ensures.1 in
    rw (e.1, e.2) (let at = c.args.place in
    let old = c.args.walk.now in
    let first = c.enter_unit.new.walk in
    let second = c.body_items.new.walk in
    let text = c.in_ok-text.text in
    let is_text = c.in_ok-text.ensures in
    let entered = c.in_ok-enter_unit.ensures between.closed between.seen_known (text_known old.symbols c.args.package_unit text between.known is_text) between.known in
    let sound = sound_entered old first c.args.seen text entered between.known in
    refused_at_end at.step at.library.now c.args.instances.now at.unit at.unit_name.now c.context.result c.package_context-context.result c.context.ensures
    c.generic_of-generic.result c.args.package_unit c.package_context-context.ensures old first second c.args.seen text entered is_text c.generic_of-generic.ensures
    c.args.body.now c.as_slice.result.now c.as_slice.ensures k world before tt
    (c.in_ok-body_items.ensures.goes sound) begins c.in_ok-body_items.ensures.comes p c.in_err-closed_by.field-0.0 c.in_err-closed_by.ensures)

pub returns-in_err-closed_by-clause-passes : goal.returns-in_err-closed_by-clause-passes
returns-in_err-closed_by-clause-passes c between =
    let e = err_from_is_err_and c.from_residual-in_err-closed_by.result c.from_residual-in_err-closed_by.ensures.1 in
    rw (e.1, e.2) (let old = c.args.walk.now in
    let first = c.enter_unit.new.walk in
    let text = c.in_ok-text.text in
    let entered = c.in_ok-enter_unit.ensures between.closed between.seen_known (text_known old.symbols c.args.package_unit text between.known c.in_ok-text.ensures) between.known in
    let sound = sound_entered old first c.args.seen text entered between.known in
    advanced_stays old first c.body_items.new.walk c.args.seen text c.in_err-closed_by.field-0.0 entered (c.in_ok-body_items.ensures.goes sound))

pub returns-clause-comes : goal.returns-clause-comes
returns-clause-comes c p between k world before begins =
    let at = c.args.place in
    let old = c.args.walk.now in
    let first = c.enter_unit.new.walk in
    let second = c.body_items.new.walk in
    let text = c.in_ok-text.text in
    let is_text = c.in_ok-text.ensures in
    let entered = c.in_ok-enter_unit.ensures between.closed between.seen_known (text_known old.symbols c.args.package_unit text between.known is_text) between.known in
    let sound = sound_entered old first c.args.seen text entered between.known in
    let b_second : Begins second k = record { symbols = c.leave_unit.ensures.left.begins k begins.symbols; spans = begins.spans } in
    body_comes at.step at.library.now c.args.instances.now at.unit at.unit_name.now c.context.result c.package_context-context.result c.context.ensures
    c.generic_of-generic.result c.args.package_unit c.package_context-context.ensures old first second c.args.seen text entered is_text c.generic_of-generic.ensures
    c.args.body.now c.as_slice.result.now c.as_slice.ensures k world before tt
    (c.in_ok-body_items.ensures.goes sound) b_second c.in_ok-body_items.ensures.comes p c.leave_unit.new.symbols c.note_library_words.new.found
    c.in_ok-closed_by.ensures c.in_ok-note_library_words.ensures

pub returns-clause-passes : goal.returns-clause-passes
returns-clause-passes c between =
    let old = c.args.walk.now in
    let first = c.enter_unit.new.walk in
    let second = c.body_items.new.walk in
    let text = c.in_ok-text.text in
    let entered = c.in_ok-enter_unit.ensures between.closed between.seen_known (text_known old.symbols c.args.package_unit text between.known c.in_ok-text.ensures) between.known in
    let sound = sound_entered old first c.args.seen text entered between.known in
    body_left old first second c.leave_unit.new.symbols c.args.seen text entered (c.in_ok-body_items.ensures.goes sound) c.leave_unit.ensures.left
    c.note_library_words.new.found
