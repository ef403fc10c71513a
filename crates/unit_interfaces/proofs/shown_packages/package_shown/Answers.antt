use Rattle.std.proofs.Common.{[], ap, ◌∙◌}
use Rattle.std.proofs.lemmas.Result.{err_from_is_err_and}
use Rattle.program_walk.specs.ada_demands.specs.SpanViews.{listed}
use Rattle.program_walk.specs.declared.walk.Walk.{Walk}
use Rattle.program_walk.specs.Walks.{Begins}
use Rattle.program_walk.specs.Going.{region_in}
use Rattle.ada_entities.specs.EntityViews.{region_of}
use Rattle.unit_walk.specs.Walked.{env_at}
use Rattle.unit_walk.proofs.BetweenLaws.{is_entered, entered_open, entered_stays, kept_open, items_stay, text_left, shown_behind, goes_behind, text_known, goes_stay}
use Rattle.unit_interfaces.proofs.PackageLaws.{refused_at_formals, refused_at_items, refused_at_end, passes_end, package_walked, seen_as, passes_in}
use Rattle.unit_interfaces.proofs.shown_packages.package_shown.Goals as goal

pub returns-in_err-formals_declared-clause-comes : goal.returns-in_err-formals_declared-clause-comes
returns-in_err-formals_declared-clause-comes c p between k world before begins =
    let e = err_from_is_err_and c.from_residual-in_err-formals_declared.result c.from_residual-in_err-formals_declared.ensures.1 in
    rw (e.1, e.2) (let at = c.args.place in
    let old = c.args.walk.now in
    let first = c.enter_unit.new.walk in
    let second = c.formals_declared.new.walk in
    let entered = is_entered old first c.args.seen c.new.result c.new.ensures between c.in_ok-enter_unit.ensures in
    let open_now = entered_open old first c.args.seen [] entered in
    refused_at_formals at.step at.library.now c.args.instances.now at.unit at.unit_name.now c.context.result c.package_context-context.result c.context.ensures
    c.generic_at-generic.result c.package_context-context.ensures old first second c.args.seen entered c.args.specification.now
    c.generic_at-generic.ensures c.formals_in.result.now c.formals_in.ensures k world before p c.in_err-formals_declared.field-0.0
    (c.in_err-formals_declared.ensures.goes open_now) begins c.in_err-formals_declared.ensures.comes)

pub returns-in_err-formals_declared-clause-passes : goal.returns-in_err-formals_declared-clause-passes
returns-in_err-formals_declared-clause-passes c between =
    let e = err_from_is_err_and c.from_residual-in_err-formals_declared.result c.from_residual-in_err-formals_declared.ensures.1 in
    rw (e.1, e.2) (let old = c.args.walk.now in
    let first = c.enter_unit.new.walk in
    let second = c.formals_declared.new.walk in
    let entered = is_entered old first c.args.seen c.new.result c.new.ensures between c.in_ok-enter_unit.ensures in
    let open_now = entered_open old first c.args.seen [] entered in
    entered_stays old first second c.args.seen [] c.in_err-formals_declared.field-0.0 entered (c.in_err-formals_declared.ensures.goes open_now))

pub returns-in_err-package_items-clause-comes : goal.returns-in_err-package_items-clause-comes
returns-in_err-package_items-clause-comes c p between k world before begins =
    let e = err_from_is_err_and c.from_residual-in_err-package_items.result c.from_residual-in_err-package_items.ensures.1 in
    rw (e.1, e.2) (let at = c.args.place in
    let old = c.args.walk.now in
    let first = c.enter_unit.new.walk in
    let second = c.formals_declared.new.walk in
    let entered = is_entered old first c.args.seen c.new.result c.new.ensures between c.in_ok-enter_unit.ensures in
    let open_now = entered_open old first c.args.seen [] entered in
    let goes = c.in_ok-formals_declared.ensures.goes open_now in
    let copied = c.innermost_copied.new.symbols in
    let known = goes.symbols.known (entered.symbols.known between.known) in
    let kept = c.in_ok-formals.ensures.kept known in
    let third : Walk = record second { symbols = copied } in
    let third_open = kept_open second.symbols copied kept in
    let fourth = c.package_items.new.walk in
    refused_at_items at.step at.library.now c.args.instances.now at.unit at.unit_name.now c.context.result c.package_context-context.result c.context.ensures
    c.generic_at-generic.result c.package_context-context.ensures old first second c.args.seen entered c.args.specification.now
    c.generic_at-generic.ensures c.formals_in.result.now c.formals_in.ensures k world before tt goes
    c.in_ok-formals_declared.ensures.comes copied kept fourth c.as_slice.result.now c.as_slice.ensures p
    c.in_err-package_items.field-0.0 (c.in_err-package_items.ensures.goes third_open) begins c.in_err-package_items.ensures.comes)

pub returns-in_err-package_items-clause-passes : goal.returns-in_err-package_items-clause-passes
returns-in_err-package_items-clause-passes c between =
    let e = err_from_is_err_and c.from_residual-in_err-package_items.result c.from_residual-in_err-package_items.ensures.1 in
    rw (e.1, e.2) (let old = c.args.walk.now in
    let first = c.enter_unit.new.walk in
    let second = c.formals_declared.new.walk in
    let entered = is_entered old first c.args.seen c.new.result c.new.ensures between c.in_ok-enter_unit.ensures in
    let open_now = entered_open old first c.args.seen [] entered in
    let goes = c.in_ok-formals_declared.ensures.goes open_now in
    let copied = c.innermost_copied.new.symbols in
    let known = goes.symbols.known (entered.symbols.known between.known) in
    let kept = c.in_ok-formals.ensures.kept known in
    let third : Walk = record second { symbols = copied } in
    let third_open = kept_open second.symbols copied kept in
    let fourth = c.package_items.new.walk in
    items_stay old first second fourth c.args.seen entered goes copied kept c.in_err-package_items.field-0.0
    (c.in_err-package_items.ensures.goes third_open))

pub returns-in_err-closed_by-clause-comes : goal.returns-in_err-closed_by-clause-comes
returns-in_err-closed_by-clause-comes c p between k world before begins =
    let e = err_from_is_err_and c.from_residual-in_err-closed_by.result c.from_residual-in_err-closed_by.ensures.1 in
    rw (e.1, e.2) (let at = c.args.place in
    let old = c.args.walk.now in
    let first = c.enter_unit.new.walk in
    let second = c.formals_declared.new.walk in
    let entered = is_entered old first c.args.seen c.new.result c.new.ensures between c.in_ok-enter_unit.ensures in
    let open_now = entered_open old first c.args.seen [] entered in
    let goes = c.in_ok-formals_declared.ensures.goes open_now in
    let copied = c.innermost_copied.new.symbols in
    let known = goes.symbols.known (entered.symbols.known between.known) in
    let kept = c.in_ok-formals.ensures.kept known in
    let third : Walk = record second { symbols = copied } in
    let third_open = kept_open second.symbols copied kept in
    let fourth = c.package_items.new.walk in
    let goes_on = c.in_ok-package_items.ensures.goes third_open in
    refused_at_end at.step at.library.now c.args.instances.now at.unit at.unit_name.now c.context.result c.package_context-context.result c.context.ensures
    c.generic_at-generic.result c.package_context-context.ensures old first second c.args.seen entered c.args.specification.now
    c.generic_at-generic.ensures c.formals_in.result.now c.formals_in.ensures k world before tt goes
    c.in_ok-formals_declared.ensures.comes copied kept fourth c.as_slice.result.now c.as_slice.ensures goes_on begins
    c.in_ok-package_items.ensures.comes p c.in_err-closed_by.field-0.0 c.in_err-closed_by.ensures)

pub returns-in_err-closed_by-clause-passes : goal.returns-in_err-closed_by-clause-passes
returns-in_err-closed_by-clause-passes c between =
    let e = err_from_is_err_and c.from_residual-in_err-closed_by.result c.from_residual-in_err-closed_by.ensures.1 in
    rw (e.1, e.2) (let old = c.args.walk.now in
    let first = c.enter_unit.new.walk in
    let second = c.formals_declared.new.walk in
    let entered = is_entered old first c.args.seen c.new.result c.new.ensures between c.in_ok-enter_unit.ensures in
    let open_now = entered_open old first c.args.seen [] entered in
    let goes = c.in_ok-formals_declared.ensures.goes open_now in
    let copied = c.innermost_copied.new.symbols in
    let known = goes.symbols.known (entered.symbols.known between.known) in
    let kept = c.in_ok-formals.ensures.kept known in
    let third : Walk = record second { symbols = copied } in
    let third_open = kept_open second.symbols copied kept in
    let fourth = c.package_items.new.walk in
    let goes_on = c.in_ok-package_items.ensures.goes third_open in
    items_stay old first second fourth c.args.seen entered goes copied kept c.in_err-closed_by.field-0.0
    (goes_stay third fourth c.in_err-closed_by.field-0.0 goes_on))

pub returns-clause-comes : goal.returns-clause-comes
returns-clause-comes c p between k world before begins =
    let at = c.args.place in
    let old = c.args.walk.now in
    let first = c.enter_unit.new.walk in
    let second = c.formals_declared.new.walk in
    let entered = is_entered old first c.args.seen c.new.result c.new.ensures between c.in_ok-enter_unit.ensures in
    let open_now = entered_open old first c.args.seen [] entered in
    let goes = c.in_ok-formals_declared.ensures.goes open_now in
    let copied = c.innermost_copied.new.symbols in
    let known = goes.symbols.known (entered.symbols.known between.known) in
    let kept = c.in_ok-formals.ensures.kept known in
    let third : Walk = record second { symbols = copied } in
    let third_open = kept_open second.symbols copied kept in
    let fourth = c.package_items.new.walk in
    let goes_on = c.in_ok-package_items.ensures.goes third_open in
    let left = c.leave_unit-region.new.symbols in
    let grew = text_left old first second fourth c.args.seen entered goes copied kept goes_on left c.leave_unit-region.ensures.left in
    let known_now = text_known old first second fourth c.args.seen entered goes copied kept goes_on left c.leave_unit-region.ensures.left
    between.known c.in_ok-formals.formals c.leave_unit-region.result c.in_ok-formals.ensures.region c.leave_unit-region.ensures.text in
    let shows = c.in_ok-set_unit.ensures (c.interface_with-interface.ensures.known left.extent known_now.0 known_now.1) in
    let b_fourth : Begins fourth k = record { symbols = c.leave_unit-region.ensures.left.begins k (shows.begins k begins.symbols); spans = begins.spans } in
    package_walked at.step at.library.now c.args.instances.now at.unit at.unit_name.now c.context.result c.package_context-context.result c.context.ensures
    c.generic_at-generic.result c.package_context-context.ensures old first c.args.seen entered k world before c.args.specification.now
    c.generic_at-generic.ensures fourth c.note_library_words.new.found left c.set_unit.new.self c.interface_with-interface.result
    (region_in k second) c.leave_unit-region.result c.in_ok-note_library_words.ensures grew shows begins
    (λ actuals. seen_as k actuals second.symbols c.in_ok-formals.formals c.leave_unit-region.result c.args.specification.now.formals c.interface_with-interface.result
    c.in_ok-formals.ensures.region (c.interface_with-interface.ensures.is k actuals))
    (λ q. passes_in k fourth c.leave_unit-region.result (env_at at world (region_of k c.args.seen)) at.unit c.args.specification.now (region_in k second) _ c.leave_unit-region.ensures.text
    (passes_end at.step at.library.now c.args.instances.now at.unit at.unit_name.now c.context.result c.package_context-context.result c.context.ensures
    c.generic_at-generic.result c.package_context-context.ensures old first second c.args.seen entered c.args.specification.now
    c.generic_at-generic.ensures c.formals_in.result.now c.formals_in.ensures k world before tt goes c.in_ok-formals_declared.ensures.comes copied kept fourth c.as_slice.result.now c.as_slice.ensures goes_on b_fourth
    c.in_ok-package_items.ensures.comes q c.in_ok-closed_by.ensures))
    p

pub returns-clause-passes : goal.returns-clause-passes
returns-clause-passes c between =
    let old = c.args.walk.now in
    let first = c.enter_unit.new.walk in
    let second = c.formals_declared.new.walk in
    let entered = is_entered old first c.args.seen c.new.result c.new.ensures between c.in_ok-enter_unit.ensures in
    let open_now = entered_open old first c.args.seen [] entered in
    let goes = c.in_ok-formals_declared.ensures.goes open_now in
    let copied = c.innermost_copied.new.symbols in
    let known = goes.symbols.known (entered.symbols.known between.known) in
    let kept = c.in_ok-formals.ensures.kept known in
    let third : Walk = record second { symbols = copied } in
    let third_open = kept_open second.symbols copied kept in
    let fourth = c.package_items.new.walk in
    let goes_on = c.in_ok-package_items.ensures.goes third_open in
    let left = c.leave_unit-region.new.symbols in
    let grew = text_left old first second fourth c.args.seen entered goes copied kept goes_on left c.leave_unit-region.ensures.left in
    let known_now = text_known old first second fourth c.args.seen entered goes copied kept goes_on left c.leave_unit-region.ensures.left
    between.known c.in_ok-formals.formals c.leave_unit-region.result c.in_ok-formals.ensures.region c.leave_unit-region.ensures.text in
    let shows = c.in_ok-set_unit.ensures (c.interface_with-interface.ensures.known left.extent known_now.0 known_now.1) in
    goes_behind old _ c.args.seen _ between
    (shown_behind old.symbols left c.set_unit.new.self c.args.place.unit c.interface_with-interface.result grew shows)
    (ap listed goes_on.spans ∙ (ap listed goes.spans ∙ entered.spans))
