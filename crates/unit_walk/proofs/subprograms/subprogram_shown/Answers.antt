use Rattle.std.proofs.Common.{[], ap, ◌∙◌}
use Rattle.std.proofs.lemmas.Result.{err_from_is_err_and}
use Rattle.ada_entities.specs.declared.units.Interface.TheVariants as interface
use Rattle.ada_demands.specs.SpanViews.{listed}
use Rattle.program_walk.specs.Walks.{Begins}
use Rattle.program_walk.proofs.GoingLaws.{keeps_continues, refused_behind}
use Rattle.unit_walk.proofs.BetweenLaws.{is_entered, left_becomes, entered_stays, grown_behind, shown_behind, goes_behind}
use Rattle.unit_walk.proofs.SubprogramLaws.{stands_there, subprogram_refused, subprogram_walked}
use Rattle.unit_walk.proofs.subprograms.subprogram_shown.Goals as goal

pub returns-in_err-profile-clause-comes : goal.returns-in_err-profile-clause-comes
returns-in_err-profile-clause-comes c between k world before begins =
    let e = err_from_is_err_and c.from_residual-in_err-profile.result c.from_residual-in_err-profile.ensures.1 in
    rw (e.1, e.2) (let p = c.args.place in
    let old = c.args.walk.now in
    let first = c.enter_unit.new.walk in
    let entered = is_entered old first c.args.seen c.new.result c.new.ensures between c.in_ok-enter_unit.ensures in
    let f = c.in_err-profile.field-0.0 in
    refused_behind first c.profile_alone.new.walk k f _ c.in_err-profile.ensures.keeps begins (λ b.
    subprogram_refused p.step p.library.now c.args.instances.now p.unit p.unit_name.now c.context-context.result c.context-context.ensures
    old first c.args.seen entered c.args.body.now k world before f
    (c.in_err-profile.ensures.comes k _
    (stands_there p.step p.library.now c.args.instances.now p.unit p.unit_name.now c.context-context.result c.context-context.ensures
    old first c.args.seen entered c.args.body.now k world before b) begins)))

pub returns-in_err-profile-clause-passes : goal.returns-in_err-profile-clause-passes
returns-in_err-profile-clause-passes c between =
    let e = err_from_is_err_and c.from_residual-in_err-profile.result c.from_residual-in_err-profile.ensures.1 in
    rw (e.1, e.2) (let entered = is_entered c.args.walk.now c.enter_unit.new.walk c.args.seen c.new.result c.new.ensures between c.in_ok-enter_unit.ensures in
    entered_stays c.args.walk.now c.enter_unit.new.walk c.profile_alone.new.walk c.args.seen [] c.in_err-profile.field-0.0 entered
    c.in_err-profile.ensures.keeps)

pub returns-clause-comes : goal.returns-clause-comes
returns-clause-comes c between k world before begins =
    let p = c.args.place in
    let old = c.args.walk.now in
    let first = c.enter_unit.new.walk in
    let second = c.profile_alone.new.walk in
    let kept = c.in_ok-profile.ensures.keeps in
    let entered = is_entered old first c.args.seen c.new.result c.new.ensures between c.in_ok-enter_unit.ensures in
    let left = left_becomes old first second.symbols c.leave_unit.new.symbols c.args.seen [] [] entered
    (record {
      known = kept.symbols.known;
      stays = kept.symbols.stays;
      begins = kept.symbols.begins;
      regions = kept.symbols.regions ∙ entered.symbols.regions;
      units = kept.symbols.units;
    }) c.leave_unit.ensures.left in
    let grew = grown_behind old.symbols c.leave_unit.new.symbols c.new_routine.new.symbols left c.in_ok-routine.ensures.added in
    let shows = c.in_ok-set_unit.ensures tt in
    let b_second : Begins second k = record { symbols = c.leave_unit.ensures.left.begins k (c.in_ok-routine.ensures.added.begins k (shows.begins k begins.symbols)); spans = begins.spans } in
    let b_first = keeps_continues first second kept k b_second in
    let stands = stands_there p.step p.library.now c.args.instances.now p.unit p.unit_name.now c.context-context.result c.context-context.ensures
    old first c.args.seen entered c.args.body.now k world before b_first in
    subprogram_walked p.step p.library.now c.args.instances.now p.unit p.unit_name.now c.context-context.result c.context-context.ensures
    old first c.args.seen entered c.args.body.now k world before second c.in_ok-profile.profile
    (c.in_ok-profile.ensures.comes k _ stands b_second) c.in_ok-number.number c.in_ok-number.ensures
    c.new_routine.new.symbols c.set_unit.new.self c.in_ok-routine.routine c.in_ok-routine.ensures.named grew shows begins

pub returns-clause-passes : goal.returns-clause-passes
returns-clause-passes c between =
    let old = c.args.walk.now in
    let first = c.enter_unit.new.walk in
    let second = c.profile_alone.new.walk in
    let kept = c.in_ok-profile.ensures.keeps in
    let entered = is_entered old first c.args.seen c.new.result c.new.ensures between c.in_ok-enter_unit.ensures in
    let left = left_becomes old first second.symbols c.leave_unit.new.symbols c.args.seen [] [] entered
    (record {
      known = kept.symbols.known;
      stays = kept.symbols.stays;
      begins = kept.symbols.begins;
      regions = kept.symbols.regions ∙ entered.symbols.regions;
      units = kept.symbols.units;
    }) c.leave_unit.ensures.left in
    let grew = grown_behind old.symbols c.leave_unit.new.symbols c.new_routine.new.symbols left c.in_ok-routine.ensures.added in
    goes_behind old _ c.args.seen _ between
    (shown_behind old.symbols c.new_routine.new.symbols c.set_unit.new.self c.args.place.unit (interface.Subprogram c.in_ok-routine.routine) grew
    (c.in_ok-set_unit.ensures tt))
    (ap listed kept.spans ∙ entered.spans)
