use Rattle.std.proofs.Common.{None, Some, Ok}
use Rattle.std.proofs.lemmas.Result.{err_from_is_err_and}
use Rattle.ada_rules.specs.Units.{Walked}
use Rattle.ada_entities.proofs.LookupLaws.{copied_get}
use Rattle.ada_phrases.specs.Scopes.{step_of}
use Rattle.program_walk.specs.States.{state_of}
use Rattle.program_walk.proofs.GoingLaws.{stays_behind, refused_behind}
use Rattle.unit_interfaces.proofs.InterfaceLaws.{goes_nowhere, then_behind, still_idle, reached_first, reached_next, reached_none, reached_refused, reached_last, in_order, refused_in_order, unit_there}
use Rattle.unit_interfaces.proofs.interfaces.all_shown.Goals as goal
use Rattle.unit_interfaces.proofs.interfaces.all_shown.Goals.{in-Some+in_ok-unit_shown, in_default}

pub loop-number-init : goal.loop-number-init
loop-number-init c = record {
  rest = λ all l idle same k world before b. reached_first (step_of c.args.step) c.args.library.now l c.args.instances.now c.args.walk.now k world _ before;
  goes = λ all l idle. goes_nowhere c.args.library.now all l c.args.walk.now idle;
}

pub returns-clause-comes : goal.returns-clause-comes
returns-clause-comes c all l idle same k world before begins =
    let step = step_of c.args.step in
    let x = c.args.library.now in
    let order = c.order-number-items.result.now in
    let w = c.loop-number.walk in
    let first : Walked = record { world = world; next = state_of k c.args.walk.now } in
    in_order {A = Unit {0}} step x l c.loop-number.instances w k first order (Ok tt) (c.order-number-items.ensures all l idle.library)
    (reached_last step x l c.loop-number.instances w k first order c.loop-number.number-index
    (c.loop-number.invariant.rest all l idle same k world before begins) c.loop-number-test.false)

pub returns-in_err-unit_shown-clause-comes : goal.returns-in_err-unit_shown-clause-comes
returns-in_err-unit_shown-clause-comes c all l idle same k world before begins =
    let e = err_from_is_err_and c.from_residual.result c.from_residual.ensures.1 in
    rw (e.1, e.2) (let step = step_of c.args.step in
    let x = c.args.library.now in
    let order = c.order-number-items.result.now in
    let middle = c.loop-number.walk in
    let f = c.in_err-unit_shown.field-0.0 in
    let first : Walked = record { world = world; next = state_of k c.args.walk.now } in
    let now = still_idle x all l c.args.walk.now middle idle (c.loop-number.invariant.goes all l idle) in
    refused_behind middle c.unit_shown.new.walk k f _ (c.in_err-unit_shown.ensures.passes all l now) begins (λ b.
    let r = c.loop-number.invariant.rest all l idle same k world before b in
    refused_in_order step l first order f (c.order-number-items.ensures all l idle.library)
    (reached_refused step x l c.loop-number.instances middle k first order c.loop-number.number-index r
    _ c.in-Some.unit.now f c.loop-number-test.true
    (unit_there c.args.units.now l.units _ c.get.result (Some c.in-Some.unit) same
    (copied_get c.args.units.now _ c.get.result c.get.ensures.lookup.1 c.get.ensures.lookup.3) c.in-Some.is)
    (c.in_err-unit_shown.ensures.comes all l now k r.world r.stands begins))))

pub returns-in_err-unit_shown-clause-passes : goal.returns-in_err-unit_shown-clause-passes
returns-in_err-unit_shown-clause-passes c all l idle =
    let e = err_from_is_err_and c.from_residual.result c.from_residual.ensures.1 in
    rw (e.1, e.2) (let goes = c.loop-number.invariant.goes all l idle in
    let now = still_idle c.args.library.now all l c.args.walk.now c.loop-number.walk idle goes in
    stays_behind c.args.walk.now c.loop-number.walk c.unit_shown.new.walk c.in_err-unit_shown.field-0.0 goes.continues
    (c.in_err-unit_shown.ensures.passes all l now))

pub loop-number-preserved : goal.loop-number-preserved
loop-number-preserved c = elim c.match-get.branch [
  | in-Some+in_ok-unit_shown w ↦ rw (w.instances-is, w.walk-is) (record {
    rest = λ all l idle same k world before b.
        let step = step_of c.args.step in
        let x = c.args.library.now in
        let order = c.order-number-items.result.now in
        let middle = c.loop-number.walk in
        let first : Walked = record { world = world; next = state_of k c.args.walk.now } in
        let now = still_idle x all l c.args.walk.now middle idle (c.loop-number.invariant.goes all l idle) in
        let passes = w.in_ok-unit_shown.ensures.passes all l now in
        let r = c.loop-number.invariant.rest all l idle same k world before (passes.continues k b) in
        reached_next step x l c.loop-number.instances middle k first order c.loop-number.number-index r _ w.in-Some.unit.now w.unit_shown.new.walk
        w.unit_shown.new.instances c.loop-number-test.true
        (unit_there c.args.units.now l.units _ c.get.result (Some w.in-Some.unit) same
        (copied_get c.args.units.now _ c.get.result c.get.ensures.lookup.1 c.get.ensures.lookup.3) w.in-Some.is)
        (w.in_ok-unit_shown.ensures.comes all l now k r.world r.stands b);
    goes = λ all l idle.
        let goes = c.loop-number.invariant.goes all l idle in
        let now = still_idle c.args.library.now all l c.args.walk.now c.loop-number.walk idle goes in
        then_behind c.args.walk.now c.loop-number.walk w.unit_shown.new.walk goes (w.in_ok-unit_shown.ensures.passes all l now);
  })
  | in_default w ↦ rw (w.instances-is, w.walk-is) (record {
    rest = λ all l idle same k world before b.
        let step = step_of c.args.step in
        let x = c.args.library.now in
        let order = c.order-number-items.result.now in
        let middle = c.loop-number.walk in
        let first : Walked = record { world = world; next = state_of k c.args.walk.now } in
        let r = c.loop-number.invariant.rest all l idle same k world before b in
        reached_none step x l c.loop-number.instances middle k first order c.loop-number.number-index r _ c.loop-number-test.true
        (unit_there c.args.units.now l.units _ c.get.result None same
        (copied_get c.args.units.now _ c.get.result c.get.ensures.lookup.1 c.get.ensures.lookup.3) w.in_default.is);
    goes = c.loop-number.invariant.goes;
  })
]
