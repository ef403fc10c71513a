use Rattle.std.proofs.Common.{[]}
use Rattle.std.proofs.lemmas.Result.{err_from_is_err_and}
use Rattle.program_walk.specs.Walks.{Begins}
use Rattle.ada_entities.specs.Answers.{no_memory}
use Rattle.unit_interfaces.specs.unit_walk.proofs.BetweenLaws.{is_entered, entered_stays}
use Rattle.library_units.proofs.BodyLaws.{sound_entered, body_left, inside_refused, inside_comes}
use Rattle.library_units.proofs.subprogram_bodies.subprogram_body.Goals as goal

pub returns-in_err-enter_unit-clause-comes : goal.returns-in_err-enter_unit-clause-comes
returns-in_err-enter_unit-clause-comes c =
    let e = err_from_is_err_and c.from_residual.result c.from_residual.ensures.1 in
    rw (e.1, e.2) (record { comes = λ between k world before begins. no_memory })

pub returns-in_err-enter_unit-clause-passes : goal.returns-in_err-enter_unit-clause-passes
returns-in_err-enter_unit-clause-passes c between =
    let e = err_from_is_err_and c.from_residual.result c.from_residual.ensures.1 in
    rw (e.1, e.2) tt

pub returns-in_err-library_body-clause-comes : goal.returns-in_err-library_body-clause-comes
returns-in_err-library_body-clause-comes c =
    let e = err_from_is_err_and c.from_residual-in_err-library_body.result c.from_residual-in_err-library_body.ensures.1 in
    rw (e.1, e.2) (record {
      comes = λ between k world before begins.
          let p = c.args.place in
          let old = c.args.walk.now in
          let first = c.enter_unit.new.walk in
          let entered = is_entered old first c.args.seen c.new.result c.new.ensures between c.in_ok-enter_unit.ensures in
          let sound = sound_entered old first c.args.seen [] entered between.known in
          inside_refused p.step p.library.now c.args.instances.now p.unit p.unit_name.now c.context.result c.inside-context.result c.context.ensures
          c.inside-context.ensures old first c.args.seen entered k world before c.library_body.new.walk c.args.body.now c.in_err-library_body.field-0.0
          (c.in_err-library_body.ensures.goes sound) begins c.in_err-library_body.ensures.comes;
    })

pub returns-in_err-library_body-clause-passes : goal.returns-in_err-library_body-clause-passes
returns-in_err-library_body-clause-passes c between =
    let e = err_from_is_err_and c.from_residual-in_err-library_body.result c.from_residual-in_err-library_body.ensures.1 in
    rw (e.1, e.2) (let old = c.args.walk.now in
    let first = c.enter_unit.new.walk in
    let entered = is_entered old first c.args.seen c.new.result c.new.ensures between c.in_ok-enter_unit.ensures in
    let sound = sound_entered old first c.args.seen [] entered between.known in
    entered_stays old first c.library_body.new.walk c.args.seen [] c.in_err-library_body.field-0.0 entered (c.in_err-library_body.ensures.goes sound))

pub returns-clause-comes : goal.returns-clause-comes
returns-clause-comes c = record {
  comes = λ between k world before begins.
      let p = c.args.place in
      let old = c.args.walk.now in
      let first = c.enter_unit.new.walk in
      let second = c.library_body.new.walk in
      let entered = is_entered old first c.args.seen c.new.result c.new.ensures between c.in_ok-enter_unit.ensures in
      let sound = sound_entered old first c.args.seen [] entered between.known in
      let b_second : Begins second k = record { symbols = c.leave_unit.ensures.left.begins k begins.symbols; spans = begins.spans } in
      inside_comes p.step p.library.now c.args.instances.now p.unit p.unit_name.now c.context.result c.inside-context.result c.context.ensures
      c.inside-context.ensures old first c.args.seen entered k world before second c.args.body.now tt c.leave_unit.new.symbols
      (c.in_ok-library_body.ensures.goes sound) b_second c.in_ok-library_body.ensures.comes;
}

pub returns-clause-passes : goal.returns-clause-passes
returns-clause-passes c between =
    let old = c.args.walk.now in
    let first = c.enter_unit.new.walk in
    let second = c.library_body.new.walk in
    let entered = is_entered old first c.args.seen c.new.result c.new.ensures between c.in_ok-enter_unit.ensures in
    let sound = sound_entered old first c.args.seen [] entered between.known in
    body_left old first second c.leave_unit.new.symbols c.args.seen [] entered (c.in_ok-library_body.ensures.goes sound) c.leave_unit.ensures.left second.found
