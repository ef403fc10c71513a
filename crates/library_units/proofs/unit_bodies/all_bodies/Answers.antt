use Rattle.std.proofs.Common.{◌≡◌, Ok, refl, subst, arith}
use Rattle.std.proofs.lemmas.Result.{err_from_is_err_and}
use Rattle.ada_rules.specs.Units.{all_bodies_judged}
use Rattle.ada_entities.specs.Answers.{Refuses}
use Rattle.ada_phrases.specs.Scopes.{step_of}
use Rattle.program_walk.specs.States.{state_of}
use Rattle.program_walk.proofs.GoingLaws.{refused_behind}
use Rattle.library_units.proofs.UnitBodyLaws.{goes_nowhere, then_bodies, then_stays, still_idle, stands_still, all_passed, turn_refused, turn_passes}
use Rattle.library_units.proofs.unit_bodies.all_bodies.Goals as goal

pub loop-index-init : goal.loop-index-init
loop-index-init c = record {
  rest = λ all l idle same k world before b. refl;
  goes = λ all l idle same. goes_nowhere c.args.walk.now idle.closed;
}

pub returns-clause-comes : goal.returns-clause-comes
returns-clause-comes c all l idle same k world before begins =
    let step = step_of c.args.step in
    let us = c.args.units.now in
    let w = c.loop-index.walk in
    let s = state_of k c.args.walk.now in
    record {
      comes = subst (λ ys. (all_bodies_judged step l world s 0 ys).answer ≡ Ok (state_of k w)) same
          (all_passed step l world s (state_of k w) us c.loop-index.index (c.loop-index.invariant.rest all l idle same k world before begins)
          (omega (arith, c.loop-index-test.false)));
    }

pub returns-clause-passes : goal.returns-clause-passes
returns-clause-passes c all l idle same = c.loop-index.invariant.goes all l idle same

pub returns-in_err-unit_body-clause-comes : goal.returns-in_err-unit_body-clause-comes
returns-in_err-unit_body-clause-comes c all l idle same k world before begins =
    let e = err_from_is_err_and c.from_residual-in_err-unit_body.result c.from_residual-in_err-unit_body.ensures.1 in
    rw (e.1, e.2) (let step = step_of c.args.step in
    let x = c.args.library.now in
    let us = c.args.units.now in
    let i = c.loop-index.index in
    let u = c.index-units-index.result in
    let old = c.args.walk.now in
    let middle = c.loop-index.walk in
    let f = c.in_err-unit_body.field-0.0 in
    let goes = c.loop-index.invariant.goes all l idle same in
    let now = still_idle x all l old middle idle goes in
    refused_behind middle c.unit_body.new.walk k f _ (c.in_err-unit_body.ensures.passes all l now same) begins (λ b.
    let there = stands_still x c.args.instances.now old middle k world goes before b in
    subst (λ ys. Refuses (all_bodies_judged step l world (state_of k old) 0 ys).answer f) same
    (turn_refused step l world (state_of k old) (state_of k middle) us i (c.loop-index.invariant.rest all l idle same k world before b) u (omega arith)
    c.index-units-index.is c.in_ok-number.number c.in_ok-number.ensures.number f (c.in_err-unit_body.ensures.comes all l now same k world there begins))))

pub returns-in_err-unit_body-clause-passes : goal.returns-in_err-unit_body-clause-passes
returns-in_err-unit_body-clause-passes c all l idle same =
    let e = err_from_is_err_and c.from_residual-in_err-unit_body.result c.from_residual-in_err-unit_body.ensures.1 in
    rw (e.1, e.2) (let goes = c.loop-index.invariant.goes all l idle same in
    let now = still_idle c.args.library.now all l c.args.walk.now c.loop-index.walk idle goes in
    then_stays c.args.walk.now c.loop-index.walk c.unit_body.new.walk c.in_err-unit_body.field-0.0 goes
    (c.in_err-unit_body.ensures.passes all l now same))

pub loop-index-preserved : goal.loop-index-preserved
loop-index-preserved c = record {
  rest = λ all l idle same k world before b.
      let step = step_of c.args.step in
      let x = c.args.library.now in
      let us = c.args.units.now in
      let i = c.loop-index.index in
      let u = c.index-units-index.result in
      let old = c.args.walk.now in
      let middle = c.loop-index.walk in
      let new = c.unit_body.new.walk in
      let goes = c.loop-index.invariant.goes all l idle same in
      let now = still_idle x all l old middle idle goes in
      let passes = c.in_ok-unit_body.ensures.passes all l now same in
      let m = passes.continues k b in
      let there = stands_still x c.args.instances.now old middle k world goes before m in
      let walked = c.in_ok-unit_body.ensures.comes all l now same k world there b in
      turn_passes step l world (state_of k old) (state_of k middle) us i (c.loop-index.invariant.rest all l idle same k world before m) u (omega arith)
      c.index-units-index.is c.in_ok-number.number c.in_ok-number.ensures.number (state_of k new) walked.comes;
  goes = λ all l idle same.
      let goes = c.loop-index.invariant.goes all l idle same in
      let now = still_idle c.args.library.now all l c.args.walk.now c.loop-index.walk idle goes in
      then_bodies c.args.walk.now c.loop-index.walk c.unit_body.new.walk goes (c.in_ok-unit_body.ensures.passes all l now same);
}
