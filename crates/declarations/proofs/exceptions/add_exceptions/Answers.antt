use Rattle.std.proofs.Common.{refl, ◌∙◌}
use Rattle.program_walk.specs.States.{state_of}
use Rattle.program_walk.specs.Going.{region_in}
use Rattle.program_walk.proofs.GoingLaws.{goes_nowhere, then_goes}
use Rattle.program_walk.proofs.ObjectLaws.{turn_exception, all_exceptions}
use Rattle.declarations.proofs.exceptions.add_exceptions.Goals as goal

pub loop-name-init : goal.loop-name-init
loop-name-init c = record {
  rest = λ k env is. refl;
  inside = goes_nowhere c.args.walk.now;
}

pub loop-name-preserved : goal.loop-name-preserved
loop-name-preserved c =
    let old = c.loop-name.walk in
    let new = c.add_exception.new.walk in
    record {
      rest = λ k env is.
          let a = c.in_ok-add_exception.ensures.added k env is in
          c.loop-name.invariant.rest k env is
          ∙ turn_exception c.args.names.now c.loop-name.name-index _ c.loop-name-test.true c.name-item.is env (state_of k old) (state_of k new)
          (region_in k old) (region_in k new) a.state a.region;
      inside = λ h. then_goes _ _ _ (c.loop-name.invariant.inside h) c.in_ok-add_exception.ensures.inside;
    }

pub returns-clause-added : goal.returns-clause-added
returns-clause-added c k env is =
    let w = c.loop-name.walk in
    c.loop-name.invariant.rest k env is
    ∙ all_exceptions c.args.names.now c.loop-name.name-index c.loop-name-test.false env (state_of k w) (region_in k w)

pub returns-clause-inside : goal.returns-clause-inside
returns-clause-inside c = c.loop-name.invariant.inside
