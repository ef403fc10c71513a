use Rattle.std.proofs.Common.{◌∙◌, arith}
use Rattle.std.proofs.lemmas.Result.{err_from_is_err_and}
use Rattle.workload_runs.specs.Runs.{HasEnded}
use Rattle.workload_runs.proofs.Added.{all_added, more_added, one_more, stops_at}
use Rattle.workload_runs.proofs.adding.add_runs.Goals as goal

pub returns-in_err-add_run-clause-stopped : goal.returns-in_err-add_run-clause-stopped
returns-in_err-add_run-clause-stopped c =
    let p = err_from_is_err_and c.from_residual.result c.from_residual.ensures.1 in
    rw (p.1, p.2) (stops_at c.args.object.now c.args.inputs.now c.loop-place.place _ _ c.loop-place-test.true c.in_err-add_run.ensures.stopped)

pub loop-place-preserved : goal.loop-place-preserved
loop-place-preserved c = record {
  within = omega (arith, c.loop-place-test.true);
  own = c.in_ok-add_run.ensures.own ∙ c.loop-place.invariant.own;
  ended = one_more (HasEnded c.args.object.now) c.args.inputs.now c.loop-place.place _ c.loop-place-test.true c.loop-place.invariant.ended
      c.in_ok-add_run.ensures.ended;
  added = more_added c.args.object.now c.args.inputs.now c.loop-place.place _ c.args.coverage.now c.loop-place.coverage c.add_run.new.coverage
      c.loop-place-test.true c.loop-place.invariant.added
      c.in_ok-add_run.ensures.added;
}

pub returns-clause-added : goal.returns-clause-added
returns-clause-added c =
    all_added c.args.object.now c.args.inputs.now c.loop-place.place c.args.coverage.now c.loop-place.coverage c.loop-place-test.false
    c.loop-place.invariant.added
