use Rattle.std.proofs.Common.{◌∙◌, arith}
use Rattle.std.proofs.lemmas.Result.{err_from_is_err_and}
use Rattle.commands.proofs.StopLaws.{stops_among, one_more_added}
use Rattle.std.proofs.lemmas.Grind.{common_steps}
use Rattle.commands.proofs.ready.traces.add_traces.Goals as goal

pub returns-in_err-add_file-clause-stopped : goal.returns-in_err-add_file-clause-stopped
returns-in_err-add_file-clause-stopped g c =
    let p = err_from_is_err_and c.from_residual.result c.from_residual.ensures.1 in
    rw (p.1, p.2) (stops_among (λ name. name.now) c.args.decisions.now c.args.names.now c.loop-place.place _ _ _ _ _ _ _ _ _
    c.loop-place-test.true c.loop-place.invariant.held c.loop-place.invariant.reads c.loop-place.invariant.added c.in_err-add_file.ensures.stopped)

pub loop-place-preserved : goal.loop-place-preserved
loop-place-preserved g c = record {
  within = omega (arith, c.loop-place-test.true);
  object = c.in_ok-add_file.ensures.object ∙ c.loop-place.invariant.object;
  held = c.in_ok-add_file.ensures.same ∙ c.loop-place.invariant.held;
  reads = c.in_ok-add_file.ensures.reads ∙ c.loop-place.invariant.reads;
  writes = c.in_ok-add_file.ensures.writes ∙ c.loop-place.invariant.writes;
  added = one_more_added (λ name. name.now) c.args.decisions.now c.args.names.now c.loop-place.place _ _ _ _ _ _
      c.loop-place-test.true c.loop-place.invariant.held c.loop-place.invariant.added c.in_ok-add_file.ensures.added;
}

pub returns-clause-added : goal.returns-clause-added
returns-clause-added g c = grind (arith, common_steps)
