use Rattle.std.proofs.Common.{◌≡◌, ◌++◌, ◌∷◌, ◌-◌, ◌+◌, List, [], ap, ◌∙◌, arith}
use Rattle.workload.specs.declared.inputs.Triple.{Triple}
use Rattle.workload.specs.Inputs.{triple_of, triples_from}
use Rattle.workload.proofs.Steps.{triple_more}
use Rattle.workload.proofs.inputs.inputs_of.Goals as goal

pub loop-run-preserved : goal.loop-run-preserved
loop-run-preserved c =
    let grown : c.push.new.self.items ≡ c.loop-run.runs.items ++ (c.triple_of.result ∷ []) = c.in_ok-push.ensures.items in
    record {
      within = omega (arith, c.loop-run-test.true);
      rest = triple_more (8 - c.loop-run.run) (8 - (c.loop-run.run + 1)) c.loop-run.run c.loop-run.runs.items c.push.new.self.items _
          (omega (arith, c.loop-run-test.true)) (grown ∙ ap (λ (t : Triple). c.loop-run.runs.items ++ (t ∷ [])) c.triple_of.ensures) c.loop-run.invariant.rest;
    }
