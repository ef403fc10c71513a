use Rattle.rv_machine.specs.Objects.{object_run}
use Rattle.coverage_set.proofs.OwnTraces.{own_ending, own_fits, own_follows}
use Rattle.coverage_set.proofs.laws.own_traces_pass_all_checks.Goals as goal

pub returns : goal.returns
returns c = record {
  ending = own_ending;
  fits = own_fits;
  follows = λ o budget input ending closing disciplined. own_follows o (object_run o budget input).entries ending closing disciplined;
}
