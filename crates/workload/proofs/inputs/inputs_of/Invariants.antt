use Rattle.std.proofs.Common.{◌≡◌, ◌++◌, ◌-◌, ◌≤◌}
use Rattle.workload.specs.Inputs.{inputs_of, triples_from}
use Rattle.workload.proofs.inputs.inputs_of.Given as goal

-- the inputs so far, and those that are left
abbrev pub invariant-loop-run : goal.invariant-loop-run
invariant-loop-run l = record {
  within : l.run ≤ 8;
  rest : l.runs.items ++ triples_from (8 - l.run) l.run ≡ inputs_of;
}
