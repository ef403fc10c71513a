use Rattle.std.proofs.Common.{◌≡◌, ◌++◌, ◌-◌, ◌≤◌, ◌<◌, ◌^◌}
use Rattle.workload.specs.Source.{branches, head_text}
use Rattle.workload.proofs.source.source_of.Given as goal

-- the branches so far, and those that are left
abbrev pub invariant-loop : goal.invariant-loop
invariant-loop l = record {
  within : l.counter ≤ l.fn.n;
  small : l.number < 2 ^ 32;
  rest : l.text.items ++ branches (l.fn.n - l.counter) l.number ≡ head_text ++ branches l.fn.n l.fn.n;
}
