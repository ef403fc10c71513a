use Rattle.std.proofs.Common.{◌≡◌, ◌≤◌, ◌-◌, ◌++◌}
use Rattle.cov_base.specs.Marks.{marks}
use Rattle.annotated_report.specs.Shown.{vector_from, vector_text}
use Rattle.annotated_report.proofs.shown.put_vector.Given as goal

-- the letters so far, and those that are left
abbrev pub invariant-loop-condition : goal.invariant-loop-condition
invariant-loop-condition l = record {
  within : l.condition ≤ l.conditions;
  letters : l.text.items ++ vector_from l.condition (l.conditions - l.condition) (marks l.v) ≡ l.fn.text.items ++ vector_text l.conditions l.v;
}
