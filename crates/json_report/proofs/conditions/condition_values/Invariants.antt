use Rattle.std.proofs.Common.{◌≡◌, ◌≤◌, ◌++◌, ◌∷◌, [], length, drop, map}
use Rattle.cov_base.specs.Expr.{size}
use Rattle.serde_json.specs.View.{view}
use Rattle.annotated_report.specs.Findings.{expr_of}
use Rattle.annotated_report.specs.LeastPair.{shown_pair}
use Rattle.annotated_report.specs.Numbered.{each_numbered}
use Rattle.json_report.specs.Objects.{condition_object, condition_objects}
use Rattle.json_report.proofs.conditions.condition_values.Given as goal

-- the objects so far, and those of the conditions that are left
abbrev pub invariant-loop-c : goal.invariant-loop-c
invariant-loop-c l = record {
  within : l.c ≤ length l.entry.conditions;
  rest : map view l.values.items
      ++ each_numbered (λ c place. condition_object (size (expr_of l.entry)) place (shown_pair l.level (expr_of l.entry) l.vectors c) ∷ []) l.c (drop l.c l.entry.conditions)
      ≡ condition_objects l.level (expr_of l.entry) l.vectors l.entry.conditions;
}
