use Rattle.std.proofs.Common.{◌≡◌, ◌≤◌, ◌++◌, ◌∷◌, [], length, drop, map}
use Rattle.serde_json.specs.View.{view}
use Rattle.annotated_report.specs.Marked.{collected}
use Rattle.annotated_report.specs.Numbered.{each_numbered}
use Rattle.json_report.specs.Objects.{decision_object, decision_objects}
use Rattle.json_report.proofs.decisions.collected_values.Given as goal

-- the objects so far, and those of the decisions that are left
abbrev pub invariant-loop-d : goal.invariant-loop-d
invariant-loop-d l = record {
  within : l.d ≤ length l.entries;
  rest : map view l.values.items ++ each_numbered (λ d entry. decision_object l.level (collected l.evaluations d) entry ∷ []) l.d (drop l.d l.entries)
      ≡ decision_objects l.level (collected l.evaluations) l.entries;
}
