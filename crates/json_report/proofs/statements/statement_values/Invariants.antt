use Rattle.std.proofs.Common.{◌≡◌, ◌≤◌, ◌++◌, ◌∷◌, [], length, drop, map}
use Rattle.serde_json.specs.View.{view}
use Rattle.annotated_report.specs.Marked.{marked}
use Rattle.annotated_report.specs.Numbered.{each_numbered}
use Rattle.json_report.specs.Objects.{statement_object, statement_objects}
use Rattle.json_report.proofs.statements.statement_values.Given as goal

-- the objects so far, and those of the statements that are left
abbrev pub invariant-loop-n : goal.invariant-loop-n
invariant-loop-n l = record {
  within : l.n ≤ length l.entries;
  rest : map view l.values.items ++ each_numbered (λ n entry. statement_object (marked l.started n) entry ∷ []) l.n (drop l.n l.entries)
      ≡ statement_objects (marked l.started) l.entries;
}
