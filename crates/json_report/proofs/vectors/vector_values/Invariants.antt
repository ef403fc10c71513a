use Rattle.std.proofs.Common.{◌≡◌, ◌≤◌, ◌++◌, length, drop, map}
use Rattle.serde_json.specs.Data.{string}
use Rattle.serde_json.specs.View.{view}
use Rattle.annotated_report.specs.Shown.{vector_text}
use Rattle.json_report.proofs.vectors.vector_values.Given as goal

-- the texts so far, and those of the vectors that are left
abbrev pub invariant-loop-vector : goal.invariant-loop-vector
invariant-loop-vector l = record {
  within : l.vector-index ≤ length l.vector-items;
  rest : map view l.values.items ++ map (λ v. string (vector_text (length l.dec) v)) (drop l.vector-index l.vector-items)
      ≡ map (λ v. string (vector_text (length l.dec) v)) l.vector-items;
}
