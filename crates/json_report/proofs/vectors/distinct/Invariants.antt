use Rattle.std.proofs.Common.{◌≡◌, ◌≤◌, length, drop}
use Rattle.cov_base.specs.Expr.{Expr, size}
use Rattle.cov_base.specs.Graph.{graph}
use Rattle.cov_base.specs.Lists.{Everywhere}
use Rattle.cov_base.specs.Path.{IsPathVector}
use Rattle.json_report.specs.Distinct.{Rises, all_added, distinct}
use Rattle.json_report.proofs.vectors.distinct.Given as goal

-- those so far, and the vectors that are left
abbrev pub invariant-loop-vector : goal.invariant-loop-vector
invariant-loop-vector l = record {
  within : l.vector-index ≤ length l.vectors;
  paths : Everywhere (IsPathVector l.dec) l.kept.items;
  rises : (e : Expr) → l.dec ≡ graph e → Rises (size e) l.kept.items;
  rest : (e : Expr) → l.dec ≡ graph e → all_added (size e) l.kept.items (drop l.vector-index l.vectors) ≡ distinct (size e) l.vectors;
}
