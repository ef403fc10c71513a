use Rattle.std.proofs.Common.{◌≡◌, ◌≤◌, ◌++◌, length, drop, take}
use Rattle.cov_base.specs.Expr.{Expr, size}
use Rattle.cov_base.specs.Graph.{graph}
use Rattle.json_report.specs.Distinct.{added}
use Rattle.json_report.proofs.vectors.first_place.Given as goal

-- all vectors so far come before it
abbrev pub invariant-loop-at : goal.invariant-loop-at
invariant-loop-at l = record {
  within : l.at ≤ length l.kept;
  behind : (e : Expr) → l.dec ≡ graph e → added (size e) l.vector l.kept ≡ take l.at l.kept ++ added (size e) l.vector (drop l.at l.kept);
}
