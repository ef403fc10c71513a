use Rattle.std.proofs.Common.{◌≡◌, ◌<◌, ℕ, Bool}
use Rattle.cov_base.specs.Expr.{Expr}
use Rattle.cov_base.specs.Graph.{graph}
use Rattle.decision_meaning.specs.Verdict.{PathTakesEdge}
use Rattle.mcdc_verdicts.proofs.edges.all_edges.Given as goal

-- the edges of the nodes before `number` lie on paths of the vectors
abbrev pub invariant-loop-number : goal.invariant-loop-number
invariant-loop-number l = (e : Expr) → l.dec ≡ graph e → (k : ℕ) (value : Bool) → k < l.number → PathTakesEdge e l.vectors k value
