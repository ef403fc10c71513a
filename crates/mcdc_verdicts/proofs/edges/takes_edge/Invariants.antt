use Rattle.std.proofs.Common.{◌≡◌, ◌↔◌, drop}
use Rattle.cov_base.specs.Expr.{Expr}
use Rattle.cov_base.specs.Graph.{graph}
use Rattle.decision_meaning.specs.Verdict.{PathTakesEdge}
use Rattle.mcdc_verdicts.proofs.edges.takes_edge.Given as goal

-- a path of those that are left takes the edge exactly where one of all does
abbrev pub invariant-loop-v : goal.invariant-loop-v
invariant-loop-v l = (e : Expr) → l.dec ≡ graph e →
    PathTakesEdge e (drop l.v-index l.vectors) l.node.0 l.value ↔ PathTakesEdge e l.fn.vectors l.fn.node.0 l.fn.value
