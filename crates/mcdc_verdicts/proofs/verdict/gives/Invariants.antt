use Rattle.std.proofs.Common.{◌≡◌, ◌↔◌, drop}
use Rattle.cov_base.specs.Expr.{Expr}
use Rattle.cov_base.specs.Graph.{graph}
use Rattle.decision_meaning.specs.Verdict.{Gives}
use Rattle.mcdc_verdicts.proofs.verdict.gives.Given as goal

-- the outcome is given by one that is left exactly where it is by one of all
abbrev pub invariant-loop-v : goal.invariant-loop-v
invariant-loop-v l = (e : Expr) → l.dec ≡ graph e → Gives e (drop l.v-index l.vectors) l.given ↔ Gives e l.fn.vectors l.fn.given
