use Rattle.std.proofs.Common.{◌≡◌, drop}
use Rattle.cov_base.specs.Expr.{Expr}
use Rattle.cov_base.specs.Graph.{graph}
use Rattle.decision_meaning.specs.Pair.{is_unique_cause}
use Rattle.mcdc_verdicts.specs.Search.{best_with}
use Rattle.mcdc_verdicts.specs.View.{pair_view}
use Rattle.mcdc_verdicts.proofs.cause.best_of_row.Given as goal

-- the vectors that are left make of the best pair so far what all of them make of the one before
abbrev pub invariant-loop-w : goal.invariant-loop-w
invariant-loop-w l =
    (e : Expr) → l.dec ≡ graph e →
    best_with (is_unique_cause e l.c.0) l.v (drop l.w-index l.vectors) (pair_view l.best)
    ≡ best_with (is_unique_cause e l.fn.c.0) l.fn.v l.fn.vectors (pair_view l.fn.before)
