use Rattle.std.proofs.Common.{◌≡◌, drop, None}
use Rattle.cov_base.specs.Expr.{Expr}
use Rattle.cov_base.specs.Graph.{graph}
use Rattle.cov_base.specs.Lists.{Everywhere}
use Rattle.decision_meaning.specs.Pair.{is_unique_cause}
use Rattle.cov_base.specs.Path.{IsPathVector}
use Rattle.mcdc_verdicts.specs.Search.{IsWord, best_of}
use Rattle.mcdc_verdicts.specs.View.{pair_view}
use Rattle.mcdc_verdicts.proofs.cause.least_cause.Given as goal

-- the vectors that are left make of the best pair so far what all of them make of none
abbrev pub invariant-loop-v : goal.invariant-loop-v
invariant-loop-v l =
    Everywhere (IsPathVector l.dec) (drop l.v-index l.vectors)
    × ((e : Expr) → l.dec ≡ graph e →
    best_of (is_unique_cause e l.c.0) (drop l.v-index l.vectors) l.vectors (pair_view l.best)
    ≡ best_of (is_unique_cause e l.fn.c.0) l.fn.vectors l.fn.vectors None)
    × (Everywhere IsWord (drop l.v-index l.vectors) → Everywhere IsWord l.fn.vectors)
