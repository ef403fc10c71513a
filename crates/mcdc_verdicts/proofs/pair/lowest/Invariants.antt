use Rattle.std.proofs.Common.{◌≡◌, drop, None}
use Rattle.cov_base.specs.Expr.{Expr}
use Rattle.cov_base.specs.Graph.{graph}
use Rattle.cov_base.specs.Lists.{Everywhere}
use Rattle.cov_base.specs.Path.{IsPathVector}
use Rattle.mcdc_verdicts.specs.Search.{IsWord, shows, lowest}
use Rattle.mcdc_verdicts.proofs.pair.lowest.Given as goal

-- the vectors that are left make of the least one so far what all of them make of none
abbrev pub invariant-loop-v : goal.invariant-loop-v
invariant-loop-v l =
    Everywhere (IsPathVector l.dec) (drop l.v-index l.vectors)
    × ((e : Expr) → l.dec ≡ graph e →
    lowest (shows e l.c.0 l.value) (drop l.v-index l.vectors) l.least
    ≡ lowest (shows e l.fn.c.0 l.fn.value) l.fn.vectors None)
    × (Everywhere IsWord (drop l.v-index l.vectors) → Everywhere IsWord l.fn.vectors)
