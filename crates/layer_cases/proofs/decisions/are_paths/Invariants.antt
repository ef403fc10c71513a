use Rattle.std.proofs.Common.{drop}
use Rattle.cov_base.specs.Lists.{Everywhere}
use Rattle.cov_base.specs.Path.{IsPathVector}
use Rattle.layer_cases.proofs.decisions.are_paths.Given as goal

-- if the vectors that are left are of paths, all are
abbrev pub invariant-loop-v : goal.invariant-loop-v
invariant-loop-v l = Everywhere (IsPathVector l.graph) (drop l.v-index l.vectors) → Everywhere (IsPathVector l.fn.graph) l.fn.vectors
