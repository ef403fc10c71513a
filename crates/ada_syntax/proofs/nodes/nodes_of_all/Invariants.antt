use Rattle.std.proofs.Common.{◌≡◌, ◌+◌, drop, sum_by}
use Rattle.ada_syntax.specs.Nodes.{capped}
use Rattle.ada_syntax.proofs.nodes.nodes_of_all.Given as goal

-- what was counted, and what is left
abbrev pub invariant-loop-part : goal.invariant-loop-part
invariant-loop-part g l = (capped l.nodes ≡ l.nodes) × (capped (l.nodes + sum_by g.T.Nodes.nodes (drop l.part-index l.parts)) ≡ capped (sum_by g.T.Nodes.nodes l.parts))
