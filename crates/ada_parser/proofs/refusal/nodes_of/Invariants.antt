use Rattle.std.proofs.Common.{◌≡◌, ◌+◌, drop, sum_by}
use Rattle.ada_syntax.specs.Nodes.{capped, unit_nodes}
use Rattle.ada_parser.proofs.refusal.nodes_of.Given as goal

-- what was counted, and what is left
abbrev pub invariant-loop-unit : goal.invariant-loop-unit
invariant-loop-unit l = (capped l.nodes ≡ l.nodes) × (capped (l.nodes + sum_by unit_nodes (drop l.unit-index l.units)) ≡ capped (sum_by unit_nodes l.units))
