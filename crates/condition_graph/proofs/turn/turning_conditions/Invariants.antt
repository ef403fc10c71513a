use Rattle.std.proofs.Common.{◌≡◌, ℕ, map, drop}
use Rattle.cov_base.specs.Marks.{bit, marks}
use Rattle.decision_meaning.specs.Turn.{open_from, can_turn_from}
use Rattle.condition_graph.specs.Target.{edges_of}
use Rattle.condition_graph.proofs.turn.turning_conditions.Given as goal

-- the nodes from `number` on have been looked at
abbrev pub invariant-loop-number : goal.invariant-loop-number
invariant-loop-number l = record {
  leading : (k : ℕ) → bit l.found.leading k ≡ open_from l.number (map edges_of (drop l.number l.nodes)) (marks l.v) l.given k;
  turning : (c : ℕ) → bit l.found.turning c ≡ can_turn_from l.number (map edges_of (drop l.number l.nodes)) (marks l.v) l.given c;
}
