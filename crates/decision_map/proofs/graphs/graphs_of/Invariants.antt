use Rattle.std.proofs.Common.{◌≡◌, map, take}
use Rattle.decision_map.specs.Decisions.{graph_of_entry}
use Rattle.decision_map.proofs.graphs.graphs_of.Given as goal

abbrev pub invariant-loop-entry : goal.invariant-loop-entry
invariant-loop-entry l = l.graphs.items ≡ map graph_of_entry (take l.entry-index l.decisions)
