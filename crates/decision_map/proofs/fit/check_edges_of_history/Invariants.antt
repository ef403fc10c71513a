use Rattle.std.proofs.Common.{◌≡◌, not, drop}
use Rattle.std.specs.List.{list_any, position_from}
use Rattle.trace_format.specs.declared.trace.HistoryEntry.{HistoryEntry}
use Rattle.decision_map.specs.Blocks.{shows_entry}
use Rattle.decision_map.proofs.fit.check_edges_of_history.Given as goal

-- blocks show the edges of the entries so far
abbrev pub invariant-loop-at : goal.invariant-loop-at
invariant-loop-at l =
    position_from (λ (h : HistoryEntry). not (list_any (shows_entry h) l.view.blocks)) l.at (drop l.at l.view.history)
    ≡ position_from (λ (h : HistoryEntry). not (list_any (shows_entry h) l.view.blocks)) 0 l.view.history
