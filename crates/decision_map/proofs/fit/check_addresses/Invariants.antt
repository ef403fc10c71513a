use Rattle.std.proofs.Common.{◌≡◌, not, drop}
use Rattle.std.specs.List.{position_from}
use Rattle.trace_format.specs.declared.trace.HistoryEntry.{HistoryEntry}
use Rattle.decision_map.specs.Kinds.{keeps_history, kind_in}
use Rattle.decision_map.proofs.fit.check_addresses.Given as goal

-- the entries so far are of branches whose executions are kept
abbrev pub invariant-loop-at : goal.invariant-loop-at
invariant-loop-at l =
    position_from (λ (h : HistoryEntry). not (keeps_history (kind_in l.kinds h.address))) l.at (drop l.at l.view.history)
    ≡ position_from (λ (h : HistoryEntry). not (keeps_history (kind_in l.kinds h.address))) 0 l.view.history
