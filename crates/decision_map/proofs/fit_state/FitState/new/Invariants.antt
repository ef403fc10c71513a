-- So many words are there, and none shows an edge.
use Rattle.std.proofs.Common.{◌≡◌, ℕ, length}
use Rattle.std.specs.Prelude.{slice_index_or}
use Rattle.decision_map.specs.Seen.{unshown}
use Rattle.decision_map.proofs.fit_state.FitState.new.Given as goal

abbrev pub invariant-loop : goal.invariant-loop
invariant-loop l = (length l.shown.items ≡ l.counter) × ((i : ℕ) → slice_index_or l.shown.items i unshown ≡ unshown)
