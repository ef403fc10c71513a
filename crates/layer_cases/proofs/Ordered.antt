-- The lists of a consolidated file that was read can be written again.
use Rattle.std.proofs.Common.{◌≡◌, ℕ, List, None, sym, subst}
use Rattle.spelling.specs.Checks.{first_failing}
use Rattle.trace_format.specs.Consolidated.{ConsolidatedFile}
use Rattle.trace_format.specs.ConsolidatedChecks.{IsOrdered, IsSealed, run_rises, start_rises, vector_rises, is_true_where_seen}
use Rattle.trace_format.specs.declared.consolidated.StartEntry.{StartEntry}
use Rattle.trace_format.specs.declared.consolidated.VectorEntry.{VectorEntry}

pub ordered_again : (c : ConsolidatedFile) (object : List ℕ) (runs : List (List ℕ)) (starts : List StartEntry) (vectors : List VectorEntry)
    → IsSealed c → runs ≡ c.runs → starts ≡ c.starts → vectors ≡ c.vectors
    → IsOrdered (record { object = object; runs = runs; starts = starts; vectors = vectors })
ordered_again c object runs starts vectors sealed same_runs same_starts same_vectors = record {
  runs = subst (λ xs. first_failing run_rises None 0 xs ≡ None) (sym same_runs) sealed.ordered.runs;
  starts = subst (λ xs. first_failing start_rises None 0 xs ≡ None) (sym same_starts) sealed.ordered.starts;
  vectors = subst (λ xs. first_failing vector_rises None 0 xs ≡ None) (sym same_vectors) sealed.ordered.vectors;
  flags = subst (λ xs. first_failing is_true_where_seen None 0 xs ≡ None) (sym same_vectors) sealed.ordered.flags;
}
