-- What a consolidated file says.
use Rattle.std.specs.Prelude.{ℕ, List}
use Rattle.std.specs.Ordering.{nat_cmp, ordering_then}
use Rattle.std.specs.declared.cmp.Ordering.{Ordering}
use Rattle.trace_format.specs.declared.consolidated.StartEntry.{StartEntry}
use Rattle.trace_format.specs.declared.consolidated.VectorEntry.{VectorEntry}

-- the closing digests of the object and of the traces of its runs, the statements that started, and the evaluations that were completed
pub record Consolidated : Type 0 where
  pub object : List ℕ
  pub runs : List (List ℕ)
  pub starts : List StartEntry
  pub vectors : List VectorEntry

-- the same, with the digest that closes its file
pub record ConsolidatedFile : Type 0 where
  pub object : List ℕ
  pub runs : List (List ℕ)
  pub starts : List StartEntry
  pub vectors : List VectorEntry
  pub closing : List ℕ

-- the file without that digest
abbrev pub consolidated_in : ConsolidatedFile → Consolidated
consolidated_in c = record { object = c.object; runs = c.runs; starts = c.starts; vectors = c.vectors }

-- what a file says, and the digest that closes it
abbrev pub sealed_by : Consolidated → List ℕ → ConsolidatedFile
sealed_by c closing = record { object = c.object; runs = c.runs; starts = c.starts; vectors = c.vectors; closing = closing }

-- the order of starts: by statement and instance
abbrev pub start_cmp : StartEntry → StartEntry → Ordering
start_cmp a b = ordering_then (nat_cmp a.statement.0 b.statement.0) (nat_cmp a.instance.0 b.instance.0)

-- the order of evaluations: by decision, instance, and the numbers of the vector
abbrev pub vector_cmp : VectorEntry → VectorEntry → Ordering
vector_cmp a b =
    ordering_then (nat_cmp a.decision.0 b.decision.0) (ordering_then (nat_cmp a.instance.0 b.instance.0)
    (ordering_then (nat_cmp a.vector.seen b.vector.seen) (nat_cmp a.vector.value b.vector.value)))
