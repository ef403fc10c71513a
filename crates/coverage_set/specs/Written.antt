-- Which file a coverage is written as.
use Rattle.std.specs.Prelude.{◌≡◌, ◌↔◌, ℕ, List, [], ◌∷◌, ◌++◌, option_to_list, Option, Some, None}
use Rattle.cov_base.specs.declared.event.Event.{Event}
use Rattle.cov_base.specs.declared.event.Event.TheVariants.{Start, Done}
use Rattle.cov_base.specs.Lists.{Somewhere}
use Rattle.trace_format.specs.declared.consolidated.StartEntry.{StartEntry}
use Rattle.trace_format.specs.declared.consolidated.VectorEntry.{VectorEntry}
use Rattle.trace_format.specs.Consolidated.{ConsolidatedFile, consolidated_in}
use Rattle.trace_format.specs.ConsolidatedChecks.{IsSealed}
use Rattle.trace_format.specs.ConsolidatedFormats.{consolidated_spelling}
use Rattle.coverage_set.specs.Consolidated.{start_of, done_of}
use Rattle.coverage_set.specs.Covered.{Covered, HasRun, Has}

-- the entry that an event is, among starts and among evaluations
abbrev pub start_in : Event → Option StartEntry
start_in (Start s i) = Some (record { statement = s; instance = i })
start_in (Done d i v) = None

abbrev pub vector_in : Event → Option VectorEntry
vector_in (Start s i) = None
vector_in (Done d i v) = Some (record { decision = d; instance = i; vector = v })

-- the entries that events are, in their order
abbrev pub starts_among : List Event → List StartEntry
starts_among [] = []
starts_among (e ∷ es) = option_to_list (start_in e) ++ starts_among es

abbrev pub vectors_among : List Event → List VectorEntry
vectors_among [] = []
vectors_among (e ∷ es) = option_to_list (vector_in e) ++ vectors_among es

-- the one consolidated file of what a coverage stands for: the object's digest, the runs, the starts and the evaluations that it has. Since
-- the lists of a file that passes its checks strictly rise, no other bytes are one
pub record IsFileOf (c : Covered) (bytes : List ℕ) : Type 0 where
  pub file : ConsolidatedFile
  pub sealed : IsSealed file
  pub spelled : bytes ≡ consolidated_spelling (consolidated_in file)
  pub object : file.object ≡ c.object.closing
  pub runs : (digest : List ℕ) → Somewhere (λ d. d ≡ digest) file.runs ↔ HasRun c digest
  pub starts : (s : StartEntry) → Somewhere (λ x. x ≡ s) file.starts ↔ Has c (start_of s)
  pub vectors : (v : VectorEntry) → Somewhere (λ x. x ≡ v) file.vectors ↔ Has c (done_of v)
