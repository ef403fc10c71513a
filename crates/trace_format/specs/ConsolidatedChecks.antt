-- The checks of a consolidated file that need no object, in their order. Places of entries count from 0, each in its own list.
use Rattle.std.specs.Prelude.{◌≡◌, ℕ, Bool, true, List, Option, Some, None, Result, Ok, Err, bit_and, ◌==◌}
use Rattle.std.specs.Cmp.Lexicographic.{slice_cmp}
use Rattle.std.specs.Ordering.{nat_cmp, is_lt}
use Rattle.spelling.specs.Layers.{File, single}
use Rattle.spelling.specs.Checks.{first_failing}
use Rattle.spelling.specs.declared.fault.LayerFault.{LayerFault}
use Rattle.spelling.specs.declared.fault.LayerFault.TheVariants as layer_faults
use Rattle.trace_format.specs.declared.consolidated.StartEntry.{StartEntry}
use Rattle.trace_format.specs.declared.consolidated.VectorEntry.{VectorEntry}
use Rattle.trace_format.specs.declared.consolidated.fault.ConsFault.{ConsFault}
use Rattle.trace_format.specs.declared.consolidated.fault.ConsFault.TheVariants as faults
use Rattle.trace_format.specs.Consolidated.{Consolidated, ConsolidatedFile, consolidated_in, sealed_by, start_cmp, vector_cmp}
use Rattle.trace_format.specs.ConsolidatedFormats.{consolidated_magic, consolidated_parts, consolidated_digest}

-- ---- what each check asks of an entry, behind the one before it

-- order: the digests of runs strictly rise, byte by byte
abbrev pub run_rises : Option (List ℕ) → List ℕ → Bool
run_rises None run = true
run_rises (Some before) run = is_lt (slice_cmp nat_cmp before run)

-- order: starts strictly rise
abbrev pub start_rises : Option StartEntry → StartEntry → Bool
start_rises None start = true
start_rises (Some before) start = is_lt (start_cmp before start)

-- order: evaluations strictly rise
abbrev pub vector_rises : Option VectorEntry → VectorEntry → Bool
vector_rises None entry = true
vector_rises (Some before) entry = is_lt (vector_cmp before entry)

-- flag: no condition is True that was not evaluated
abbrev pub is_true_where_seen : Option VectorEntry → VectorEntry → Bool
is_true_where_seen before entry = bit_and entry.vector.value entry.vector.seen == entry.vector.value

-- no entry fails the checks of order and flag
pub record IsOrdered (c : Consolidated) : Type 0 where
  pub runs : first_failing run_rises None 0 c.runs ≡ None
  pub starts : first_failing start_rises None 0 c.starts ≡ None
  pub vectors : first_failing vector_rises None 0 c.vectors ≡ None
  pub flags : first_failing is_true_where_seen None 0 c.vectors ≡ None

-- a file that passes the checks, each number within its bytes, with the digest of its own bytes
pub record IsSealed (c : ConsolidatedFile) : Type 0 where
  pub fits : consolidated_parts.Fits (consolidated_in c)
  pub ordered : IsOrdered (consolidated_in c)
  pub closing : c.closing ≡ consolidated_digest (consolidated_in c)

-- ---- the first check that fails

-- the checks go on with what was answered, and end at the first that fails
infixl 10 ◌>>=◌
abbrev pub ◌>>=◌ : {A B : Type 0} → Result A ConsFault → (A → Result B ConsFault) → Result B ConsFault
(Ok x) >>= f = f x
(Err fault) >>= f = Err fault

-- a fault of the layers under its name here
abbrev pub layer_fault : LayerFault → ConsFault
layer_fault layer_faults.Short = faults.Short
layer_fault layer_faults.Magic = faults.Magic
layer_fault layer_faults.Version = faults.Version
layer_fault layer_faults.Long = faults.Long
layer_fault layer_faults.Damaged = faults.Damaged

-- what stands in a file whose layers are right
abbrev pub file_of : Result (File Consolidated) LayerFault → Result ConsolidatedFile LayerFault
file_of (Ok f) = Ok (sealed_by f.content f.closing)
file_of (Err fault) = Err fault

-- what the layers hold, or their fault
abbrev pub as_fault : {A : Type 0} → Result A LayerFault → Result A ConsFault
as_fault (Ok x) = Ok x
as_fault (Err fault) = Err (layer_fault fault)

-- a fault at the place of an entry, where one was found
abbrev pub unless : Option ℕ → (ℕ → ConsFault) → Result (Unit {0}) ConsFault
unless None fault = Ok tt
unless (Some at) fault = Err (fault at)

-- a consolidated file whose layers are right: short, magic, version, short, long, damaged
abbrev pub layered : List ℕ → Result ConsolidatedFile LayerFault
layered bytes = file_of (single consolidated_magic 1 consolidated_parts bytes)

-- the check of order, list by list, then that of flags
abbrev pub ordered : ConsolidatedFile → Result ConsolidatedFile ConsFault
ordered c = do
  runs ← unless (first_failing run_rises None 0 c.runs) faults.Order
  starts ← unless (first_failing start_rises None 0 c.starts) faults.Order
  vectors ← unless (first_failing vector_rises None 0 c.vectors) faults.Order
  flags ← unless (first_failing is_true_where_seen None 0 c.vectors) faults.Flag
  Ok c

-- the consolidated file that bytes are, or the first check that fails
unfoldable pub consolidated_of : List ℕ → Result ConsolidatedFile ConsFault
consolidated_of bytes = as_fault (layered bytes) >>= ordered
