-- The checks of a trace file, in their order. Places of entries count from 0, each in its own list.
use Rattle.std.specs.Prelude.{◌≡◌, ℕ, ◌%◌, ◌≤◌, Bool, true, ◌&&◌, List, Option, Some, None, Result, Ok, Err, nat_lt, nat_le, ◌==◌}
use Rattle.spelling.specs.Layers.{File, single}
use Rattle.spelling.specs.Checks.{first_failing}
use Rattle.spelling.specs.declared.fault.LayerFault.{LayerFault}
use Rattle.spelling.specs.declared.fault.LayerFault.TheVariants as layer_faults
use Rattle.trace_format.specs.declared.trace.Block.{Block}
use Rattle.trace_format.specs.declared.trace.HistoryEntry.{HistoryEntry}
use Rattle.trace_format.specs.declared.trace.Trace.{Trace}
use Rattle.trace_format.specs.declared.fault.TraceFault.{TraceFault}
use Rattle.trace_format.specs.declared.fault.TraceFault.TheVariants as faults
use Rattle.trace_format.specs.Trace.{TraceFile, trace_in, closed_by}
use Rattle.trace_format.specs.Formats.{trace_magic, trace_parts, trace_digest}

-- ---- what each check asks of an entry, behind the one before it

-- the start is above that of the block before
abbrev pub starts_above : Option Block → ℕ → Bool
starts_above None start = true
starts_above (Some before) start = nat_lt before.start start

-- order: starts strictly rise, start and last are multiples of 4, and last is not below start
abbrev pub in_order : Option Block → Block → Bool
in_order before block = block.start % 4 == 0 && block.last % 4 == 0 && nat_le block.start block.last && starts_above before block.start

-- flag: flags are at most both edges
abbrev pub has_known_flags : Option Block → Block → Bool
has_known_flags before block = nat_le block.flags 3

-- flag: an edge is 0 or 1
abbrev pub has_known_edge : Option HistoryEntry → HistoryEntry → Bool
has_known_edge before entry = nat_le entry.edge 1

-- no entry fails the checks of order and flag
pub record Passes (t : Trace) : Type 0 where
  pub order : first_failing in_order None 0 t.blocks ≡ None
  pub flags : first_failing has_known_flags None 0 t.blocks ≡ None
  pub edges : first_failing has_known_edge None 0 t.history ≡ None

-- what passing says of a block alone
pub record IsWellPlaced (b : Block) : Type 0 where
  pub start_aligned : b.start % 4 ≡ 0
  pub last_aligned : b.last % 4 ≡ 0
  pub ends_after : b.start ≤ b.last
  pub flags_known : b.flags ≤ 3

-- a trace that passes the checks, each number within its bytes, with the digest of its own file
pub record IsClosed (t : TraceFile) : Type 0 where
  pub fits : trace_parts.Fits (trace_in t)
  pub passes : Passes (trace_in t)
  pub closing : t.closing ≡ trace_digest (trace_in t)

-- ---- the first check that fails

-- the checks go on with what was answered, and end at the first that fails
infixl 10 ◌>>=◌
abbrev pub ◌>>=◌ : {A B : Type 0} → Result A TraceFault → (A → Result B TraceFault) → Result B TraceFault
(Ok x) >>= f = f x
(Err fault) >>= f = Err fault

-- a fault of the layers under its name here
abbrev pub layer_fault : LayerFault → TraceFault
layer_fault layer_faults.Short = faults.Short
layer_fault layer_faults.Magic = faults.Magic
layer_fault layer_faults.Version = faults.Version
layer_fault layer_faults.Long = faults.Long
layer_fault layer_faults.Damaged = faults.Damaged

-- the trace in a file whose layers are right
abbrev pub file_of : Result (File Trace) LayerFault → Result TraceFile LayerFault
file_of (Ok f) = Ok (closed_by f.content f.closing)
file_of (Err fault) = Err fault

-- what the layers hold, or their fault
abbrev pub as_fault : {A : Type 0} → Result A LayerFault → Result A TraceFault
as_fault (Ok x) = Ok x
as_fault (Err fault) = Err (layer_fault fault)

-- a fault at the place of an entry, where one was found
abbrev pub unless : Option ℕ → (ℕ → TraceFault) → Result (Unit {0}) TraceFault
unless None fault = Ok tt
unless (Some at) fault = Err (fault at)

-- a trace file whose layers are right: short, magic, version, short, long, damaged
abbrev pub layered : List ℕ → Result TraceFile LayerFault
layered bytes = file_of (single trace_magic 1 trace_parts bytes)

-- the check of order, then all flags, then all edges
abbrev pub ordered : TraceFile → Result TraceFile TraceFault
ordered t = do
  order ← unless (first_failing in_order None 0 t.blocks) faults.Order
  flags ← unless (first_failing has_known_flags None 0 t.blocks) faults.Flag
  edges ← unless (first_failing has_known_edge None 0 t.history) faults.Flag
  Ok t

-- the trace file that bytes are, or the first check that fails
unfoldable pub trace_of : List ℕ → Result TraceFile TraceFault
trace_of bytes = as_fault (layered bytes) >>= ordered
