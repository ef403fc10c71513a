-- Where a reader stands in the bytes of a trace file, and what it gave of them.
use Rattle.std.specs.Prelude.{◌≡◌, ℕ, ◌+◌, ◌*◌, ◌^◌, ◌<◌, ◌≤◌, ◌⊎◌, List, [], ◌∷◌, ◌++◌, map, length, take, drop, Option, Some, None, Result, Ok, Err, string_bytes}
use Rattle.cov_base.specs.declared.failure.Failure.{Failure}
use Rattle.cov_base.specs.declared.failure.Failure.TheVariants.{Fault, WantOfMemory}
use Rattle.cov_io.specs.declared.files.FileFault.{FileFault}
use Rattle.cov_io.specs.declared.files.FileFault.TheVariants as file_faults
use Rattle.spelling.specs.declared.fault.LayerFault.{LayerFault}
use Rattle.trace_format.specs.declared.trace.Block.{Block}
use Rattle.trace_format.specs.declared.trace.HistoryEntry.{HistoryEntry}
use Rattle.trace_format.specs.declared.fault.TraceFault.{TraceFault}
use Rattle.trace_format.specs.declared.fault.TraceFault.TheVariants as faults
use Rattle.spelling.specs.declared.fault.LayerFault.TheVariants.{Short}
use Rattle.trace_format.specs.declared.stream.Stream.{Stream}
use Rattle.trace_format.specs.declared.entry.Entry.{Entry}
use Rattle.trace_format.specs.declared.entry.Entry.TheVariants as entries
use Rattle.trace_format.specs.declared.entry.ReaderFault.{ReaderFault}
use Rattle.trace_format.specs.declared.entry.ReaderFault.TheVariants as reader_faults
use Rattle.trace_format.specs.declared.reader.Stage.{Stage}
use Rattle.trace_format.specs.declared.reader.Stage.TheVariants as stages
use Rattle.trace_format.specs.declared.reader.TraceReader.{TraceReader}
use Rattle.trace_format.specs.Trace.{TraceFile}
use Rattle.trace_format.specs.Checks.{in_order, has_known_flags, has_known_edge, layer_fault, trace_of, unless, ◌>>=◌}
use Rattle.trace_format.specs.Places.{block_count, first_blocks, history_count, first_history, IsHead}
use Rattle.trace_format.specs.Stream.{StandsAt}
use Rattle.trace_format.specs.Watch.{Watched}

-- ---- a trace as entries

abbrev pub block_given : Block → Entry
block_given b = entries.Block b.start b.last b.flags

abbrev pub history_given : HistoryEntry → Entry
history_given h = entries.History h.address h.x8 h.edge

-- the head, the blocks and the history
abbrev pub entries_to : List ℕ → ℕ → List Block → List HistoryEntry → List Entry
entries_to object ending blocks history = entries.Head object ending ∷ (map block_given blocks ++ map history_given history)

-- the whole of a trace file
abbrev pub entries_of : TraceFile → List Entry
entries_of t = entries_to t.object t.ending t.blocks t.history ++ entries.Close t.closing ∷ []

-- ---- why a reader fails

-- a read that failed, or memory that was refused
abbrev pub read_failure : FileFault → Failure ReaderFault
read_failure file_faults.Failed = Fault reader_faults.Read
read_failure file_faults.NoMemory = WantOfMemory

-- a fault of the file's format
abbrev pub format_failure : LayerFault → Failure ReaderFault
format_failure fault = Fault (reader_faults.Trace (layer_fault fault))

-- a fault of the format is the first check that the bytes fail
abbrev pub IsCause : List ℕ → Failure ReaderFault → Type 0
IsCause bytes (Fault reader_faults.Read) = Unit {0}
IsCause bytes (Fault (reader_faults.Trace fault)) = trace_of bytes ≡ Err fault
IsCause bytes WantOfMemory = Unit {0}

-- ---- where a reader stands

-- the name of the file that it reads
abbrev pub file_name : TraceReader → List ℕ
file_name r = string_bytes r.stream.name

-- the checks of the blocks were made of these
pub record SawBlocks (r : TraceReader) (blocks : List Block) : Type 0 where
  pub order : Watched in_order r.order.before r.order.at r.order.failing blocks
  pub flags : Watched has_known_flags r.flags.before r.flags.at r.flags.failing blocks

-- in front of its blocks
pub record InHead (r : TraceReader) (bytes : List ℕ) (given : List Entry) : Type 0 where
  pub head : IsHead bytes r.head
  pub few : block_count bytes < 2 ^ 32
  pub stands : StandsAt r.stream bytes 48
  pub blocks : SawBlocks r []
  pub edges : Watched has_known_edge r.edges.before r.edges.at r.edges.failing []
  pub gave : given ≡ []

-- among its blocks, of which so many are left
pub record InBlocks (r : TraceReader) (bytes : List ℕ) (given : List Entry) (left : ℕ) : Type 0 where
  pub passed : ℕ
  pub count : passed + left ≡ block_count bytes
  pub few : block_count bytes < 2 ^ 32
  pub head : IsHead bytes r.head
  pub stands : StandsAt r.stream bytes (48 + 9 * passed)
  pub blocks : SawBlocks r (first_blocks bytes passed)
  pub edges : Watched has_known_edge r.edges.before r.edges.at r.edges.failing []
  pub gave : given ≡ entries_to r.head.object r.head.ending (first_blocks bytes passed) []

-- in its history, of which so many entries are left
pub record InHistory (r : TraceReader) (bytes : List ℕ) (given : List Entry) (left : ℕ) : Type 0 where
  pub passed : ℕ
  pub count : passed + left ≡ history_count bytes
  pub few : block_count bytes < 2 ^ 32
  pub short : history_count bytes < 2 ^ 32
  pub head : IsHead bytes r.head
  pub stands : StandsAt r.stream bytes (52 + 9 * block_count bytes + 9 * passed)
  pub blocks : SawBlocks r (first_blocks bytes (block_count bytes))
  pub edges : Watched has_known_edge r.edges.before r.edges.at r.edges.failing (first_history bytes passed)
  pub gave : given ≡ entries_to r.head.object r.head.ending (first_blocks bytes (block_count bytes)) (first_history bytes passed)

-- all was given, and passed
pub record IsRead (bytes : List ℕ) (given : List Entry) : Type 0 where
  pub file : TraceFile
  pub passed : trace_of bytes ≡ Ok file
  pub gave : given ≡ entries_of file

-- where the reader of a stage stands
abbrev pub ReadsIn : Stage → TraceReader → List ℕ → List Entry → Type 0
ReadsIn stages.Head r bytes given = InHead r bytes given
ReadsIn (stages.Blocks left) r bytes given = InBlocks r bytes given left
ReadsIn (stages.History left) r bytes given = InHistory r bytes given left
ReadsIn stages.Closed r bytes given = IsRead bytes given
ReadsIn (stages.Failed failure) r bytes given = IsCause bytes failure

-- the reader stands in these bytes, and gave these entries of them
abbrev pub Reads : TraceReader → List ℕ → List Entry → Type 0
Reads r bytes given = ReadsIn r.stage r bytes given

-- what a call answers, of a reader that had given these entries
abbrev pub Answers : Result (Option Entry) (Failure ReaderFault) → TraceReader → List ℕ → List Entry → Type 0
Answers (Ok (Some entry)) r bytes given = Reads r bytes (given ++ entry ∷ [])
Answers (Ok None) r bytes given = IsRead bytes given × Reads r bytes given
Answers (Err failure) r bytes given = IsCause bytes failure

-- what stands behind the last entry, or the last entry
abbrev pub IsEnd : Option Entry → Type 0
IsEnd None = Unit {0}
IsEnd (Some (entries.Head object ending)) = ⊥
IsEnd (Some (entries.Block start last flags)) = ⊥
IsEnd (Some (entries.History address x8 edge)) = ⊥
IsEnd (Some (entries.Close digest)) = Unit {0}

-- what a call gives that gives an entry
abbrev pub Gives : Result Entry (Failure ReaderFault) → TraceReader → List ℕ → List Entry → Type 0
Gives (Ok entry) r bytes given = Reads r bytes (given ++ entry ∷ [])
Gives (Err failure) r bytes given = IsCause bytes failure

-- the first of the checks that failed, by the places where each did
abbrev pub verdict_of : Option ℕ → Option ℕ → Option ℕ → Result (Unit {0}) TraceFault
verdict_of order flag edge = unless order faults.Order >>= λ ordered. unless flag faults.Flag >>= λ flagged. unless edge faults.Flag

-- so many bytes were taken, or the file ended before
abbrev pub Takes : Result (Unit {0}) (Failure ReaderFault) → Stream → List ℕ → List ℕ → ℕ → ℕ → Type 0
Takes (Ok done) s into bytes taken room = (into ≡ take room (drop taken bytes)) × (taken + room ≤ length bytes) × StandsAt s bytes (taken + room)
Takes (Err (Fault reader_faults.Read)) s into bytes taken room = Unit {0}
Takes (Err (Fault (reader_faults.Trace fault))) s into bytes taken room = (fault ≡ layer_fault Short) × (length bytes < taken + room)
Takes (Err WantOfMemory) s into bytes taken room = Unit {0}

-- ---- what a reader gave, whatever the files hold

-- a head and blocks, of which so many may follow
pub record GaveBlocks (given : List Entry) (left : ℕ) : Type 0 where
  pub object : List ℕ
  pub ending : ℕ
  pub blocks : List Block
  pub gave : given ≡ entries_to object ending blocks []
  pub few : length blocks + left < 2 ^ 32

-- a head, blocks, and entries of the history, of which so many may follow
pub record GaveHistory (given : List Entry) (left : ℕ) : Type 0 where
  pub object : List ℕ
  pub ending : ℕ
  pub blocks : List Block
  pub history : List HistoryEntry
  pub gave : given ≡ entries_to object ending blocks history
  pub few : length blocks < 2 ^ 32
  pub short : length history + left < 2 ^ 32

-- a head, blocks, entries of the history, and a closing digest
pub record GaveAll (given : List Entry) : Type 0 where
  pub object : List ℕ
  pub ending : ℕ
  pub blocks : List Block
  pub history : List HistoryEntry
  pub closing : List ℕ
  pub gave : given ≡ entries_to object ending blocks history ++ entries.Close closing ∷ []
  pub few : length blocks < 2 ^ 32
  pub short : length history < 2 ^ 32

-- nothing, or a head and what may follow it but the digest
abbrev pub Began : List Entry → Type 0
Began given = (given ≡ []) ⊎ GaveHistory given 0

-- what a reader of a stage gave, which has so many blocks
abbrev pub GaveIn : Stage → ℕ → List Entry → Type 0
GaveIn stages.Head blocks given = (given ≡ []) × (blocks < 2 ^ 32)
GaveIn (stages.Blocks left) blocks given = GaveBlocks given left
GaveIn (stages.History left) blocks given = GaveHistory given left
GaveIn stages.Closed blocks given = GaveAll given
GaveIn (stages.Failed failure) blocks given = Began given

-- the reader gave these entries: one head, fewer than 2^32 blocks, fewer than 2^32 entries of the history, and the digest, as far as it has come
abbrev pub Gave : TraceReader → List Entry → Type 0
Gave r given = GaveIn r.stage r.head.blocks given

-- the entries that were given, after a call
abbrev pub and_then : List Entry → Result (Option Entry) (Failure ReaderFault) → List Entry
and_then given (Ok (Some entry)) = given ++ entry ∷ []
and_then given (Ok None) = given
and_then given (Err failure) = given
