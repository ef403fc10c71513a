-- What is held of a trace that is read entry by entry, and why one is not added.
use Rattle.std.specs.Prelude.{◌≡◌, ◌↔◌, ◌⊎◌, ℕ, ◌<◌, ◌^◌, List, [], ◌∷◌, ◌++◌, map, length, drop, Option, Some, None, IfSome, Ok, Err, true}
use Rattle.cov_base.specs.declared.event.Event.{Event}
use Rattle.cov_base.specs.declared.failure.Failure.{Failure}
use Rattle.cov_base.specs.declared.failure.Failure.TheVariants.{Fault, WantOfMemory}
use Rattle.cov_base.specs.Lists.{Everywhere, Somewhere}
use Rattle.cov_io.specs.Outside.{Held}
use Rattle.decision_map.specs.Fits.{fault_of}
use Rattle.decision_map.specs.Roles.{needs_history}
use Rattle.decision_map.specs.Seen.{IsFresh, HasSeen}
use Rattle.object_facts.specs.Object.{facts_of}
use Rattle.object_format.specs.declared.object.Object.{Object}
use Rattle.spelling.specs.Checks.{first_failing}
use Rattle.trace_format.specs.declared.entry.Entry.{Entry}
use Rattle.trace_format.specs.declared.entry.ReaderFault.{ReaderFault}
use Rattle.trace_format.specs.declared.entry.ReaderFault.TheVariants as reader_faults
use Rattle.trace_format.specs.declared.reader.Stage.TheVariants as stages
use Rattle.trace_format.specs.declared.reader.TraceReader.{TraceReader}
use Rattle.trace_format.specs.declared.trace.Block.{Block}
use Rattle.trace_format.specs.declared.trace.HistoryEntry.{HistoryEntry}
use Rattle.trace_format.specs.Checks.{in_order, trace_of}
use Rattle.trace_format.specs.Reader.{Gave, Reads, IsEnd, entries_to, file_name}
use Rattle.trace_format.specs.Stream.{AreTold}
use Rattle.trace_format.specs.Trace.{TraceFile}
use Rattle.transcript.specs.Computed.{done_of}
use Rattle.transcript.specs.Facts.{Facts}
use Rattle.transcript.specs.Reading.{AllFollow}
use Rattle.transcript.specs.Replay.{BreaksAt}
use Rattle.transcript.specs.Trace.{Says}
use Rattle.vector_rebuild.specs.declared.rebuild.Rebuild.{Rebuild}
use Rattle.vector_rebuild.specs.Entries.{block_of, trace_in}
use Rattle.vector_rebuild.specs.Flagged.{BlockSays}
use Rattle.vector_rebuild.specs.Rebuilt.{Rebuilds, visits_of}
use Rattle.coverage_set.specs.declared.fault.AddFault.{AddFault}
use Rattle.coverage_set.specs.declared.fault.AddFault.TheVariants as faults
use Rattle.coverage_set.specs.declared.row_starts.RowStarts.{RowStarts}
use Rattle.coverage_set.specs.declared.replay.Replay.{Replay}
use Rattle.coverage_set.specs.declared.found.Found.{Found}
use Rattle.coverage_set.specs.declared.reading.Reading.{Reading}
use Rattle.coverage_set.specs.Consolidated.{ArePossible}
use Rattle.coverage_set.specs.Covered.{Covered, HasRun, Has}
use Rattle.coverage_set.specs.Said.{starts_in}

-- ---- a history that is replayed

-- each entry is one whose executions are kept
abbrev pub AreKept : Object → List HistoryEntry → Type 0
AreKept o history = Everywhere (λ (h : HistoryEntry). needs_history o h.address ≡ true) history

-- a rebuild holds these entries, and these are their events
pub record HasReplayed (o : Facts) (r : Rebuild) (events : List Event) (fed : List HistoryEntry) : Type 0 where
  pub holds : Rebuilds o r fed
  pub told : (e : Event) → Somewhere (λ x. x ≡ e) events ↔ Somewhere (λ x. x ≡ e) (done_of o [] (visits_of o fed))

-- these entries were seen: those that were fed are all, or the history breaks at the place where it stopped, if it is of kept entries
pub record Replays (o : Object) (r : Replay) (history : List HistoryEntry) : Type 0 where
  pub fed : List HistoryEntry
  pub replayed : HasReplayed (facts_of o) r.rebuild r.events fed
  pub kept : AreKept o fed
  pub all : r.stopped ≡ None → fed ≡ history
  pub broken : IfSome r.stopped (λ at. AreKept o history → BreaksAt (facts_of o) (visits_of (facts_of o) history) at)

-- ---- what is found

-- the starts so far, and those of later blocks in the rows that are left, are those of all these blocks, if these are in order
abbrev pub HasStarted : Object → RowStarts → List Block → Type 0
HasStarted o s blocks = (later : List Block) → first_failing in_order None 0 (blocks ++ later) ≡ None
    → s.events.items ++ starts_in later (drop s.next o.rows) ≡ starts_in (blocks ++ later) o.rows

-- these blocks and entries of the history were seen
pub record Finds (o : Object) (f : Found) (blocks : List Block) (history : List HistoryEntry) : Type 0 where
  pub starts : HasStarted o f.starts blocks
  pub rows : ArePossible o f.starts.events.items
  pub flagged : (e : Event) → Somewhere (λ x. x ≡ e) f.flagged ↔ Somewhere (λ b. BlockSays (facts_of o) b e) (map block_of blocks)
  pub replay : Replays o f.replay history

-- ---- what is read

-- nothing was read
pub record IsBlank (o : Object) (r : Reading) : Type 0 where
  pub fit : IsFresh o r.fit
  pub found : Finds o r.found [] []

-- a head, these blocks and this history were read
pub record HasRead (o : Object) (r : Reading) (object : List ℕ) (ending : ℕ) (blocks : List Block) (history : List HistoryEntry) : Type 0 where
  pub fit : HasSeen o r.fit object ending blocks history
  pub found : Finds o r.found blocks history

-- these entries were taken, which stand in the order of a trace
pub record TookAll (o : Object) (r : Reading) (given : List Entry) : Type 0 where
  pub blank : given ≡ [] → IsBlank o r
  pub read : (object : List ℕ) (ending : ℕ) (blocks : List Block) (history : List HistoryEntry) → given ≡ entries_to object ending blocks history
      → HasRead o r object ending blocks history

-- their history has fewer than 2^32 entries
abbrev pub IsFew : List Entry → Type 0
IsFew given = (object : List ℕ) (ending : ℕ) (blocks : List Block) (history : List HistoryEntry) → given ≡ entries_to object ending blocks history
    → length history < 2 ^ 32

-- a reader as it was opened, and nothing was read of it yet
pub record IsOpened (held : Option Held) (r : TraceReader) : Type 0 where
  pub fresh : r.stage ≡ stages.Head
  pub gave : Gave r []
  pub reads : (bytes : List ℕ) → AreTold held (file_name r) bytes → Reads r bytes []

-- this entry came next of a reader
pub record IsNext (held : Option Held) (old new : TraceReader) (entry : Entry) : Type 0 where
  pub gave : (given : List Entry) → Gave old given → Gave new (given ++ entry ∷ [])
  pub closes : IsEnd (Some entry) ↔ (new.stage ≡ stages.Closed)
  pub unfailed : (failure : Failure ReaderFault) → new.stage ≡ stages.Failed failure → ⊥
  pub reads : (bytes : List ℕ) (given : List Entry) → AreTold held (file_name old) bytes → Reads old bytes given → Reads new bytes (given ++ entry ∷ [])
  pub name : file_name new ≡ file_name old

-- the head, the blocks and the history of some trace were read
pub record TookTrace (o : Object) (r : Reading) : Type 0 where
  pub object : List ℕ
  pub ending : ℕ
  pub blocks : List Block
  pub history : List HistoryEntry
  pub read : HasRead o r object ending blocks history

-- those of the trace in these bytes, which this digest closes
pub record TookFile (o : Object) (r : Reading) (bytes closing : List ℕ) : Type 0 where
  pub file : TraceFile
  pub passed : trace_of bytes ≡ Ok file
  pub closes : file.closing ≡ closing
  pub read : HasRead o r file.object file.ending file.blocks file.history

-- ---- why a trace is not added

-- what a reader's failure is to one who adds the trace
abbrev pub fault_of_reader : Failure ReaderFault → Failure AddFault
fault_of_reader (Fault reader_faults.Read) = Fault faults.Read
fault_of_reader (Fault (reader_faults.Trace fault)) = Fault (faults.Trace fault)
fault_of_reader WantOfMemory = WantOfMemory

-- the bytes were not read to their end: a read failed or memory was refused, or this is the first check of the format that they fail
abbrev pub IsUnreadFile : List ℕ → Failure AddFault → Type 0
IsUnreadFile bytes (Fault faults.Read) = Unit {0}
IsUnreadFile bytes (Fault (faults.Trace fault)) = trace_of bytes ≡ Err fault
IsUnreadFile bytes (Fault (faults.Fit fault)) = ⊥
IsUnreadFile bytes (Fault (faults.Broken at)) = ⊥
IsUnreadFile bytes WantOfMemory = Unit {0}

-- a trace that passes the checks of the format fails this one beside the object, or its history breaks at that place
abbrev pub IsUnfit : Object → TraceFile → Failure AddFault → Type 0
IsUnfit o t (Fault faults.Read) = ⊥
IsUnfit o t (Fault (faults.Trace fault)) = ⊥
IsUnfit o t (Fault (faults.Fit fault)) = fault_of o t ≡ Some fault
IsUnfit o t (Fault (faults.Broken at)) = (fault_of o t ≡ None) × BreaksAt (facts_of o) (visits_of (facts_of o) t.history) at
IsUnfit o t WantOfMemory = Unit {0}

-- it passes all checks, and these are the events that it says
pub record IsWhole (o : Object) (t : TraceFile) (events : List Event) : Type 0 where
  pub fits : fault_of o t ≡ None
  pub follow : AllFollow (facts_of o) [] (visits_of (facts_of o) t.history)
  pub said : (e : Event) → Somewhere (λ x. x ≡ e) events ↔ Says (facts_of o) (trace_in t) e

-- ---- the trace in bytes

-- it passes all checks, and the coverage has grown by what it says and by its run
pub record AddsTraceIn (o : Object) (bytes : List ℕ) (old new : Covered) : Type 0 where
  pub file : TraceFile
  pub passed : trace_of bytes ≡ Ok file
  pub fits : fault_of o file ≡ None
  pub follow : AllFollow (facts_of o) [] (visits_of (facts_of o) file.history)
  pub events : (e : Event) → Has new e ↔ (Has old e ⊎ Says (facts_of o) (trace_in file) e)
  pub runs : (digest : List ℕ) → HasRun new digest ↔ (HasRun old digest ⊎ (file.closing ≡ digest))

-- it passes the checks of the format, and fails this one beside the object
pub record IsUnfitIn (o : Object) (bytes : List ℕ) (failure : Failure AddFault) : Type 0 where
  pub file : TraceFile
  pub passed : trace_of bytes ≡ Ok file
  pub unfit : IsUnfit o file failure

-- why it is not added: the first that is wrong
abbrev pub IsNotAdded : Object → List ℕ → Failure AddFault → Type 0
IsNotAdded o bytes failure = IsUnreadFile bytes failure ⊎ IsUnfitIn o bytes failure
