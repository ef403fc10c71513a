-- What a trace file says.
use Rattle.std.specs.Prelude.{ℕ, List}
use Rattle.trace_format.specs.declared.trace.Block.{Block}
use Rattle.trace_format.specs.declared.trace.HistoryEntry.{HistoryEntry}
use Rattle.trace_format.specs.declared.trace.Trace.{Trace}

-- a trace with the digest that closes its file
pub record TraceFile : Type 0 where
  pub object : List ℕ
  pub ending : ℕ
  pub blocks : List Block
  pub history : List HistoryEntry
  pub closing : List ℕ

-- the trace without that digest
abbrev pub trace_in : TraceFile → Trace
trace_in t = record { object = t.object; ending = t.ending; blocks = t.blocks; history = t.history }

-- a trace and the digest that closes its file
abbrev pub closed_by : Trace → List ℕ → TraceFile
closed_by t closing = record { object = t.object; ending = t.ending; blocks = t.blocks; history = t.history; closing = closing }
