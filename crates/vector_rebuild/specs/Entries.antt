-- What a trace file says, in the words of transcripts.
use Rattle.std.specs.Prelude.{◌==◌, map, None}
use Rattle.decision_map.specs.Blocks.{shows_edge}
use Rattle.trace_format.specs.declared.trace.Block.{Block as FileBlock}
use Rattle.trace_format.specs.declared.trace.HistoryEntry.{HistoryEntry}
use Rattle.trace_format.specs.Trace.{TraceFile}
use Rattle.transcript.specs.Trace.{Branched, Block, Trace}

-- the branch that an entry of a history is
abbrev pub branched_of : HistoryEntry → Branched
branched_of entry = record { address = entry.address; x8 = entry.x8; taken = entry.edge == 1 }

-- a block, with the edges that its flags show
abbrev pub block_of : FileBlock → Block
block_of b = record { start = b.start; last = b.last; taken = shows_edge b.flags 1; not_taken = shows_edge b.flags 0 }

-- the trace in a file
abbrev pub trace_in : TraceFile → Trace
trace_in t = record { blocks = map block_of t.blocks; tail = None; history = map branched_of t.history }
