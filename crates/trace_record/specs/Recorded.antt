-- What a recorder holds of a run.
use Rattle.std.specs.Prelude.{◌≡◌, ℕ, ◌<◌, List, [], ◌∷◌, map, filter_map, length, slice_index_or, Option, Some, None, if◌then◌else◌}
use Rattle.decision_map.specs.Kinds.{address_of}
use Rattle.object_format.specs.Checked.{IsSound}
use Rattle.object_format.specs.declared.object.Object.{Object}
use Rattle.object_facts.specs.Object.{facts_of, IsTranscript}
use Rattle.rv_semantics.specs.declared.stepped.Seen.{Seen}
use Rattle.trace_format.specs.declared.trace.HistoryEntry.{HistoryEntry}
use Rattle.transcript.specs.Pieces.{Piece, left_open}
use Rattle.transcript.specs.Trace.{Branched, kept_of}
use Rattle.trace_record.specs.declared.mark.Mark.{Mark}
use Rattle.trace_record.specs.declared.recorder.OpenPiece.{OpenPiece}
use Rattle.trace_record.specs.Marks.{mark_of}

-- what a recorder holds: its object, a mark for each word of the text, the piece that no control transfer has ended yet, and the history
pub record Recorded : Type 0 where
  pub object : Object
  pub marks : List Mark
  pub open_piece : Option Piece
  pub history : List HistoryEntry

-- the piece that is open
abbrev pub piece_of : Option OpenPiece → Option Piece
piece_of None = None
piece_of (Some p) = Some (record { start = p.start; last = p.last })

-- a branch as a trace file keeps it
abbrev pub entry_of : Branched → HistoryEntry
entry_of b = record { address = b.address; x8 = b.x8; edge = if b.taken then 1 else 0 }

-- what an executed branch adds to a history, if its history is needed
abbrev pub kept_entries : Option Branched → List HistoryEntry
kept_entries None = []
kept_entries (Some b) = entry_of b ∷ []

-- What a recorder of a checked object holds is what the trace of a transcript takes of it: the marks of the words, the piece that is left
-- open, and the history.
pub record Records (r : Recorded) (ss : List Seen) : Type 0 where
  pub object : IsSound r.object
  pub transcript : IsTranscript r.object ss
  pub long : length r.marks ≡ length r.object.text
  pub marks : (place : ℕ) (d : Mark) → place < length r.marks
      → (slice_index_or r.marks place d).0 ≡ mark_of (facts_of r.object) ss (address_of place)
  pub open_piece : r.open_piece ≡ left_open (facts_of r.object) None ss
  pub history : r.history ≡ map entry_of (filter_map (kept_of (facts_of r.object)) ss)
