-- The trace file of what was recorded.
use Rattle.std.specs.Prelude.{ℕ, ◌+◌, ◌==◌, Bool, false, List, [], ◌∷◌, map, bit_and, slice_get, Option, None, option_and_then, option_map, unwrap_or, if◌then◌else◌}
use Rattle.std.specs.List.{cons_option}
use Rattle.decision_map.specs.Blocks.{block_end}
use Rattle.decision_map.specs.Kinds.{kinds_of_text}
use Rattle.object_format.specs.declared.object.Object.{Object}
use Rattle.object_facts.specs.Object.{facts_of}
use Rattle.rv_semantics.specs.Layout.{text_place}
use Rattle.rv_semantics.specs.declared.stepped.Seen.{Seen}
use Rattle.trace_format.specs.declared.trace.Block.{Block}
use Rattle.trace_format.specs.declared.trace.Trace.{Trace}
use Rattle.transcript.specs.Trace.{Block as Executed, trace_of}
use Rattle.trace_record.specs.declared.mark.Mark.{Mark}
use Rattle.trace_record.specs.Marks.{bits}
use Rattle.trace_record.specs.Recorded.{entry_of}

-- ---- what the file says

-- a block as a trace file keeps it: its flags are 1 where its branch was taken, 2 where it was not taken
abbrev pub block_in : Executed → Block
block_in b = record { start = b.start; last = b.last; flags = bits b.taken b.not_taken false }

-- the trace of a run of an object with this transcript, whose ending has this number, as its file keeps it
abbrev pub traced : Object → List Seen → (ending : ℕ) → Trace
traced o ss ending = record {
  object = o.closing;
  ending = ending;
  blocks = map block_in (trace_of (facts_of o) ss).blocks;
  history = map entry_of (trace_of (facts_of o) ss).history;
}

-- ---- how it is made of marks

-- the mark of no word
abbrev pub no_mark : Mark
no_mark = record { 0 = 0 }

-- the mark of the word at an address; none outside the text
abbrev pub mark_at : List Mark → ℕ → Mark
mark_at marks pc = unwrap_or (option_and_then (slice_get marks) (text_place pc)) no_mark

-- the edges of a mark
abbrev pub edges_of : Mark → ℕ
edges_of m = bit_and m.0 3

-- whether a block starts at a word with this mark
abbrev pub is_start : Mark → Bool
is_start m = bit_and m.0 4 == 4

-- the block between two addresses
abbrev pub block_to : List Mark → (start last : ℕ) → Block
block_to marks start last = record { start = start; last = last; flags = edges_of (mark_at marks last) }

-- the block that starts at an address whose word has this mark, if one does
abbrev pub block_at : Object → List Mark → Mark → (start : ℕ) → Option Block
block_at o marks m start =
    if is_start m then option_map (block_to marks start) (block_end (kinds_of_text o.text) start) else None

-- the blocks that start from an address on, whose word has the first of these marks
abbrev pub blocks_from : Object → List Mark → (start : ℕ) → List Mark → List Block
blocks_from o marks start [] = []
blocks_from o marks start (m ∷ ms) = cons_option (block_at o marks m start) (blocks_from o marks (start + 4) ms)
