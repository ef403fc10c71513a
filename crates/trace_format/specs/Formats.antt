-- How a trace stands in the bytes of its file.
use Rattle.std.specs.Prelude.{ℕ, List, [], ◌∷◌, refl}
use Rattle.spelling.specs.Format.{Format, digest, number, byte, ◌&◌, seen_as, list_of}
use Rattle.spelling.specs.Laws.{IsFormat, digest_ok, number_ok, byte_ok, and_ok, seen_as_ok, list_of_ok}
use Rattle.spelling.specs.Entries.{IsFixed}
use Rattle.spelling.specs.Fixed.{number_value, byte_value, both_values, number_fixed, byte_fixed, and_fixed, seen_as_fixed}
use Rattle.spelling.specs.Layers.{file, unsealed}
use Rattle.sha2.specs.Sha256.{sha256}
use Rattle.trace_format.specs.declared.trace.Block.{Block}
use Rattle.trace_format.specs.declared.trace.HistoryEntry.{HistoryEntry}
use Rattle.trace_format.specs.declared.trace.Trace.{Trace}

-- two numbers and a byte
abbrev pub entry : Format (ℕ × (ℕ × ℕ))
entry = number & (number & byte)

pub entry_ok : IsFormat entry
entry_ok = and_ok _ _ number_ok (and_ok _ _ number_ok byte_ok)

-- what nine bytes say
abbrev pub entry_value : List ℕ → ℕ × (ℕ × ℕ)
entry_value = both_values 4 number_value (both_values 4 number_value byte_value)

pub entry_fixed : IsFixed entry 9 entry_value
entry_fixed = and_fixed number (number & byte) 4 5 number_value (both_values 4 number_value byte_value) number_fixed (and_fixed number byte 4 1 number_value byte_value number_fixed byte_fixed)

-- a block: start, last, flags
abbrev pub block_of : ℕ × (ℕ × ℕ) → Block
block_of p = record { start = p.0; last = p.1.0; flags = p.1.1 }

abbrev pub block_parts : Block → ℕ × (ℕ × ℕ)
block_parts b = (b.start, (b.last, b.flags))

abbrev pub block_entry : Format Block
block_entry = seen_as entry block_of block_parts

pub block_entry_ok : IsFormat block_entry
block_entry_ok = seen_as_ok _ _ _ entry_ok (λ _ _. refl) (λ _. refl)

abbrev pub block_value : List ℕ → Block
block_value bytes = block_of (entry_value bytes)

pub block_fixed : IsFixed block_entry 9 block_value
block_fixed = seen_as_fixed entry block_of block_parts 9 entry_value entry_fixed

-- an entry of the history: address, frame pointer, edge
abbrev pub history_of : ℕ × (ℕ × ℕ) → HistoryEntry
history_of p = record { address = p.0; x8 = p.1.0; edge = p.1.1 }

abbrev pub history_parts : HistoryEntry → ℕ × (ℕ × ℕ)
history_parts h = (h.address, (h.x8, h.edge))

abbrev pub history_entry : Format HistoryEntry
history_entry = seen_as entry history_of history_parts

pub history_entry_ok : IsFormat history_entry
history_entry_ok = seen_as_ok _ _ _ entry_ok (λ _ _. refl) (λ _. refl)

abbrev pub history_value : List ℕ → HistoryEntry
history_value bytes = history_of (entry_value bytes)

pub history_fixed : IsFixed history_entry 9 history_value
history_fixed = seen_as_fixed entry history_of history_parts 9 entry_value entry_fixed

-- what stands between version and closing digest: the object's digest, the ending, blocks, history
abbrev pub trace_parts : Format Trace
trace_parts = seen_as (digest & (number & (list_of block_entry & list_of history_entry)))
    (λ p. record { object = p.0; ending = p.1.0; blocks = p.1.1.0; history = p.1.1.1 })
    (λ t. (t.object, (t.ending, (t.blocks, t.history))))

pub trace_parts_ok : IsFormat trace_parts
trace_parts_ok = seen_as_ok _ _ _ (and_ok _ _ digest_ok (and_ok _ _ number_ok (and_ok _ _ (list_of_ok _ block_entry_ok) (list_of_ok _ history_entry_ok)))) (λ _ _. refl) (λ _. refl)

-- the letters GCTR, by which a trace file begins
abbrev pub trace_magic : List ℕ
trace_magic = 71 ∷ 67 ∷ 84 ∷ 82 ∷ []

-- the bytes of a trace's file
abbrev pub trace_spelling : Trace → List ℕ
trace_spelling t = file trace_magic 1 trace_parts t

-- the digest that closes it
abbrev pub trace_digest : Trace → List ℕ
trace_digest t = sha256 (unsealed trace_magic 1 trace_parts t)
