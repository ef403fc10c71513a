-- What stands where in a trace file, for one who reads it from its front.
use Rattle.std.specs.Prelude.{◌≡◌, ℕ, ◌+◌, ◌*◌, ◌≤◌, List, length, take, drop, Result, Ok, Err, nat_lt, ◌==◌, bytes_eq, if◌then◌else◌}
use Rattle.spelling.specs.declared.fault.LayerFault.{LayerFault}
use Rattle.spelling.specs.declared.fault.LayerFault.TheVariants.{Short, Version, Long, Damaged}
use Rattle.spelling.specs.Format.{Format, digest, number, ◌&◌}
use Rattle.spelling.specs.Fixed.{number_value}
use Rattle.spelling.specs.Entries.{values}
use Rattle.spelling.specs.Layers.{◌>>=◌, or_short, open_file, when}
use Rattle.trace_format.specs.declared.trace.Block.{Block}
use Rattle.trace_format.specs.declared.trace.HistoryEntry.{HistoryEntry}
use Rattle.trace_format.specs.declared.trace.Trace.{Trace}
use Rattle.trace_format.specs.declared.head.Head.{Head}
use Rattle.trace_format.specs.Formats.{trace_magic, block_value, history_value}

-- how many blocks the file tells
unfoldable pub block_count : List ℕ → ℕ
block_count bytes = number_value (take 4 (drop 44 bytes))

-- so many of its blocks
abbrev pub first_blocks : List ℕ → ℕ → List Block
first_blocks bytes n = values block_value 9 n (drop 48 bytes)

-- how many entries of the history it tells
unfoldable pub history_count : List ℕ → ℕ
history_count bytes = number_value (take 4 (drop (48 + 9 * block_count bytes) bytes))

-- so many of these
abbrev pub first_history : List ℕ → ℕ → List HistoryEntry
first_history bytes n = values history_value 9 n (drop (52 + 9 * block_count bytes) bytes)

-- the place of the closing digest
abbrev pub closing_place : List ℕ → ℕ
closing_place bytes = 52 + 9 * block_count bytes + 9 * history_count bytes

-- the trace between version and closing digest
abbrev pub trace_at : List ℕ → Trace
trace_at bytes = record {
  object = take 32 (drop 8 bytes);
  ending = number_value (take 4 (drop 40 bytes));
  blocks = first_blocks bytes (block_count bytes);
  history = first_history bytes (history_count bytes);
}

-- the object's digest, the ending, and the count of the blocks
abbrev pub head_parts : Format (List ℕ × (ℕ × ℕ))
head_parts = digest & (number & number)

-- the front of a file that begins with these bytes: short, magic, version, short
abbrev pub heading : List ℕ → Result Head LayerFault
heading bytes = do
  opened ← open_file trace_magic bytes
  is_known ← when (opened.0 == 1) Version
  read ← or_short (head_parts.read opened.1)
  Ok (record { object = read.0.0; ending = read.0.1.0; blocks = read.0.1.1 })

-- what stands behind the entries is the digest that is wanted: short, long, damaged
abbrev pub closing_of : List ℕ → List ℕ → Result (List ℕ) LayerFault
closing_of tail wanted = if nat_lt (length tail) 32 then Err Short
    else (if nat_lt 32 (length tail) then Err Long
    else (if bytes_eq tail wanted then Ok tail else Err Damaged))

-- a file whose front is right
pub record Opens (bytes : List ℕ) : Type 0 where
  pub opens : open_file trace_magic bytes ≡ Ok (1, drop 8 bytes)
  pub long : 48 ≤ length bytes

-- what the front tells, where it is right
pub record IsHead (bytes : List ℕ) (h : Head) : Type 0 where
  pub opens : Opens bytes
  pub object : h.object ≡ take 32 (drop 8 bytes)
  pub ending : h.ending ≡ number_value (take 4 (drop 40 bytes))
  pub blocks : h.blocks ≡ block_count bytes
