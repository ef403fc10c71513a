-- The marks of the words of a text.
use Rattle.std.specs.Prelude.{ℕ, ◌+◌, ◌==◌, Bool, true, false, ◌||◌, List, [], ◌∷◌, bit_or, Option, Some, None, if◌then◌else◌}
use Rattle.rv_semantics.specs.declared.stepped.Seen.{Seen}
use Rattle.transcript.specs.Facts.{Facts}
use Rattle.transcript.specs.Pieces.{Piece, closed}
use Rattle.transcript.specs.Trace.{took}

-- the bits of a mark: 1 where the branch was taken, 2 where it was not taken, 4 where a block starts
abbrev pub bits : (taken not_taken starts : Bool) → ℕ
bits taken not_taken starts = (if taken then 1 else 0) + ((if not_taken then 2 else 0) + (if starts then 4 else 0))

-- the bit of a branch's edge
abbrev pub bit_of : (taken : Bool) → ℕ
bit_of taken = if taken then 1 else 2

-- whether one of these pieces starts at an address
abbrev pub starts_at : List Piece → ℕ → Bool
starts_at [] pc = false
starts_at (p ∷ ps) pc = p.start == pc || starts_at ps pc

-- the mark of the word at an address after a transcript: which edges it took, and whether a piece that ended starts there
abbrev pub mark_of : Facts → List Seen → ℕ → ℕ
mark_of o ss pc = bits (took ss pc true) (took ss pc false) (starts_at (closed o ss) pc)

-- a mark with one more bit, at the place of the bit's word
abbrev pub with_bit : (here : Bool) → (bit old : ℕ) → ℕ
with_bit here bit old = if here then bit_or old bit else old

-- a mark with the bit of an edge, if there is one
abbrev pub with_edge : (here : Bool) → Option Bool → (old : ℕ) → ℕ
with_edge here None old = old
with_edge here (Some taken) old = with_bit here (bit_of taken) old
