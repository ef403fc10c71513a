-- Pieces: the executed instructions of a run, cut after each control transfer.
use Rattle.std.specs.Prelude.{◌≡◌, ℕ, ◌+◌, ◌%◌, ◌≤◌, ◌<◌, nat_eq, nat_lt, Bool, true, false, ◌&&◌, ◌||◌, List, [], ◌∷◌, ◌++◌, option_to_list, Option, Some, None, if◌then◌else◌}
use Rattle.rv_semantics.specs.declared.stepped.Seen.{Seen}
use Rattle.cov_base.specs.Lists.{Everywhere}
use Rattle.transcript.specs.Facts.{Facts}

-- instructions that stand in a row: the addresses of the first and of the last
pub record Piece : Type 0 where
  pub start : ℕ
  pub last : ℕ

-- the piece that an instruction lengthens, or begins where no piece is open
abbrev pub lengthened : Option Piece → ℕ → Piece
lengthened None pc = record { start = pc; last = pc }
lengthened (Some p) pc = record { start = p.start; last = pc }

-- the open piece after an instruction: a control transfer closes it
abbrev pub open_after : Facts → Option Piece → ℕ → Option Piece
open_after o open_piece pc = if o.transfers pc then None else Some (lengthened open_piece pc)

-- the pieces that are closed in a transcript that goes on with this open piece
abbrev pub closed_from : Facts → Option Piece → List Seen → List Piece
closed_from o open_piece [] = []
closed_from o open_piece (s ∷ ss) =
    if o.transfers s.pc then lengthened open_piece s.pc ∷ closed_from o None ss
    else closed_from o (Some (lengthened open_piece s.pc)) ss

-- the piece that such a transcript leaves open
abbrev pub left_open : Facts → Option Piece → List Seen → Option Piece
left_open o open_piece [] = open_piece
left_open o open_piece (s ∷ ss) = left_open o (open_after o open_piece s.pc) ss

-- all pieces of such a transcript; the last may be open
abbrev pub pieces_from : Facts → Option Piece → List Seen → List Piece
pieces_from o open_piece ss = closed_from o open_piece ss ++ option_to_list (left_open o open_piece ss)

-- the pieces of a transcript that end in a control transfer
abbrev pub closed : Facts → List Seen → List Piece
closed o ss = closed_from o None ss

-- the pieces of a transcript
abbrev pub pieces : Facts → List Seen → List Piece
pieces o ss = pieces_from o None ss

-- an instruction stands right after an open piece, or anywhere where no piece is open
abbrev pub GoesOn : Option Piece → ℕ → Type 0
GoesOn None pc = Unit {0}
GoesOn (Some p) pc = pc ≡ p.last + 4

-- inside a piece each instruction stands right after the one before it, and all stand at multiples of 4
abbrev pub RunsOnFrom : Facts → Option Piece → List Seen → Type 0
RunsOnFrom o open_piece [] = Unit {0}
RunsOnFrom o open_piece (s ∷ ss) =
    GoesOn open_piece s.pc × (s.pc % 4 ≡ 0) × RunsOnFrom o (open_after o open_piece s.pc) ss

-- so does a whole transcript
abbrev pub RunsOn : Facts → List Seen → Type 0
RunsOn o ss = RunsOnFrom o None ss

-- the last executed instruction, if there is one, is a control transfer
abbrev pub IsEnded : Facts → List Seen → Type 0
IsEnded o ss = left_open o None ss ≡ None

-- an address lies in a piece
abbrev pub Covers : ℕ → Piece → Type 0
Covers pc p = (p.start ≤ pc) × (pc ≤ p.last)

-- a piece of the text that no control transfer has ended yet
pub record IsOpenIn (o : Facts) (p : Piece) : Type 0 where
  pub start_aligned : p.start % 4 ≡ 0
  pub last_aligned : p.last % 4 ≡ 0
  pub forward : p.start ≤ p.last
  pub unbroken : (pc : ℕ) → p.start ≤ pc → pc ≤ p.last → pc % 4 ≡ 0 → o.transfers pc ≡ false

-- a piece of the text: from an address to the first control transfer from there on
pub record IsPieceOf (o : Facts) (p : Piece) : Type 0 where
  pub start_aligned : p.start % 4 ≡ 0
  pub last_aligned : p.last % 4 ≡ 0
  pub forward : p.start ≤ p.last
  pub closed : o.transfers p.last ≡ true
  pub unbroken : (pc : ℕ) → p.start ≤ pc → pc < p.last → pc % 4 ≡ 0 → o.transfers pc ≡ false

-- whether a piece stands before another: by their starts, then by their ends
abbrev pub stands_before : Piece → Piece → Bool
stands_before p q = nat_lt p.start q.start || nat_eq p.start q.start && nat_lt p.last q.last

-- pieces in rising order with one more, each once
abbrev pub with_piece : Piece → List Piece → List Piece
with_piece p [] = p ∷ []
with_piece p (q ∷ rest) =
    if stands_before p q then p ∷ (q ∷ rest) else if stands_before q p then q ∷ with_piece p rest else q ∷ rest

-- the set of pieces, in rising order
abbrev pub set_of : List Piece → List Piece
set_of [] = []
set_of (p ∷ rest) = with_piece p (set_of rest)

-- each piece stands before those after it
abbrev pub Rise : List Piece → Type 0
Rise [] = Unit {0}
Rise (p ∷ rest) = Everywhere (λ q. stands_before p q ≡ true) rest × Rise rest

-- so do their starts
abbrev pub StartsRise : List Piece → Type 0
StartsRise [] = Unit {0}
StartsRise (p ∷ rest) = Everywhere (λ q. p.start < q.start) rest × StartsRise rest
