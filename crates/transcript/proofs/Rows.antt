-- The pieces of a run cover just the addresses of its executed instructions.
use Rattle.std.proofs.Common.{◌≡◌, ℕ, ◌%◌, ◌≤◌, ◌⊎◌, inl, inr, ⊎_elim, ◌↔◌, Bool, true, false, cond, List, [], ◌∷◌, ◌++◌, Option, Some, None, option_to_list, arith}
use Rattle.std.proofs.lemmas.Bool.{cases_lt}
use Rattle.rv_semantics.specs.declared.stepped.Seen.{Seen}
use Rattle.cov_base.specs.Lists.{Somewhere}
use Rattle.transcript.specs.Facts.{Facts}
use Rattle.transcript.specs.Pieces.{Piece, lengthened, closed_from, left_open, pieces_from, pieces, GoesOn, RunsOnFrom, RunsOn, Covers}

-- an open piece begins before it ends
abbrev pub IsOpen : Option Piece → Type 0
IsOpen None = Unit {0}
IsOpen (Some p) = p.start ≤ p.last

abbrev InOpen : Option Piece → ℕ → Type 0
InOpen None pc = ⊥
InOpen (Some p) pc = Covers pc p

pub open_lengthened : (open_piece : Option Piece) (at_pc : ℕ) → IsOpen open_piece → GoesOn open_piece at_pc → IsOpen (Some (lengthened open_piece at_pc))
open_lengthened None at_pc is goes = omega arith
open_lengthened (Some p) at_pc is goes = omega (arith, goes, is)

in_lengthened : (open_piece : Option Piece) (at_pc pc : ℕ) → pc % 4 ≡ 0 → at_pc % 4 ≡ 0 → IsOpen open_piece → GoesOn open_piece at_pc
    → Covers pc (lengthened open_piece at_pc) → InOpen open_piece pc ⊎ (at_pc ≡ pc)
in_lengthened None at_pc pc aligned here is goes covers = inr (omega (arith, covers.0, covers.1))
in_lengthened (Some p) at_pc pc aligned here is goes covers =
    ⊎_elim (λ past. inr (omega (arith, past, covers.1, goes, aligned, here))) (λ within. inl (covers.0, within)) (cases_lt p.last pc)

lengthened_in : (open_piece : Option Piece) (at_pc pc : ℕ) → IsOpen open_piece → GoesOn open_piece at_pc
    → InOpen open_piece pc ⊎ (at_pc ≡ pc) → Covers pc (lengthened open_piece at_pc)
lengthened_in None at_pc pc is goes covers = ⊎_elim (λ off. absurd off) (λ here. (omega (arith, here), omega (arith, here))) covers
lengthened_in (Some p) at_pc pc is goes covers =
    ⊎_elim (λ inside. (inside.0, omega (arith, inside.1, goes))) (λ here. (omega (arith, here, is, goes), omega (arith, here))) covers

abbrev Executed : ℕ → List Seen → Type 0
Executed pc ss = Somewhere (λ s. s.pc ≡ pc) ss

pub rows_from : (o : Facts) (pc : ℕ) → pc % 4 ≡ 0 → (ss : List Seen) (open_piece : Option Piece) → IsOpen open_piece → RunsOnFrom o open_piece ss
    → Somewhere (Covers pc) (pieces_from o open_piece ss) ↔ (InOpen open_piece pc ⊎ Executed pc ss)
rows_from o pc aligned [] None is runs = (λ off. absurd off, λ off. ⊎_elim (λ x. absurd x) (λ x. absurd x) off)
rows_from o pc aligned [] (Some p) is runs =
    (λ covers. ⊎_elim (λ here. inl here) (λ off. absurd off) covers, λ covers. ⊎_elim (λ here. inl here) (λ off. absurd off) covers)
rows_from o pc aligned (s ∷ ss) open_piece is runs =
    by_transfer (o.transfers s.pc) (rows_from o pc aligned ss) runs.2
  where
    into : Covers pc (lengthened open_piece s.pc) → InOpen open_piece pc ⊎ (s.pc ≡ pc)
    into = in_lengthened open_piece s.pc pc aligned runs.1 is runs.0

    back : InOpen open_piece pc ⊎ (s.pc ≡ pc) → Covers pc (lengthened open_piece s.pc)
    back = lengthened_in open_piece s.pc pc is runs.0

    first : InOpen open_piece pc ⊎ (s.pc ≡ pc) → InOpen open_piece pc ⊎ Executed pc (s ∷ ss)
    first either = ⊎_elim (λ inside. inl inside) (λ here. inr (inl here)) either

    by_transfer : (b : Bool) → ((p : Option Piece) → IsOpen p → RunsOnFrom o p ss → Somewhere (Covers pc) (pieces_from o p ss) ↔ (InOpen p pc ⊎ Executed pc ss))
        → RunsOnFrom o (cond b None (Some (lengthened open_piece s.pc))) ss
        → Somewhere (Covers pc) (cond b (lengthened open_piece s.pc ∷ closed_from o None ss) (closed_from o (Some (lengthened open_piece s.pc)) ss)
        ++ option_to_list (left_open o (cond b None (Some (lengthened open_piece s.pc))) ss))
        ↔ (InOpen open_piece pc ⊎ Executed pc (s ∷ ss))
    by_transfer true rest on =
        let later = rest None tt on in (
          λ covers. ⊎_elim (λ here. first (into here)) (λ there. ⊎_elim (λ off. absurd off) (λ after. inr (inr after)) (later.0 there)) covers,
          λ covers. ⊎_elim (λ inside. inl (back (inl inside))) (λ executed. ⊎_elim (λ here. inl (back (inr here))) (λ after. inr (later.1 (inr after))) executed) covers,
        )
    by_transfer false rest on =
        let later = rest (Some (lengthened open_piece s.pc)) (open_lengthened open_piece s.pc is runs.0) on in (
          λ covers. ⊎_elim (λ inside. first (into inside)) (λ after. inr (inr after)) (later.0 covers),
          λ covers. later.1 (⊎_elim (λ inside. inl (back (inl inside))) (λ executed. ⊎_elim (λ here. inl (back (inr here))) (λ after. inr after) executed) covers),
        )

pub rows_law : (o : Facts) (ss : List Seen) (pc : ℕ) → pc % 4 ≡ 0 → RunsOn o ss → Somewhere (Covers pc) (pieces o ss) ↔ Somewhere (λ s. s.pc ≡ pc) ss
rows_law o ss pc aligned runs =
    let law = rows_from o pc aligned ss None tt runs in
    (λ covers. ⊎_elim (λ off. absurd off) (λ executed. executed) (law.0 covers), λ executed. law.1 (inr executed))
