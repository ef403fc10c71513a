-- The pieces of a run that is over are pieces of the text.
use Rattle.std.proofs.Common.{◌≡◌, ℕ, ◌%◌, ◌⊎◌, inl, inr, ⊎_elim, Bool, true, false, cond, List, [], ◌∷◌, Option, Some, None, refl, sym, ap, subst, ◌∙◌, arith}
use Rattle.std.proofs.lemmas.Bool.{cases_lt, cases_order}
use Rattle.rv_semantics.specs.declared.stepped.Seen.{Seen}
use Rattle.cov_base.specs.Lists.{Somewhere, Everywhere}
use Rattle.transcript.specs.Facts.{Facts}
use Rattle.transcript.specs.Pieces.{Piece, lengthened, closed_from, closed, left_open, GoesOn, RunsOnFrom, RunsOn, IsOpenIn, IsPieceOf}

abbrev pub MayBeOpen : Facts → Option Piece → Type 0
MayBeOpen o None = Unit {0}
MayBeOpen o (Some p) = IsOpenIn o p

closes : (o : Facts) (open_piece : Option Piece) (at_pc : ℕ) → MayBeOpen o open_piece → GoesOn open_piece at_pc → at_pc % 4 ≡ 0 → o.transfers at_pc ≡ true
    → IsPieceOf o (lengthened open_piece at_pc)
closes o None at_pc is goes aligned transfers = record {
  start_aligned = aligned;
  last_aligned = aligned;
  forward = omega arith;
  closed = transfers;
  unbroken = λ pc from before multiple. absurd (omega (arith, from, before));
}
closes o (Some p) at_pc is goes aligned transfers = record {
  start_aligned = is.start_aligned;
  last_aligned = aligned;
  forward = omega (arith, is.forward, goes);
  closed = transfers;
  unbroken = λ pc from before multiple. is.unbroken pc from (omega (arith, goes, before, multiple, is.last_aligned)) multiple;
}

stays : (o : Facts) (open_piece : Option Piece) (at_pc : ℕ) → MayBeOpen o open_piece → GoesOn open_piece at_pc → at_pc % 4 ≡ 0 → o.transfers at_pc ≡ false
    → IsOpenIn o (lengthened open_piece at_pc)
stays o None at_pc is goes aligned transfers = record {
  start_aligned = aligned;
  last_aligned = aligned;
  forward = omega arith;
  unbroken = λ pc from before multiple. let here : pc ≡ at_pc = omega (arith, from, before) in subst (λ (x : ℕ). o.transfers x ≡ false) (sym here) transfers;
}
stays o (Some p) at_pc is goes aligned transfers = record {
  start_aligned = is.start_aligned;
  last_aligned = aligned;
  forward = omega (arith, is.forward, goes);
  unbroken = λ pc from before multiple.
      ⊎_elim (λ less. is.unbroken pc from (omega (arith, goes, less, multiple, is.last_aligned)) multiple)
      (λ more. let here : pc ≡ at_pc = omega (arith, more, before) in subst (λ (x : ℕ). o.transfers x ≡ false) (sym here) transfers)
      (cases_lt pc at_pc);
}

all_from : (o : Facts) (ss : List Seen) (open_piece : Option Piece) → MayBeOpen o open_piece → RunsOnFrom o open_piece ss
    → Everywhere (IsPieceOf o) (closed_from o open_piece ss) × MayBeOpen o (left_open o open_piece ss)
all_from o [] open_piece is runs = (tt, is)
all_from o (s ∷ ss) open_piece is runs = by_transfer (o.transfers s.pc) refl (all_from o ss) runs.2
  where
    by_transfer : (b : Bool) → o.transfers s.pc ≡ b
        → ((p : Option Piece) → MayBeOpen o p → RunsOnFrom o p ss → Everywhere (IsPieceOf o) (closed_from o p ss) × MayBeOpen o (left_open o p ss))
        → RunsOnFrom o (cond b None (Some (lengthened open_piece s.pc))) ss
        → Everywhere (IsPieceOf o) (cond b (lengthened open_piece s.pc ∷ closed_from o None ss) (closed_from o (Some (lengthened open_piece s.pc)) ss))
        × MayBeOpen o (left_open o (cond b None (Some (lengthened open_piece s.pc))) ss)
    by_transfer true transfers rest on =
        let later = rest None tt on in
        ((closes o open_piece s.pc is runs.0 runs.1 transfers, later.0), later.1)
    by_transfer false transfers rest on = rest (Some (lengthened open_piece s.pc)) (stays o open_piece s.pc is runs.0 runs.1 transfers) on

pub all_closed : (o : Facts) (ss : List Seen) → RunsOn o ss → Everywhere (IsPieceOf o) (closed o ss)
all_closed o ss runs = (all_from o ss None tt runs).0

pub open_is : (o : Facts) (ss : List Seen) (p : Piece) → RunsOn o ss → left_open o None ss ≡ Some p → IsOpenIn o p
open_is o ss p runs is = subst (MayBeOpen o) is (all_from o ss None tt runs).1

-- a start has one last
pub one_last : (o : Facts) (p q : Piece) → IsPieceOf o p → IsPieceOf o q → p.start ≡ q.start → p.last ≡ q.last
one_last o p q is_p is_q same =
    ⊎_elim (λ here. here)
    (λ apart. ⊎_elim
    (λ less. let off : true ≡ false = sym is_p.closed ∙ is_q.unbroken p.last (omega (arith, same, is_p.forward)) less is_p.last_aligned in absurd (cc off))
    (λ more. let off : true ≡ false = sym is_q.closed ∙ is_p.unbroken q.last (omega (arith, same, is_q.forward)) more is_q.last_aligned in absurd (cc off))
    apart)
    (cases_order p.last q.last)

-- the address of a control transfer that was executed ends a piece
pub last_there : (o : Facts) (pc : ℕ) → o.transfers pc ≡ true → (ss : List Seen) (open_piece : Option Piece) → Somewhere (λ s. s.pc ≡ pc) ss
    → Somewhere (λ p. p.last ≡ pc) (closed_from o open_piece ss)
last_there o pc transfers [] open_piece executed = absurd executed
last_there o pc transfers (s ∷ ss) open_piece executed = by_transfer (o.transfers s.pc) refl (last_there o pc transfers ss) executed
  where
    ends_now : (p : Option Piece) → s.pc ≡ pc → (lengthened p s.pc).last ≡ pc
    ends_now None here = here
    ends_now (Some p) here = here

    by_transfer : (b : Bool) → o.transfers s.pc ≡ b
        → ((p : Option Piece) → Somewhere (λ s. s.pc ≡ pc) ss → Somewhere (λ p. p.last ≡ pc) (closed_from o p ss))
        → (s.pc ≡ pc) ⊎ Somewhere (λ s. s.pc ≡ pc) ss
        → Somewhere (λ p. p.last ≡ pc) (cond b (lengthened open_piece s.pc ∷ closed_from o None ss) (closed_from o (Some (lengthened open_piece s.pc)) ss))
    by_transfer true is rest executed = ⊎_elim (λ here. inl (ends_now open_piece here)) (λ there. inr (rest None there)) executed
    by_transfer false is rest executed =
        ⊎_elim (λ here. let off : true ≡ false = sym transfers ∙ ap o.transfers (sym here) ∙ is in absurd (cc off)) (λ there. rest (Some (lengthened open_piece s.pc)) there) executed

-- the last instruction of a piece was executed
pub last_executed : (o : Facts) (pc : ℕ) (ss : List Seen) (open_piece : Option Piece) → Somewhere (λ p. p.last ≡ pc) (closed_from o open_piece ss)
    → Somewhere (λ s. s.pc ≡ pc) ss
last_executed o pc [] open_piece ends = absurd ends
last_executed o pc (s ∷ ss) open_piece ends = by_transfer (o.transfers s.pc) (last_executed o pc ss) ends
  where
    now_last : (p : Option Piece) → (lengthened p s.pc).last ≡ pc → s.pc ≡ pc
    now_last None here = here
    now_last (Some p) here = here

    by_transfer : (b : Bool) → ((p : Option Piece) → Somewhere (λ p. p.last ≡ pc) (closed_from o p ss) → Somewhere (λ s. s.pc ≡ pc) ss)
        → Somewhere (λ p. p.last ≡ pc) (cond b (lengthened open_piece s.pc ∷ closed_from o None ss) (closed_from o (Some (lengthened open_piece s.pc)) ss))
        → Somewhere (λ s. s.pc ≡ pc) (s ∷ ss)
    by_transfer true rest ends = ⊎_elim (λ here. inl (now_last open_piece here)) (λ there. inr (rest None there)) ends
    by_transfer false rest ends = inr (rest (Some (lengthened open_piece s.pc)) ends)
