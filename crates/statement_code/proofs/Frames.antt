-- How states of a program and of its kernel go on together.
use Rattle.std.proofs.Common.{◌≡◌, ◌≢◌, ℕ, suc, ◌+◌, ◌<◌, ◌≤◌, ◌⊎◌, inl, inr, ℤ, false, FitsSigned, if◌then◌else◌, refl, ap, subst, ◌∙◌, arith}
use Rattle.std.specs.Int.{w32}
use Rattle.std.proofs.lemmas.Bool.{ne_eqb}
use Rattle.ada_meaning.specs.State.{Place, same_place, set_at, Seen, World, Outcome, Gives, Raises, OutOfFuel, goes_to, Action, with_seen, with_store}
use Rattle.kernel_ir.proofs.Memories.{with_word_other}
use Rattle.kernel_ir.specs.World.{Memory, Ended, Ends, Exits, Returns, Cut, slot_word, slot_in, with_slot, with_word, with_memory, paid}
use Rattle.kernel_ir.specs.World as kernel
use Rattle.statement_code.specs.Cells.{Cells, With}
use Rattle.statement_code.specs.Values.{arguments}
use Rattle.statement_code.specs.Frames.{rate, Observed, Frame, IsFrame, Inside, Runs}
use Rattle.statement_code.proofs.Cells.{cell_set, fewer}

-- more was observed by one unit of cost in the source
abbrev pub ticked : World → World
ticked w = with_seen (record { events = w.seen.events; output = w.seen.output; cost = suc w.seen.cost }) w

source_paid : (l m : ℕ) (w : World) (v : kernel.World) → m ≤ l + rate → Observed l w.seen v.seen → Observed m (ticked w).seen v.seen
source_paid l m w v le h = record { events = h.events; output = h.output; cost = omega (arith, h.cost, le) }

code_paid : (l m n : ℕ) (w : World) (v : kernel.World) → m + n ≤ l → Observed l w.seen v.seen → Observed m w.seen (paid n v).seen
code_paid l m n w v le h = record { events = h.events; output = h.output; cost = omega (arith, h.cost, le) }

pub observed_less : (l m : ℕ) (s t : Seen) → m ≤ l → Observed l s t → Observed m s t
observed_less l m s t le h = record { events = h.events; output = h.output; cost = omega (arith, h.cost, le) }

pub other_frame : (q r : Place) → r.frame ≢ q.frame → same_place r q ≡ false
other_frame q r differ = rw (ne_eqb r.frame q.frame differ) refl

module _ (Cell : Cells) (Keep : ℕ → Type 0) (fr : Frame) where
  -- the same states with something else observed
  pub observed : (Set : ℕ → Type 0) (l m : ℕ) (w : World) (v : kernel.World) (s t : Seen) → Inside Cell Keep fr Set l w v → Observed (fr.spare + m) s t
      → Inside Cell Keep fr Set m (with_seen s w) (record { memory = v.memory; input = v.input; seen = t })
  observed Set l m w v s t h seen = record { depth_is = h.depth_is; input = h.input; agree = h.agree; words = h.words; kept = h.kept; seen = seen }

  pub inside_ticked : (Set : ℕ → Type 0) (l : ℕ) (w : World) (v : kernel.World) → Inside Cell Keep fr Set l w v → Inside Cell Keep fr Set (l + rate) (ticked w) v
  inside_ticked Set l w v h = observed Set l (l + rate) w v _ _ h (source_paid (fr.spare + l) (fr.spare + (l + rate)) w v (omega arith) h.seen)

  pub inside_paid : (Set : ℕ → Type 0) (n l : ℕ) (w : World) (v : kernel.World) → Inside Cell Keep fr Set (l + n) w v → Inside Cell Keep fr Set l w (paid n v)
  inside_paid Set n l w v h = observed Set (l + n) l w v _ _ h (code_paid (fr.spare + (l + n)) (fr.spare + l) n w v (omega arith) h.seen)

  pub inside_less : (Set : ℕ → Type 0) (l m : ℕ) (w : World) (v : kernel.World) → m ≤ l → Inside Cell Keep fr Set l w v → Inside Cell Keep fr Set m w v
  inside_less Set l m w v le h = observed Set l m w v _ _ h (observed_less (fr.spare + l) (fr.spare + m) w.seen v.seen (omega (arith, le)) h.seen)

  -- fewer words are said to be set
  pub inside_fewer : (Set Some : ℕ → Type 0) (l : ℕ) (w : World) (v : kernel.World) → ((c : ℕ) → Some c → Set c) → Inside Cell Keep fr Set l w v
      → Inside Cell Keep fr Some l w v
  inside_fewer Set Some l w v among h = record {
    depth_is = h.depth_is;
    input = h.input;
    agree = fewer Cell Set Some w.store v.memory among h.agree;
    words = h.words;
    kept = h.kept;
    seen = h.seen;
  }

  module _ (frame : IsFrame Cell Keep fr) where
    -- a free slot is set, or one behind the frame
    pub worked_at : (Set : ℕ → Type 0) (l k : ℕ) (x : ℤ) (w : World) (v : kernel.World) → fr.base ≤ k → k < fr.width + arguments → Inside Cell Keep fr Set l w v
        → Inside Cell Keep fr Set l w (with_slot fr.fp k x v)
    worked_at Set l k x w v free room h = record {
      depth_is = h.depth_is;
      input = h.input;
      agree = λ q a here.
          let other : a ≢ slot_word fr.fp k = frame.free q a k here.0 free room in
          let before = h.agree q a here in
          (with_word_other (slot_word fr.fp k) a x v.memory other ∙ before.0, before.1);
      words = λ a keep.
          with_word_other (slot_word fr.fp k) a x v.memory (λ e. frame.hidden k free room (subst Keep e keep)) ∙ h.words a keep;
      kept = h.kept;
      seen = h.seen;
    }

    -- a free slot is set
    pub worked : (Set : ℕ → Type 0) (l k : ℕ) (x : ℤ) (w : World) (v : kernel.World) → fr.base ≤ k → k < fr.width → Inside Cell Keep fr Set l w v
        → Inside Cell Keep fr Set l w (with_slot fr.fp k x v)
    worked Set l k x w v free room h = record {
      depth_is = h.depth_is;
      input = h.input;
      agree = λ q a here.
          let other : a ≢ slot_word fr.fp k = frame.free q a k here.0 free (omega (arith, room)) in
          let before = h.agree q a here in
          (with_word_other (slot_word fr.fp k) a x v.memory other ∙ before.0, before.1);
      words = λ a keep.
          with_word_other (slot_word fr.fp k) a x v.memory (λ e. frame.hidden k free (omega (arith, room)) (subst Keep e keep)) ∙ h.words a keep;
      kept = h.kept;
      seen = h.seen;
    }

    -- a cell is set, and its word
    pub stored : (Set : ℕ → Type 0) (l : ℕ) (p : Place) (a : ℕ) (x : ℤ) (w : World) (v : kernel.World) → FitsSigned w32 x → Cell p a
        → Inside Cell Keep fr Set l w v
        → Inside Cell Keep fr (With Set a 1) l (with_store (set_at p x w.store) w) (with_memory (with_word a x v.memory) v)
    stored Set l p a x w v fits there h = record {
      depth_is = h.depth_is;
      input = h.input;
      agree = cell_set Cell frame.apart Set p a x w.store v.memory fits there h.agree;
      words = λ c keep. with_word_other a c x v.memory (λ e. frame.unkept p a there (subst Keep e keep)) ∙ h.words c keep;
      kept = λ q one less. ap (λ b. if b then x else w.store q) (other_frame q p (not_below (frame.own p a there) q one less)) ∙ h.kept q one less;
      seen = h.seen;
    }
      where
        not_below : (p.frame ≡ 0) ⊎ (p.frame ≡ fr.depth) → (q : Place) → 1 ≤ q.frame → q.frame < fr.depth → p.frame ≢ q.frame
        not_below (inl is) q one less e = omega (arith, is, e, one)
        not_below (inr is) q one less e = omega (arith, is, e, less)

-- a relation of outcomes that holds where both raise one exception, and where both are cut off
pub record AtStops {A : Type 0} (Stop : ℕ → World → kernel.World → Type 0) (R : Outcome A → Ended → Type 0) : Type 0 where
  pub raises : (x y : ℕ) (w : World) (v : kernel.World) → y ≡ x → Stop x w v → R (Raises x w) (kernel.Raises y v)
  pub cut : (w : World) (v : kernel.World) → Observed 0 w.seen v.seen → R (OutOfFuel w) (Cut v)

pub runs_stop : {A : Type 0} (Stop : ℕ → World → kernel.World → Type 0) (After : A → World → kernel.World → Type 0) → AtStops Stop (Runs Stop After)
runs_stop Stop After = record { raises = λ x y w v same stop. (same, stop); cut = λ w v seen. seen }

-- what holds where both give a result, and where both stop, holds
pub runs_are : {A : Type 0} (Stop : ℕ → World → kernel.World → Type 0) (After : A → World → kernel.World → Type 0) (R : Outcome A → Ended → Type 0)
    → AtStops Stop R → ((a : A) (w : World) (v : kernel.World) → After a w v → R (Gives a w) (Ends v))
    → (r : Outcome A) (e : Ended) → Runs Stop After r e → R r e
runs_are Stop After R stops next (Gives a w) (Ends v) h = next a w v h
runs_are Stop After R stops next (Raises x w) (kernel.Raises y v) h = stops.raises x y w v h.0 h.1
runs_are Stop After R stops next (OutOfFuel w) (Cut v) h = stops.cut w v h
runs_are Stop After R stops next (Gives a w) (Exits v) h = absurd h
runs_are Stop After R stops next (Gives a w) (Returns v) h = absurd h
runs_are Stop After R stops next (Gives a w) (kernel.Raises y v) h = absurd h
runs_are Stop After R stops next (Gives a w) (Cut v) h = absurd h
runs_are Stop After R stops next (Raises x w) (Ends v) h = absurd h
runs_are Stop After R stops next (Raises x w) (Exits v) h = absurd h
runs_are Stop After R stops next (Raises x w) (Returns v) h = absurd h
runs_are Stop After R stops next (Raises x w) (Cut v) h = absurd h
runs_are Stop After R stops next (OutOfFuel w) (Ends v) h = absurd h
runs_are Stop After R stops next (OutOfFuel w) (Exits v) h = absurd h
runs_are Stop After R stops next (OutOfFuel w) (Returns v) h = absurd h
runs_are Stop After R stops next (OutOfFuel w) (kernel.Raises y v) h = absurd h

-- what comes after both
pub runs_then : {A B : Type 0} (Stop : ℕ → World → kernel.World → Type 0) (After : A → World → kernel.World → Type 0) (R : Outcome B → Ended → Type 0)
    → AtStops Stop R → (f : A → Action B) (g : kernel.World → Ended)
    → ((a : A) (w : World) (v : kernel.World) → After a w v → R (f a w) (g v)) → (r : Outcome A) (e : Ended) → Runs Stop After r e
    → R (goes_to r f) (kernel.goes_on e g)
runs_then Stop After R stops f g next =
    runs_are Stop After (λ r e. R (goes_to r f) (kernel.goes_on e g)) (record { raises = stops.raises; cut = stops.cut }) next

pub runs_weaken : {A : Type 0} (Stop Later : ℕ → World → kernel.World → Type 0) (After : A → World → kernel.World → Type 0)
    → ((x : ℕ) (w : World) (v : kernel.World) → Stop x w v → Later x w v) → (r : Outcome A) (e : Ended) → Runs Stop After r e → Runs Later After r e
runs_weaken Stop Later After more =
    runs_are Stop After (Runs Later After) (record { raises = λ x y w v same stop. (same, more x w v stop); cut = λ w v seen. seen }) (λ a w v h. h)
