-- How statements and their code end alike, and what comes after.
use Rattle.std.proofs.Common.{◌≡◌, ℕ, zero, suc, ◌+◌, ◌<◌, ◌≤◌, inl, inr, ℤ, true, Option, refl, sym, subst, ◌∙◌, arith, Bool}
use Rattle.ada_meaning.specs.State.{Place, Store, World, Outcome, Gives, Raises, OutOfFuel, Action, goes_to, give, ◌>>=◌}
use Rattle.ada_meaning.specs.State as state
use Rattle.ada_meaning.specs.Statements.{Flow, goes_on, leaves, returns, continued, looped, turns}
use Rattle.kernel_ir.specs.Meaning as code
use Rattle.kernel_ir.specs.World.{Memory, Ended, Ends, Exits, Returns, Cut, slot_word, slot_in, paid}
use Rattle.kernel_ir.specs.World as kernel
use Rattle.statement_code.specs.Cells.{Cells}
use Rattle.statement_code.specs.Frames.{rate, Observed, Frame, IsFrame, Inside, Failed, Runs, deeper, Kept}
use Rattle.statement_code.specs.Steps.{Step}
use Rattle.statement_code.specs.Values.{arguments}
use Rattle.statement_code.proofs.Frames.{ticked, observed_less, inside_ticked, inside_paid, inside_less, AtStops, runs_then}

-- nothing comes behind code that ended
pub ends_same : (e : Ended) → kernel.goes_on e Ends ≡ e
ends_same (Ends w) = refl
ends_same (Exits w) = refl
ends_same (Returns w) = refl
ends_same (kernel.Raises x w) = refl
ends_same (Cut w) = refl

-- an action after two is one after what the second does
pub goes_to_twice : {A B C : Type 0} (r : Outcome A) (f : A → Action B) (g : B → Action C) → goes_to (goes_to r f) g ≡ goes_to r (λ a w. goes_to (f a w) g)
goes_to_twice (Gives a w) f g = refl
goes_to_twice (Raises x w) f g = refl
goes_to_twice (OutOfFuel w) f g = refl

module _ (Back : Option ℤ → World → kernel.World → Type 0) (looping : Bool) where
  pub step_stops : (Stop : ℕ → World → kernel.World → Type 0) (After : World → kernel.World → Type 0) → AtStops Stop (Step Back looping Stop After)
  step_stops Stop After = record { raises = λ x y w v same stop. (same, stop); cut = λ w v seen. seen }

  -- what holds where both go on, where both leave a loop, where both return, and where both stop, holds
  pub steps_are : (Stop : ℕ → World → kernel.World → Type 0) (After : World → kernel.World → Type 0) (R : Outcome Flow → Ended → Type 0) → AtStops Stop R
      → ((w : World) (v : kernel.World) → After w v → R (Gives goes_on w) (Ends v))
      → ((w : World) (v : kernel.World) → looping ≡ true → After w v → R (Gives leaves w) (Exits v))
      → ((r : Option ℤ) (w : World) (v : kernel.World) → Back r w v → R (Gives (returns r) w) (Returns v)) → (r : Outcome Flow) (e : Ended) → Step Back looping Stop After r e → R r e
  steps_are Stop After R stops next out back (Gives goes_on w) (Ends v) h = next w v h
  steps_are Stop After R stops next out back (Gives leaves w) (Exits v) h = out w v h.0 h.1
  steps_are Stop After R stops next out back (Gives (returns x) w) (Returns v) h = back x w v h
  steps_are Stop After R stops next out back (Raises x w) (kernel.Raises y v) h = stops.raises x y w v h.0 h.1
  steps_are Stop After R stops next out back (OutOfFuel w) (Cut v) h = stops.cut w v h
  steps_are Stop After R stops next out back (Gives goes_on w) (Exits v) h = absurd h
  steps_are Stop After R stops next out back (Gives goes_on w) (Returns v) h = absurd h
  steps_are Stop After R stops next out back (Gives goes_on w) (kernel.Raises y v) h = absurd h
  steps_are Stop After R stops next out back (Gives goes_on w) (Cut v) h = absurd h
  steps_are Stop After R stops next out back (Gives leaves w) (Ends v) h = absurd h
  steps_are Stop After R stops next out back (Gives leaves w) (Returns v) h = absurd h
  steps_are Stop After R stops next out back (Gives leaves w) (kernel.Raises y v) h = absurd h
  steps_are Stop After R stops next out back (Gives leaves w) (Cut v) h = absurd h
  steps_are Stop After R stops next out back (Gives (returns x) w) (Ends v) h = absurd h
  steps_are Stop After R stops next out back (Gives (returns x) w) (Exits v) h = absurd h
  steps_are Stop After R stops next out back (Gives (returns x) w) (kernel.Raises y v) h = absurd h
  steps_are Stop After R stops next out back (Gives (returns x) w) (Cut v) h = absurd h
  steps_are Stop After R stops next out back (Raises x w) (Ends v) h = absurd h
  steps_are Stop After R stops next out back (Raises x w) (Exits v) h = absurd h
  steps_are Stop After R stops next out back (Raises x w) (Returns v) h = absurd h
  steps_are Stop After R stops next out back (Raises x w) (Cut v) h = absurd h
  steps_are Stop After R stops next out back (OutOfFuel w) (Ends v) h = absurd h
  steps_are Stop After R stops next out back (OutOfFuel w) (Exits v) h = absurd h
  steps_are Stop After R stops next out back (OutOfFuel w) (Returns v) h = absurd h
  steps_are Stop After R stops next out back (OutOfFuel w) (kernel.Raises y v) h = absurd h

  -- what comes behind a statement
  pub step_then : (Stop : ℕ → World → kernel.World → Type 0) (After : World → kernel.World → Type 0) (f : World → Outcome Flow) (g : kernel.World → Ended)
      → ((w : World) (v : kernel.World) → After w v → Step Back looping Stop After (f w) (g v))
      → (r : Outcome Flow) (e : Ended) → Step Back looping Stop After r e → Step Back looping Stop After (goes_to r (λ x. continued x f)) (kernel.goes_on e g)
  step_then Stop After f g next =
      steps_are Stop After (λ r e. Step Back looping Stop After (goes_to r (λ x. continued x f)) (kernel.goes_on e g))
      (record { raises = λ x y w v same stop. (same, stop); cut = λ w v seen. seen }) next (λ w v is h. (is, h)) (λ r w v h. h)

  -- with states that are related otherwise
  pub step_after : (Stop Fails : ℕ → World → kernel.World → Type 0) (After Later : World → kernel.World → Type 0)
      → ((x : ℕ) (w : World) (v : kernel.World) → Stop x w v → Fails x w v) → ((w : World) (v : kernel.World) → After w v → Later w v)
      → (r : Outcome Flow) (e : Ended) → Step Back looping Stop After r e → Step Back looping Fails Later r e
  step_after Stop Fails After Later fails next =
      steps_are Stop After (Step Back looping Fails Later) (record { raises = λ x y w v same stop. (same, fails x w v stop); cut = λ w v seen. seen }) next (λ w v is h. (is, next w v h)) (λ r w v h. h)

  -- where exceptions lead
  pub step_caught : (Stop Fails : ℕ → World → kernel.World → Type 0) (After Later : World → kernel.World → Type 0) (f : ℕ → Action Flow) (g : ℕ → kernel.World → Ended)
      → ((x : ℕ) (w : World) (v : kernel.World) → Stop x w v → Step Back looping Fails Later (f x w) (g x v)) → ((w : World) (v : kernel.World) → After w v → Later w v)
      → (r : Outcome Flow) (e : Ended) → Step Back looping Stop After r e → Step Back looping Fails Later (state.caught r f) (code.caught e g)
  step_caught Stop Fails After Later f g handled next =
      steps_are Stop After (λ r e. Step Back looping Fails Later (state.caught r f) (code.caught e g))
      (record {
        raises = λ x y w v same stop. subst (λ z. Step Back looping Fails Later (f x w) (g z v)) (sym same) (handled x w v stop);
        cut = λ w v seen. seen;
      }) next (λ w v is h. (is, next w v h)) (λ r w v h. h)

  -- without a handler
  pub step_uncaught : (Stop : ℕ → World → kernel.World → Type 0) (After : World → kernel.World → Type 0) (r : Outcome Flow) (e : Ended)
      → Step Back looping Stop After r e → Step Back looping Stop After (state.caught r (λ x. state.raise x)) e
  step_uncaught Stop After =
      steps_are Stop After (λ r e. Step Back looping Stop After (state.caught r (λ x. state.raise x)) e)
      (record { raises = λ x y w v same stop. (same, stop); cut = λ w v seen. seen }) (λ w v h. h) (λ w v is h. (is, h)) (λ r w v h. h)

  -- a statement goes on after what ended
  pub run_step : {A : Type 0} (Stop : ℕ → World → kernel.World → Type 0) (Before : A → World → kernel.World → Type 0) (After : World → kernel.World → Type 0)
      → ((a : A) (w : World) (v : kernel.World) → Before a w v → After w v) → (f : A → World → Outcome Flow) → ((a : A) (w : World) → f a w ≡ Gives goes_on w)
      → (r : Outcome A) (e : Ended) → Runs Stop Before r e → Step Back looping Stop After (goes_to r f) e
  run_step Stop Before After next f same r e h =
      subst (λ x. Step Back looping Stop After (goes_to r f) x) (ends_same e)
      (runs_then Stop Before (Step Back looping Stop After) (step_stops Stop After) f Ends
      (λ a w v g. subst (λ o. Step Back looping Stop After o (Ends v)) (sym (same a w)) (next a w v g)) r e h)

-- a turn of a loop, and the turns that come after it: where the body leaves the loop, the loop is done
pub turn_step : (Back : Option ℤ → World → kernel.World → Type 0) (looping : Bool) (Stop : ℕ → World → kernel.World → Type 0) (After Later : World → kernel.World → Type 0)
    (f : World → Outcome Flow) (g : kernel.World → Ended)
    → ((w : World) (v : kernel.World) → After w v → Step Back looping Stop Later (f w) (g v)) → ((w : World) (v : kernel.World) → After w v → Later w v)
    → (r : Outcome Flow) (e : Ended) → Step Back true Stop After r e → Step Back looping Stop Later (goes_to r (λ x. looped x f)) (code.after_turn e g)
turn_step Back looping Stop After Later f g next later =
    steps_are Back true Stop After (λ r e. Step Back looping Stop Later (goes_to r (λ x. looped x f)) (code.after_turn e g))
    (record { raises = λ x y w v same stop. (same, stop); cut = λ w v seen. seen }) next (λ w v is h. later w v h) (λ r w v h. h)

-- what is left of the cost may be less
pub seen_of : (Cell : Cells) (Keep : ℕ → Type 0) (fr : Frame) (Set : ℕ → Type 0) (l : ℕ) (w : World) (v : kernel.World) → Inside Cell Keep fr Set l w v → Observed 0 w.seen v.seen
seen_of Cell Keep fr Set l w v h = observed_less (fr.spare + l) 0 w.seen v.seen (omega arith) h.seen

module _ (Back : Option ℤ → World → kernel.World → Type 0) (Cell : Cells) (Keep : ℕ → Type 0) (fr : Frame) (Set : ℕ → Type 0) (looping : Bool) where
  -- a loop without a test
  pub loop_does : (body : Action Flow) (turn : kernel.World → Ended)
      → ((w : World) (v : kernel.World) → Inside Cell Keep fr Set 0 w v → Step Back true (Failed Cell Keep fr Set) (Inside Cell Keep fr Set 0) (body w) (turn v))
      → (fuel : ℕ) (w : World) (v : kernel.World) → Inside Cell Keep fr Set 0 w v
      → Step Back looping (Failed Cell Keep fr Set) (Inside Cell Keep fr Set 0) (turns fuel (give true) body w) (code.turns fuel turn v)
  loop_does body turn each zero w v h = seen_of Cell Keep fr Set 0 w v h
  loop_does body turn each (suc fuel) w v h =
      turn_step Back looping (Failed Cell Keep fr Set) (Inside Cell Keep fr Set 0) (Inside Cell Keep fr Set 0) (turns fuel (give true) body) (code.turns fuel turn) (loop_does body turn each fuel)
      (λ x y g. g) (body (ticked w)) (turn (paid 1 v))
      (each (ticked w) (paid 1 v) (inside_paid Cell Keep fr Set 1 0 (ticked w) v
      (inside_less Cell Keep fr Set (0 + rate) (0 + 1) (ticked w) v (omega arith) (inside_ticked Cell Keep fr Set 0 w v h))))

-- slots that stay from now on: those from the first free one on, so many
module _ (Cell : Cells) (Keep : ℕ → Type 0) (fr : Frame) (n extra : ℕ) where
  pub deeper_frame : IsFrame Cell Keep fr → fr.base + n ≤ fr.width → (v : kernel.World) → IsFrame Cell (Kept Keep fr n) (deeper fr n extra v)
  deeper_frame frame room v = record {
    apart = frame.apart;
    area = frame.area;
    unkept = λ q a cell keep. both q a cell keep;
    free = λ q a j cell le lt. frame.free q a j cell (omega (arith, le)) lt;
    own = frame.own;
    hidden = λ j le lt keep. other j le lt keep;
    inside = frame.inside;
    room = frame.room;
    predefined = frame.predefined;
  }
    where
      both : (q : Place) (a : ℕ) → Cell q a → Kept Keep fr n a → ⊥
      both q a cell (inl keep) = frame.unkept q a cell keep
      both q a cell (inr slot) = frame.free q a (fr.base + slot.0) cell (omega arith) (omega (arith, slot.1.0, room)) slot.1.1

      other : (j : ℕ) → fr.base + n ≤ j → j < fr.width + arguments → Kept Keep fr n (slot_word fr.fp j) → ⊥
      other j le lt (inl keep) = frame.hidden j (omega (arith, le)) lt keep
      other j le lt (inr slot) = omega (arith, slot.1.0, slot.1.1, le, lt, room, frame.room)

  pub enters : (Set : ℕ → Type 0) (w : World) (v : kernel.World) → Inside Cell Keep fr Set extra w v → Inside Cell (Kept Keep fr n) (deeper fr n extra v) Set 0 w v
  enters Set w v h = record {
    depth_is = h.depth_is;
    input = h.input;
    agree = h.agree;
    words = λ a keep. refl;
    kept = h.kept;
    seen = observed_less (fr.spare + extra) (fr.spare + extra + 0) w.seen v.seen (omega arith) h.seen;
  }

  pub back_out : (Set More : ℕ → Type 0) (k : ℕ) (w u : World) (v s : kernel.World) → Inside Cell Keep fr More k u s
      → Inside Cell (Kept Keep fr n) (deeper fr n extra s) Set 0 w v → Inside Cell Keep fr Set extra w v
  back_out Set More k w u v s before h = record {
    depth_is = h.depth_is;
    input = h.input;
    agree = h.agree;
    words = λ a keep. h.words a (inl keep) ∙ before.words a keep;
    kept = h.kept;
    seen = observed_less (fr.spare + extra + 0) (fr.spare + extra) w.seen v.seen (omega arith) h.seen;
  }

  pub failed_out : (Set More : ℕ → Type 0) (k x : ℕ) (w u : World) (v s : kernel.World) → Inside Cell Keep fr More k u s
      → Failed Cell (Kept Keep fr n) (deeper fr n extra s) Set x w v → Failed Cell Keep fr Set x w v
  failed_out Set More k x w u v s before h =
      (h.0, inside_less Cell Keep fr Set extra 0 w v (omega arith) (back_out Set More k w u v s before h.1))

  -- a slot that stays holds what it held
  pub stays : (Set : ℕ → Type 0) (i : ℕ) (w : World) (v s : kernel.World) → i < n → Inside Cell (Kept Keep fr n) (deeper fr n extra s) Set 0 w v
      → slot_in fr.fp (fr.base + i) v ≡ slot_in fr.fp (fr.base + i) s
  stays Set i w v s less h = h.words (slot_word fr.fp (fr.base + i)) (inr (i, (less, refl)))
