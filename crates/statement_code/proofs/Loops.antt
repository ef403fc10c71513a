-- Loops over a range, and their code.
use Rattle.std.proofs.Common.{◌≡◌, ◌≢◌, ℕ, zero, suc, ◌+◌, ◌<◌, ◌≤◌, ◌^◌, ℤ, pos, negsuc, ◌+ℤ◌, ◌-ℤ◌, int_le, Bool, true, false, inl, FitsSigned, Option, if◌then◌else◌, refl, sym, ap, subst, ◌∙◌, arith}
use Rattle.std.proofs.lemmas.Int.{ints, int_wrap_fits}
use Rattle.std.specs.Int.{w32, int_wrap}
use Rattle.ada_meaning.specs.Arithmetic.{natural, count_between, number_of_truth, is_true, holds}
use Rattle.ada_meaning.specs.Program.{Bounds}
use Rattle.ada_meaning.specs.State.{Place, World, goes_to, Action, set_at, with_store}
use Rattle.ada_meaning.specs.Statements.{Flow, looped, counted, counted_between}
use Rattle.ada_meaning.specs.Types as ada
use Rattle.kernel_ir.proofs.Joining.{joined_does, single_does}
use Rattle.kernel_ir.proofs.Memories.{with_word_other, with_slot_at, with_slot_other}
use Rattle.kernel_ir.specs.declared.kernel.Kernel.{Kernel}
use Rattle.kernel_ir.specs.declared.simple.Relation.{Relation}
use Rattle.kernel_ir.specs.declared.simple.Relation.TheVariants as relation
use Rattle.kernel_ir.specs.Simple.{relation_of}
use Rattle.kernel_ir.specs.declared.simple.Simple.TheVariants as op
use Rattle.kernel_ir.specs.Meaning as code
use Rattle.kernel_ir.specs.Tree.{simple, choose, for_loop, exit, Code, no_op, and_op}
use Rattle.kernel_ir.specs.World.{Ended, Ends, Exits, Returns, slot_word, slot_in, with_slot, paid}
use Rattle.kernel_ir.specs.World as kernel
use Rattle.statement_code.specs.Cells.{Cells, With}
use Rattle.statement_code.specs.Flows.{counted_code, range_code}
use Rattle.statement_code.specs.Frames.{rate, Frame, IsFrame, Inside, Failed, deeper, Kept}
use Rattle.statement_code.specs.Steps.{Step}
use Rattle.statement_code.specs.Values.{single, one}
use Rattle.statement_code.proofs.Flows.{steps_are, back_out, failed_out, stays}
use Rattle.statement_code.proofs.Frames.{ticked, inside_ticked, inside_paid, inside_less, inside_fewer, worked, stored}

-- the value that stands so many steps behind the first one, up or, for a reverse loop, down
abbrev pub step_of : Bool → ℤ
step_of false = pos 1
step_of true = negsuc 0

abbrev pub steps_from : Bool → ℤ → ℕ → ℤ
steps_from false i m = i +ℤ pos m
steps_from true i m = i -ℤ pos m

first_step : (r : Bool) (i : ℤ) → steps_from r i 0 ≡ i
first_step false i = omega (arith, ints)
first_step true i = omega (arith, ints)

next_step : (r : Bool) (i : ℤ) (m : ℕ) → steps_from r (i +ℤ step_of r) m ≡ steps_from r i (suc m)
next_step false i m = omega (arith, ints)
next_step true i m = omega (arith, ints)

one_step : (r : Bool) (i : ℤ) → i +ℤ step_of r ≡ steps_from r i 1
one_step false i = omega (arith, ints)
one_step true i = omega (arith, ints)

never_back : (r : Bool) (i : ℤ) (m : ℕ) → steps_from r i (suc m) ≢ i
never_back false i m e = omega (arith, ints, e)
never_back true i m e = omega (arith, ints, e)

equal_numbers : (i j : ℤ) → j ≡ i → holds ada.equal i j ≡ true
equal_numbers i j h = grind (arith, ints, h)

other_numbers : (i j : ℤ) → j ≢ i → holds ada.equal i j ≡ false
other_numbers i j h = grind (arith, ints, h)

-- a range between two numbers
pub some_turn : (low high : ℤ) → int_le low high ≡ true → count_between low high ≡ suc (natural (high -ℤ low))
some_turn low high is = grind (arith, ints, is)

no_turn : (low high : ℤ) → int_le low high ≡ false → count_between low high ≡ 0
no_turn low high is = grind (arith, ints, is)

reaches : (low high : ℤ) → int_le low high ≡ true → high ≡ low +ℤ pos (natural (high -ℤ low))
reaches low high is = grind (arith, ints, is)

reaches_down : (low high : ℤ) → int_le low high ≡ true → low ≡ high -ℤ pos (natural (high -ℤ low))
reaches_down low high is = grind (arith, ints, is)

rising_fits : (low high : ℤ) (m : ℕ) → int_le low high ≡ true → m ≤ natural (high -ℤ low) → FitsSigned w32 low → FitsSigned w32 high → FitsSigned w32 (low +ℤ pos m)
rising_fits low high m is le f g = record { sfits = grind (arith, ints, is, le, f.sfits, g.sfits) }

falling_fits : (low high : ℤ) (m : ℕ) → int_le low high ≡ true → m ≤ natural (high -ℤ low) → FitsSigned w32 low → FitsSigned w32 high → FitsSigned w32 (high -ℤ pos m)
falling_fits low high m is le f g = record { sfits = grind (arith, ints, is, le, f.sfits, g.sfits) }

few_turns : (low high : ℤ) (fuel : ℕ) → FitsSigned w32 low → FitsSigned w32 high → natural (high -ℤ low) < fuel + 2 ^ 32
few_turns low high fuel f g = grind (arith, ints, f.sfits, g.sfits)

module _ (K : Kernel) (kcalls : code.Calls) (fuel : ℕ) (Cell : Cells) (Keep : ℕ → Type 0) (fr : Frame) (frame : IsFrame Cell Keep fr)
    (Set : ℕ → Type 0) (Back : Option ℤ → World → kernel.World → Type 0) (looping : Bool) (room : fr.base + 2 < fr.width) where
  abbrev In : (ℕ → Type 0) → ℕ → World → kernel.World → Type 0
  In more l w v = Inside Cell Keep fr more l w v

  abbrev Stop : ℕ → World → kernel.World → Type 0
  Stop = Failed Cell Keep fr Set

  abbrev codes : Code → kernel.World → Ended
  codes a v = code.does_code K kcalls fuel fr.width fr.fp fr.calls a v

  -- the parameter's object, in the slot d
  module _ (q : Place) (d : ℕ) (cell : Cell q (slot_word fr.fp d)) (body : Action Flow) (a : Code) where
    abbrev Now : ℕ → Type 0
    Now = With Set (slot_word fr.fp d) 1

    -- what the body does, from each memory on
    abbrev Each : Type 0
    Each =
        (s : kernel.World) (u : World) → In Now 3 u s
        → Step Back true (Failed Cell (Kept Keep fr 2) (deeper fr 2 3 s) Now) (Inside Cell (Kept Keep fr 2) (deeper fr 2 3 s) Now 0) (body u) (codes a s)

    -- what stands behind the body
    abbrev ending : ℤ → Code
    ending step = and_op (simple (op.Compare relation.Equal (fr.base + 2) fr.base (fr.base + 1))) (single (choose (fr.base + 2) (single exit) (one (op.Advance fr.base fr.base step))))

    abbrev compared : Bool → kernel.World → kernel.World
    compared b v = with_slot fr.fp (fr.base + 2) (number_of_truth b) (paid 1 v)

    ending_is : (step : ℤ) (v : kernel.World) (b : Bool) → holds ada.equal (slot_in fr.fp fr.base v) (slot_in fr.fp (fr.base + 1) v) ≡ b
        → codes (ending step) v ≡ (if b then codes (single exit) (paid 1 (compared b v)) else codes (one (op.Advance fr.base fr.base step)) (paid 1 (compared b v)))
    ending_is step v b is =
        ap (λ t. codes (single (choose (fr.base + 2) (single exit) (one (op.Advance fr.base fr.base step)))) (compared t v)) is
        ∙ (single_does K kcalls fuel fr.width fr.fp fr.calls (choose (fr.base + 2) (single exit) (one (op.Advance fr.base fr.base step))) (compared b v)
        ∙ (ap (λ x. if is_true x then codes (single exit) (paid 1 (compared b v)) else codes (one (op.Advance fr.base fr.base step)) (paid 1 (compared b v)))
        (with_slot_at fr.fp (fr.base + 2) (number_of_truth b) (paid 1 v)) ∙ truth b))
      where
        truth : (b : Bool)
            → (if is_true (number_of_truth b) then codes (single exit) (paid 1 (compared b v)) else codes (one (op.Advance fr.base fr.base step)) (paid 1 (compared b v)))
            ≡ (if b then codes (single exit) (paid 1 (compared b v)) else codes (one (op.Advance fr.base fr.base step)) (paid 1 (compared b v)))
        truth true = refl
        truth false = refl

    inside_compared : (b : Bool) (l : ℕ) (w : World) (v : kernel.World) → In Set (l + 2) w v → In Set l w (paid 1 (compared b v))
    inside_compared b l w v h =
        inside_paid Cell Keep fr Set 1 l w (compared b v)
        (worked Cell Keep fr frame Set (l + 1) (fr.base + 2) (number_of_truth b) w (paid 1 v) (omega arith) room
        (inside_paid Cell Keep fr Set 1 (l + 1) w v (inside_less Cell Keep fr Set (l + 2) (l + 1 + 1) w v (omega arith) h)))

    kept_slot : (i : ℕ) (b : Bool) (v : kernel.World) → i < fr.base + 2 → slot_in fr.fp i (paid 1 (compared b v)) ≡ slot_in fr.fp i v
    kept_slot i b v lt =
        with_slot_other fr.fp (fr.base + 2) i (number_of_truth b) (paid 1 v) (omega (arith, room, frame.room)) (omega (arith, lt, room, frame.room)) (λ e. omega (arith, e, lt))

    -- the turns that are left
    turns_do : (r : Bool) (each : Each) (n more : ℕ) (i last : ℤ) (w : World) (v : kernel.World) → n < more → In Set 0 w v → slot_in fr.fp fr.base v ≡ i
        → slot_in fr.fp (fr.base + 1) v ≡ last → last ≡ steps_from r i n → ((m : ℕ) → m ≤ n → FitsSigned w32 (steps_from r i m))
        → Step Back looping Stop (In Set 0) (counted (suc n) (step_of r) i q body w) (code.turns more (codes (counted_code fr.base (fr.base + 2) d (step_of r) a)) v)
    turns_do r each n zero i last w v lt h first second is fits = absurd (omega (arith, lt))
    turns_do r each n (suc more) i last w v lt h first second is fits =
        rw (joined_does K kcalls fuel fr.width fr.fp fr.calls a (ending (step_of r)) s)
        (steps_are Back true (Failed Cell (Kept Keep fr 2) (deeper fr 2 3 s) Now) (Inside Cell (Kept Keep fr 2) (deeper fr 2 3 s) Now 0)
        (λ o e. Step Back looping Stop (In Set 0) (goes_to o (λ x. looped x (counted n (step_of r) (i +ℤ step_of r) q body)))
        (code.after_turn (kernel.goes_on e (codes (ending (step_of r)))) (code.turns more (codes (counted_code fr.base (fr.base + 2) d (step_of r) a)))))
        (record {
          raises = λ x y y2 m same stop. (same, failed_less x y2 m (failed_out Cell Keep fr 2 3 Now Now 3 x y2 u m s begins stop));
          cut = λ y m seen. seen;
        })
        (λ y m g. rest n fits is lt
        (λ k y2 m2 lt2 h2 first2 second2 is2 fits2. turns_do r each k more (i +ℤ step_of r) last y2 m2 lt2 h2 first2 second2 is2 fits2)
        y m (outer y m g) (first_slot y m g) (second_slot y m g))
        (λ y m is_loop g. inside_less Cell Keep fr Set 3 0 y m (omega arith) (outer y m g)) (λ x y m back. back)
        (body u) (codes a s) (each s u begins))
      where
        u : World
        u = with_store (set_at q i w.store) (ticked (ticked w))

        s : kernel.World
        s = with_slot fr.fp d (slot_in fr.fp fr.base v) (paid 1 (paid 1 v))

        begins : In Now 3 u s
        begins = subst (λ x. In Now 3 u (with_slot fr.fp d x (paid 1 (paid 1 v)))) (sym first)
            (stored Cell Keep fr frame Set 3 q (slot_word fr.fp d) i (ticked (ticked w)) (paid 1 (paid 1 v)) (subst (FitsSigned w32) (first_step r i) (fits 0 (omega arith))) cell
            (inside_paid Cell Keep fr Set 1 3 (ticked (ticked w)) (paid 1 v) (inside_paid Cell Keep fr Set 1 (3 + 1) (ticked (ticked w)) v
            (inside_less Cell Keep fr Set (0 + rate + rate) (3 + 1 + 1) (ticked (ticked w)) v (omega arith)
            (inside_ticked Cell Keep fr Set (0 + rate) (ticked w) v (inside_ticked Cell Keep fr Set 0 w v h))))))

        outer : (y : World) (m : kernel.World) → Inside Cell (Kept Keep fr 2) (deeper fr 2 3 s) Now 0 y m → In Set 3 y m
        outer y m g = inside_fewer Cell Keep fr Now Set 3 y m (λ c set. inl set) (back_out Cell Keep fr 2 3 Now Now 3 y u m s begins g)

        failed_less : (x : ℕ) (y : World) (m : kernel.World) → Failed Cell Keep fr Now x y m → Stop x y m
        failed_less x y m stop = (stop.0, inside_fewer Cell Keep fr Now Set 0 y m (λ c set. inl set) stop.1)

        other_slot : (j : ℕ) → fr.base ≤ j → j < fr.width → slot_in fr.fp j s ≡ slot_in fr.fp j v
        other_slot j free lt =
            with_word_other (slot_word fr.fp d) (slot_word fr.fp j) (slot_in fr.fp fr.base v) v.memory (λ e. frame.free q (slot_word fr.fp d) j cell free (omega (arith, lt)) (sym e))

        no_more : fr.base + 0 ≡ fr.base
        no_more = omega arith

        first_slot : (y : World) (m : kernel.World) → Inside Cell (Kept Keep fr 2) (deeper fr 2 3 s) Now 0 y m → slot_in fr.fp fr.base m ≡ i
        first_slot y m g =
            subst (λ j. slot_in fr.fp j m ≡ slot_in fr.fp j s) no_more (stays Cell Keep fr 2 3 Now 0 y m s (omega arith) g)
            ∙ (other_slot fr.base (omega arith) (omega (arith, room)) ∙ first)

        second_slot : (y : World) (m : kernel.World) → Inside Cell (Kept Keep fr 2) (deeper fr 2 3 s) Now 0 y m → slot_in fr.fp (fr.base + 1) m ≡ last
        second_slot y m g = stays Cell Keep fr 2 3 Now 1 y m s (omega arith) g ∙ (other_slot (fr.base + 1) (omega arith) (omega (arith, room)) ∙ second)

        Again : Type 0
        Again = (k : ℕ) (y : World) (m : kernel.World) → k < more → In Set 0 y m → slot_in fr.fp fr.base m ≡ i +ℤ step_of r → slot_in fr.fp (fr.base + 1) m ≡ last
            → last ≡ steps_from r (i +ℤ step_of r) k → ((j : ℕ) → j ≤ k → FitsSigned w32 (steps_from r (i +ℤ step_of r) j))
            → Step Back looping Stop (In Set 0) (counted (suc k) (step_of r) (i +ℤ step_of r) q body y) (code.turns more (codes (counted_code fr.base (fr.base + 2) d (step_of r) a)) m)

        rest : (k : ℕ) → ((m : ℕ) → m ≤ k → FitsSigned w32 (steps_from r i m)) → last ≡ steps_from r i k → k < suc more → Again
            → (y : World) (m : kernel.World) → In Set 3 y m → slot_in fr.fp fr.base m ≡ i → slot_in fr.fp (fr.base + 1) m ≡ last
            → Step Back looping Stop (In Set 0) (counted k (step_of r) (i +ℤ step_of r) q body y)
            (code.after_turn (codes (ending (step_of r)) m) (code.turns more (codes (counted_code fr.base (fr.base + 2) d (step_of r) a))))
        rest zero fit end lt2 again y m g one two =
            rw (ending_is (step_of r) m true ((λ t. holds ada.equal (one t) (two t)) ∙ equal_numbers i last (end ∙ first_step r i)))
            (inside_paid Cell Keep fr Set 1 0 y (paid 1 (compared true m)) (inside_compared true (0 + 1) y m (inside_less Cell Keep fr Set 3 (0 + 1 + 2) y m (omega arith) g)))
        rest (suc k) fit end lt2 again y m g one two =
            rw (ending_is (step_of r) m false ((λ t. holds ada.equal (one t) (two t)) ∙ other_numbers i last (λ e. never_back r i k (sym end ∙ e))))
            (again k y (with_slot fr.fp fr.base (int_wrap w32 (slot_in fr.fp fr.base (paid 1 (compared false m)) +ℤ step_of r)) (paid 1 (paid 1 (compared false m)))) (omega (arith, lt2))
            (worked Cell Keep fr frame Set 0 fr.base (int_wrap w32 (slot_in fr.fp fr.base (paid 1 (compared false m)) +ℤ step_of r)) y (paid 1 (paid 1 (compared false m))) (omega arith) (omega (arith, room))
            (inside_paid Cell Keep fr Set 1 0 y (paid 1 (compared false m)) (inside_compared false (0 + 1) y m (inside_less Cell Keep fr Set 3 (0 + 1 + 2) y m (omega arith) g))))
            (with_slot_at fr.fp fr.base (int_wrap w32 (slot_in fr.fp fr.base (paid 1 (compared false m)) +ℤ step_of r)) (paid 1 (paid 1 (compared false m)))
            ∙ (ap (λ x. int_wrap w32 (x +ℤ step_of r)) (kept_slot fr.base false m (omega arith) ∙ one)
            ∙ int_wrap_fits w32 (i +ℤ step_of r) (subst (FitsSigned w32) (sym (one_step r i)) (fit 1 (omega arith)))))
            (with_slot_other fr.fp fr.base (fr.base + 1) (int_wrap w32 (slot_in fr.fp fr.base (paid 1 (compared false m)) +ℤ step_of r)) (paid 1 (paid 1 (compared false m)))
            (omega (arith, room, frame.room)) (omega (arith, room, frame.room)) (λ e. omega (arith, e)) ∙ (kept_slot (fr.base + 1) false m (omega arith) ∙ two))
            (end ∙ sym (next_step r i k)) (λ j le. subst (FitsSigned w32) (sym (next_step r i j)) (fit (suc j) (omega (arith, le)))))

    -- what a comparison of two slots chooses
    chosen_is : (rel : Relation) (h k : ℕ) (x y : Code) (v : kernel.World) (b : Bool) → holds (relation_of rel) (slot_in fr.fp h v) (slot_in fr.fp (h + 1) v) ≡ b
        → codes (and_op (simple (op.Compare rel k h (h + 1))) (single (choose k x y))) v
        ≡ (if b then codes x (paid 1 (with_slot fr.fp k (number_of_truth b) (paid 1 v))) else codes y (paid 1 (with_slot fr.fp k (number_of_truth b) (paid 1 v))))
    chosen_is rel h k x y v b is =
        ap (λ t. codes (single (choose k x y)) (with_slot fr.fp k (number_of_truth t) (paid 1 v))) is
        ∙ (single_does K kcalls fuel fr.width fr.fp fr.calls (choose k x y) u
        ∙ (ap (λ z. if is_true z then codes x (paid 1 u) else codes y (paid 1 u)) (with_slot_at fr.fp k (number_of_truth b) (paid 1 v)) ∙ truth b))
      where
        u : kernel.World
        u = with_slot fr.fp k (number_of_truth b) (paid 1 v)

        truth : (t : Bool) → (if is_true (number_of_truth t) then codes x (paid 1 u) else codes y (paid 1 u)) ≡ (if t then codes x (paid 1 u) else codes y (paid 1 u))
        truth true = refl
        truth false = refl

    -- a loop over the range between two numbers, which stand in the first two free slots
    pub range_does : (r : Bool) (b : Bounds) (each : Each) (w : World) (v : kernel.World) → FitsSigned w32 b.low → FitsSigned w32 b.high → In Set 5 w v
        → slot_in fr.fp fr.base v ≡ b.low → slot_in fr.fp (fr.base + 1) v ≡ b.high
        → Step Back looping Stop (In Set 0) (counted_between r b q body w) (codes (range_code fr.base (fr.base + 2) d r a) v)
    range_does r b each w v low high h first second = by_test r (int_le b.low b.high) refl
      where
        n : ℕ
        n = natural (b.high -ℤ b.low)

        few : n < fuel + 2 ^ 32
        few = few_turns b.low b.high fuel low high

        inside : (t : Bool) → In Set 3 w (paid 1 (compared t v))
        inside t = inside_compared t 3 w v h

        at_first : (t : Bool) → slot_in fr.fp fr.base (paid 1 (compared t v)) ≡ b.low
        at_first t = kept_slot fr.base t v (omega arith) ∙ first

        at_second : (t : Bool) → slot_in fr.fp (fr.base + 1) (paid 1 (compared t v)) ≡ b.high
        at_second t = kept_slot (fr.base + 1) t v (omega arith) ∙ second

        v0 : kernel.World
        v0 = paid 1 (compared true v)

        v1 : kernel.World
        v1 = with_slot fr.fp (fr.base + 2) (slot_in fr.fp fr.base v0) (paid 1 v0)

        v2 : kernel.World
        v2 = with_slot fr.fp fr.base (slot_in fr.fp (fr.base + 1) v1) (paid 1 v1)

        v3 : kernel.World
        v3 = with_slot fr.fp (fr.base + 1) (slot_in fr.fp (fr.base + 2) v2) (paid 1 v2)

        falling : Code
        falling =
            and_op (simple (op.Move (fr.base + 2) fr.base)) (and_op (simple (op.Move fr.base (fr.base + 1))) (and_op (simple (op.Move (fr.base + 1) (fr.base + 2)))
            (single (for_loop (counted_code fr.base (fr.base + 2) d (negsuc 0) a)))))

        by_test : (r t : Bool) → int_le b.low b.high ≡ t → Step Back looping Stop (In Set 0) (counted_between r b q body w) (codes (range_code fr.base (fr.base + 2) d r a) v)
        by_test false false is =
            rw (
              no_turn b.low b.high is,
              chosen_is relation.AtMost fr.base (fr.base + 2) (single (for_loop (counted_code fr.base (fr.base + 2) d (pos 1) a))) no_op v false
                  ((λ t. holds ada.at_most (first t) (second t)) ∙ is),
            )
            (inside_less Cell Keep fr Set 3 0 w (paid 1 (compared false v)) (omega arith) (inside false))
        by_test false true is =
            rw (
              some_turn b.low b.high is,
              chosen_is relation.AtMost fr.base (fr.base + 2) (single (for_loop (counted_code fr.base (fr.base + 2) d (pos 1) a))) no_op v true
                  ((λ t. holds ada.at_most (first t) (second t)) ∙ is),
              single_does K kcalls fuel fr.width fr.fp fr.calls (for_loop (counted_code fr.base (fr.base + 2) d (pos 1) a)) (paid 1 (compared true v)),
            )
            (turns_do false each n (fuel + 2 ^ 32) b.low b.high w (paid 1 (compared true v)) few (inside_less Cell Keep fr Set 3 0 w (paid 1 (compared true v)) (omega arith) (inside true))
            (at_first true) (at_second true) (reaches b.low b.high is) (λ m le. rising_fits b.low b.high m is le low high))
        by_test true false is =
            rw (no_turn b.low b.high is, chosen_is relation.AtMost fr.base (fr.base + 2) falling no_op v false ((λ t. holds ada.at_most (first t) (second t)) ∙ is))
            (inside_less Cell Keep fr Set 3 0 w (paid 1 (compared false v)) (omega arith) (inside false))
        by_test true true is =
            rw (
              some_turn b.low b.high is,
              chosen_is relation.AtMost fr.base (fr.base + 2) falling no_op v true ((λ t. holds ada.at_most (first t) (second t)) ∙ is),
              single_does K kcalls fuel fr.width fr.fp fr.calls (for_loop (counted_code fr.base (fr.base + 2) d (negsuc 0) a)) v3,
            )
            (turns_do true each n (fuel + 2 ^ 32) b.high b.low w v3 few
            (worked Cell Keep fr frame Set 0 (fr.base + 1) (slot_in fr.fp (fr.base + 2) v2) w (paid 1 v2) (omega arith) (omega (arith, room)) (inside_paid Cell Keep fr Set 1 0 w v2
            (worked Cell Keep fr frame Set 1 fr.base (slot_in fr.fp (fr.base + 1) v1) w (paid 1 v1) (omega arith) (omega (arith, room)) (inside_paid Cell Keep fr Set 1 1 w v1
            (worked Cell Keep fr frame Set 2 (fr.base + 2) (slot_in fr.fp fr.base v0) w (paid 1 v0) (omega arith) room (inside_paid Cell Keep fr Set 1 2 w v0 (inside true)))))))
            (with_slot_other fr.fp (fr.base + 1) fr.base (slot_in fr.fp (fr.base + 2) v2) (paid 1 v2) (omega (arith, room, frame.room)) (omega (arith, room, frame.room)) (λ e. omega (arith, e))
            ∙ (with_slot_at fr.fp fr.base (slot_in fr.fp (fr.base + 1) v1) (paid 1 v1)
            ∙ (with_slot_other fr.fp (fr.base + 2) (fr.base + 1) (slot_in fr.fp fr.base v0) (paid 1 v0) (omega (arith, room, frame.room)) (omega (arith, room, frame.room)) (λ e. omega (arith, e))
            ∙ at_second true)))
            (with_slot_at fr.fp (fr.base + 1) (slot_in fr.fp (fr.base + 2) v2) (paid 1 v2)
            ∙ (with_slot_other fr.fp fr.base (fr.base + 2) (slot_in fr.fp (fr.base + 1) v1) (paid 1 v1) (omega (arith, room, frame.room)) (omega (arith, room, frame.room)) (λ e. omega (arith, e))
            ∙ (with_slot_at fr.fp (fr.base + 2) (slot_in fr.fp fr.base v0) (paid 1 v0) ∙ at_first true)))
            (reaches_down b.low b.high is) (λ m le. falling_fits b.low b.high m is le low high))
