-- The code that sets an object does so.
use Rattle.std.proofs.Common.{◌≡◌, ◌≢◌, ℕ, zero, suc, ◌+◌, ◌*◌, ◌<◌, ◌≤◌, ◌^◌, nat_lt, ◌⊎◌, inl, inr, ℤ, pos, ◌+ℤ◌, Bool, true, false, FitsSigned, if◌then◌else◌, refl, sym, ap, subst, ◌∙◌, arith}
use Rattle.std.proofs.lemmas.Bool.Decides.{nat_tests}
use Rattle.std.proofs.lemmas.Int.{ints}
use Rattle.std.specs.Int.{w32, int_wrap}
use Rattle.ada_meaning.specs.Arithmetic.{count_between, is_within, number_of_truth, is_true, holds}
use Rattle.ada_meaning.specs.Calls.{Calls, check}
use Rattle.ada_meaning.specs.Expressions.{value, place}
use Rattle.ada_meaning.specs.Program.{Bounds, Program}
use Rattle.ada_meaning.specs.Resolved.{bounds_in, place_in}
use Rattle.ada_meaning.specs.Shape.{Shape, word, row, group, Shapes, no_shape, and_shape, each_from, copy_parts}
use Rattle.ada_meaning.specs.State.{Place, part_at, Store, set_at, World, Outcome, goes_to, Action, raise, done, set_word, with_store, ◌>>◌}
use Rattle.ada_meaning.specs.Statements.{sets}
use Rattle.ada_meaning.specs.Tree as tree
use Rattle.ada_meaning.specs.Types as ada
use Rattle.ada_resolved.specs.Sizes.{words, all_words}
use Rattle.kernel_ir.proofs.Joining.{joined_does, joined_nothing, single_does, goes_on_same}
use Rattle.kernel_ir.proofs.Memories.{with_word_other, with_slot_at, with_slot_other, copied_other}
use Rattle.kernel_ir.specs.declared.kernel.Kernel.{Kernel}
use Rattle.kernel_ir.specs.declared.simple.Simple.{Simple}
use Rattle.kernel_ir.specs.declared.simple.Simple.TheVariants as op
use Rattle.kernel_ir.specs.Meaning as code
use Rattle.kernel_ir.specs.Sequence.{joined}
use Rattle.kernel_ir.specs.Simple.{does_simple, if_valid, copied}
use Rattle.kernel_ir.specs.Tree.{simple, choose, for_loop, exit, Code, and_op}
use Rattle.kernel_ir.specs.World.{Memory, Ended, Ends, Exits, in_area, data_word, area_end, slot_word, slot_in, with_slot, with_word, with_memory, paid}
use Rattle.kernel_ir.specs.World as kernel
use Rattle.frame_widths.specs.Ends.{end_of_value}
use Rattle.frame_widths.proofs.Above.{end_is_above, parts_are_above}
use Rattle.statement_code.specs.Names.{names_in}
use Rattle.statement_code.specs.Calls.{MayCall}
use Rattle.statement_code.specs.Cells.{Cells, Each, Lies, AllLie, Within, With}
use Rattle.statement_code.specs.Frames.{rate, Frame, IsFrame, Inside, Failed, Runs}
use Rattle.statement_code.specs.Sets.{turn_code, next_code, left_at, set_code, IsPlainValue}
use Rattle.statement_code.specs.Stores.{each_store, copied_store, copied_stores, first_content, first_contents, after}
use Rattle.statement_code.specs.Values.{single, one, within, Home, address_at, part_shape, Stands, expr_code, parts_code, SeesIn, Site}
use Rattle.statement_code.proofs.Cells.{lies_more, set_more}
use Rattle.statement_code.proofs.Frames.{ticked, observed, inside_ticked, inside_paid, inside_less, inside_fewer, worked, stored, other_frame, AtStops, runs_stop, runs_are, runs_then}
use Rattle.statement_code.proofs.Stores.{copy_agrees, copy_parts_do, repeated_cost, in_parts}
use Rattle.statement_code.proofs.Operands.{in_area_is, wraps_sum, word_cell, word_ends, Held, Located}
use Rattle.statement_code.proofs.Values.{value_does, place_does}
use Rattle.statement_code.proofs.Operands as operands

pub in_or_behind : (R : Type 0) (c e : ℕ) → (c < e → R) → (e ≤ c → R) → R
in_or_behind R c e f g = by_test (nat_lt c e) refl
  where
    by_test : (b : Bool) → nat_lt c e ≡ b → R
    by_test true is = f (grind (arith, nat_tests, is))
    by_test false is = g (grind (arith, nat_tests, is))

-- each word of an object that lies in memory is a cell
each_covers : (n : ℕ) (i : ℤ) (a step : ℕ) (P : ℤ → ℕ → Type 0) (c : ℕ) (R : Type 0) → ((j : ℤ) (d : ℕ) → P j d → d ≤ c → c < d + step → R)
    → Each n i a step P → a ≤ c → c < a + n * step → R
each_covers zero i a step P c R f h low high = absurd (omega (arith, low, high))
each_covers (suc n) i a step P c R f h low high =
    in_or_behind R c (a + step) (λ lt. f i a h.0 low lt)
    (λ le. each_covers n (i +ℤ pos 1) (a + step) step P c R f h.1 le (omega (arith, high)))

abbrev IsCell : Cells → ℕ → Type 0
IsCell Cell c = (r : Place) × Cell r c

mutual
  pub lies_covers : (Cell : Cells) (s : Shape) (q : Place) (a c : ℕ) → Lies Cell s q a → a ≤ c → c < a + words s → IsCell Cell c
  lies_covers Cell (word b) q a c h low high =
      let here : a ≡ c = omega (arith, low, high) in
      (q, subst (Cell q) here h)
  lies_covers Cell (row b s) q a c h low high =
      each_covers (count_between b.low b.high) b.low a (words s) (λ i d. Lies Cell s (part_at i q) d) c (IsCell Cell c)
      (λ j d g le lt. lies_covers Cell s (part_at j q) d c g le lt) h low high
  lies_covers Cell (group ss) q a c h low high = all_cover Cell ss (pos 0) q a c h low high

  all_cover : (Cell : Cells) (ss : Shapes) (i : ℤ) (q : Place) (a c : ℕ) → AllLie Cell ss i q a → a ≤ c → c < a + all_words ss → IsCell Cell c
  all_cover Cell no_shape i q a c h low high = absurd (omega (arith, low, high))
  all_cover Cell (and_shape s ss) i q a c h low high =
      in_or_behind (IsCell Cell c) c (a + words s) (λ lt. lies_covers Cell s (part_at i q) a c h.0 low lt)
      (λ le. all_cover Cell ss (i +ℤ pos 1) q (a + words s) c h.1 le (omega (arith, high)))

-- what a copy, or first values, leave as it was: the places of other frames
pub each_store_keeps : (n : ℕ) (i : ℤ) (f : ℤ → Store → Store) (r : Place) → ((j : ℤ) (st : Store) → f j st r ≡ st r) → (st : Store) → each_store n i f st r ≡ st r
each_store_keeps zero i f r keeps st = refl
each_store_keeps (suc n) i f r keeps st = each_store_keeps n (i +ℤ pos 1) f r keeps (f i st) ∙ keeps i st

pub set_keeps : (q r : Place) (x : ℤ) (st : Store) → q.frame ≢ r.frame → set_at q x st r ≡ st r
set_keeps q r x st differ = ap (λ b. if b then x else st r) (other_frame r q differ)

mutual
  pub copied_keeps : (s : Shape) (p q r : Place) (st : Store) → q.frame ≢ r.frame → copied_store s p q st r ≡ st r
  copied_keeps (word b) p q r st differ = set_keeps q r (st p) st differ
  copied_keeps (row b s) p q r st differ =
      each_store_keeps (count_between b.low b.high) b.low (λ i. copied_store s (part_at i p) (part_at i q)) r
      (λ j x. copied_keeps s (part_at j p) (part_at j q) r x differ) st
  copied_keeps (group ss) p q r st differ = all_copied_keep ss (pos 0) p q r st differ

  all_copied_keep : (ss : Shapes) (i : ℤ) (p q r : Place) (st : Store) → q.frame ≢ r.frame → copied_stores ss i p q st r ≡ st r
  all_copied_keep no_shape i p q r st differ = refl
  all_copied_keep (and_shape s ss) i p q r st differ =
      all_copied_keep ss (i +ℤ pos 1) p q r (copied_store s (part_at i p) (part_at i q) st) differ ∙ copied_keeps s (part_at i p) (part_at i q) r st differ

more_each : (n k c : ℕ) → k ≤ c → n * k ≤ n * c
more_each zero k c le = omega arith
more_each (suc n) k c le = omega (arith, le, more_each n k c le)

-- a copy costs a unit for each word at least, and one
mutual
  pub words_cost : (s : Shape) → words s ≤ (first_content s).cost
  words_cost (word b) = omega arith
  words_cost (row b s) =
      omega (arith, repeated_cost (count_between b.low b.high) (first_content s), more_each (count_between b.low b.high) (words s) (first_content s).cost (words_cost s))
  words_cost (group ss) = omega (arith, all_words_cost ss)

  all_words_cost : (ss : Shapes) → all_words ss ≤ (first_contents ss).cost
  all_words_cost no_shape = omega arith
  all_words_cost (and_shape s ss) = omega (arith, words_cost s, all_words_cost ss)

pub costs_one : (s : Shape) → 1 ≤ (first_content s).cost
costs_one (word b) = omega arith
costs_one (row b s) = omega arith
costs_one (group ss) = omega arith

-- objects that stand among some cells stand among more
pub stands_more : (Cell More : Cells) → ((q : Place) (c : ℕ) → Cell q c → More q c) → (s : Shape) (q : Place) (a : ℕ) → Stands Cell s q a → Stands More s q a
stands_more Cell More among s q a h = record { lies = lies_more Cell More among s q a h.lies; low = h.low; high = h.high }

module _ (Cell : Cells) (Keep : ℕ → Type 0) (fr : Frame) (frame : IsFrame Cell Keep fr) where
  pub not_below : (q r : Place) → (q.frame ≡ 0) ⊎ (q.frame ≡ fr.depth) → 1 ≤ r.frame → r.frame < fr.depth → q.frame ≢ r.frame
  not_below q r (inl is) one less e = omega (arith, is, e, one)
  not_below q r (inr is) one less e = omega (arith, is, e, less)

  -- no word that is kept, and no free slot, is one of an object
  pub apart_from : (s : Shape) (q : Place) (a c : ℕ) → Lies Cell s q a → ((r : Place) → Cell r c → ⊥) → (c < a) ⊎ (a + words s ≤ c)
  apart_from s q a c h none =
      in_or_behind ((c < a) ⊎ (a + words s ≤ c)) c a (λ lt. inl lt)
      (λ low. in_or_behind ((c < a) ⊎ (a + words s ≤ c)) c (a + words s)
      (λ lt. let there = lies_covers Cell s q a c h low lt in absurd (none there.0 there.1)) (λ le. inr le))

  free_slot : (j : ℕ) → fr.base ≤ j → j < fr.width → (r : Place) → Cell r (slot_word fr.fp j) → ⊥
  free_slot j free room r h = frame.free r (slot_word fr.fp j) j h free (omega (arith, room)) refl

  -- an object is copied
  pub copied_in : (Set : ℕ → Type 0) (l : ℕ) (s : Shape) (p q : Place) (a b : ℕ) (w : World) (v : kernel.World)
      → (q.frame ≡ 0) ⊎ (q.frame ≡ fr.depth) → Lies (Within Cell Set) s p a → Lies Cell s q b → Inside Cell Keep fr Set l w v
      → Inside Cell Keep fr (With Set b (words s)) l (with_store (copied_store s p q w.store) w) (with_memory (copied (words s) a b v.memory) v)
  copied_in Set l s p q a b w v own from to h = record {
    depth_is = h.depth_is;
    input = h.input;
    agree = copy_agrees Cell frame.apart s Set p q a b w.store v.memory from to h.agree;
    words = λ c keep.
        copied_other (words s) a b c v.memory (apart_from s q b c to (λ r cell. frame.unkept r c cell keep)) ∙ h.words c keep;
    kept = λ r one less. copied_keeps s p q r w.store (not_below q r own one less) ∙ h.kept r one less;
    seen = h.seen;
  }

  -- free slots are as they were
  pub copied_slot : (s : Shape) (q : Place) (a b j : ℕ) (v : kernel.World) → Lies Cell s q b → fr.base ≤ j → j < fr.width
      → slot_in fr.fp j (with_memory (copied (words s) a b v.memory) v) ≡ slot_in fr.fp j v
  copied_slot s q a b j v to free room =
      copied_other (words s) a b (slot_word fr.fp j) v.memory (apart_from s q b (slot_word fr.fp j) to (free_slot j free room))

  pub stored_slot : (q : Place) (a j : ℕ) (x : ℤ) (v : kernel.World) → Cell q a → fr.base ≤ j → j < fr.width
      → slot_in fr.fp j (with_memory (with_word a x v.memory) v) ≡ slot_in fr.fp j v
  stored_slot q a j x v there free room =
      with_word_other a (slot_word fr.fp j) x v.memory (λ e. frame.free q a j there free (omega (arith, room)) (sym e))

module _ (p : Program) (calls : Calls) (inst : ℕ) (K : Kernel) (kcalls : code.Calls) (fuel : ℕ) (Cell : Cells) (Keep : ℕ → Type 0) (fr : Frame)
    (frame : IsFrame Cell Keep fr) (shape_of : tree.Object → Shape) (home_of : tree.Object → Home) (site : Site) (Bodies : Bool → ℕ → ℕ → Type 0) (Library : Cells)
    (may : MayCall p calls kcalls Library site Bodies Cell Keep fr) (Sees : tree.Object → Type 0) where
  abbrev does : Simple → kernel.World → Ended
  does s v = does_simple K.layouts K.exceptions fr.fp s v

  abbrev codes : Code → kernel.World → Ended
  codes a v = code.does_code K kcalls fuel fr.width fr.fp fr.calls a v

  abbrev In : (ℕ → Type 0) → ℕ → World → kernel.World → Type 0
  In Set l w v = Inside Cell Keep fr Set l w v

  abbrev Stop : (ℕ → Type 0) → ℕ → World → kernel.World → Type 0
  Stop Set = Failed Cell Keep fr Set

  -- the objects that are visible stand in memory, and were set
  abbrev pub See : (ℕ → Type 0) → Type 0
  See Set = SeesIn p inst shape_of home_of site Bodies Sees (Within Cell Set) fr.fp fr.depth

  pub sees_more : (Set More : ℕ → Type 0) → ((c : ℕ) → Set c → More c) → See Set → See More
  sees_more Set More among sees o g =
      stands_more (Within Cell Set) (Within Cell More) (λ q c h. (h.0, set_more Set More among q c h.1)) (shape_of o) (place_in p inst fr.depth o) (address_at fr.fp (home_of o)) (sees o g)

  -- the free slots below j are as they were, but for the slot k
  abbrev Spared : (k j : ℕ) → (start v : kernel.World) → Type 0
  Spared k j start v = (i : ℕ) → fr.base ≤ i → i < j → i ≢ k → slot_in fr.fp i v ≡ slot_in fr.fp i start

  -- words were set, and an address stands in the slot k
  pub record SetTo (Set : ℕ → Type 0) (l k j address : ℕ) (start : kernel.World) (w : World) (v : kernel.World) : Type 0 where
    pub inside : In Set l w v
    pub slot : slot_in fr.fp k v ≡ pos address
    pub same : Spared k j start v

  -- fewer words are said to be set where an exception leaves
  pub stop_fewer : (Set Some : ℕ → Type 0) (x : ℕ) (w : World) (v : kernel.World) → ((c : ℕ) → Some c → Set c) → Stop Set x w v → Stop Some x w v
  stop_fewer Set Some x w v among h = (h.0, inside_fewer Cell Keep fr Set Some 0 w v among h.1)

  -- a value is checked and stored
  pub stores : (Set : ℕ → Type 0) (l k j a : ℕ) (b : Bounds) (x : ℤ) (q : Place) (start : kernel.World) (w : World) (v : kernel.World) → fr.base ≤ k → k < j → j < fr.width
      → In Set l w v → slot_in fr.fp k v ≡ pos a → slot_in fr.fp j v ≡ x → (is_within b x ≡ true → FitsSigned w32 x) → Spared k j start v → Cell q a → data_word ≤ a → a + 1 ≤ area_end → 1 ≤ l
      → Runs {A = Unit {0}} (Stop Set) (λ u. SetTo (With Set a 1) (l + 5) k j a start) (goes_to (check b x w) (λ u. set_word q x))
      (codes (and_op (simple (within j b)) (one (op.Store k j))) v)
  stores Set l k j a b x q start w v free less room h here value fits same cell low high enough = rw value (by_test (is_within b x) refl)
    where
      v2 : kernel.World
      v2 = paid 1 (paid 1 v)

      kept : (i : ℕ) → fr.base ≤ i → i < j → i ≢ k → slot_in fr.fp i (with_memory (with_word a x v2.memory) v2) ≡ slot_in fr.fp i start
      kept i ge lt differ = stored_slot Cell Keep fr frame q a i x v2 cell ge (omega (arith, lt, room)) ∙ same i ge lt differ

      by_test : (t : Bool) → is_within b x ≡ t → Runs {A = Unit {0}} (Stop Set) (λ u. SetTo (With Set a 1) (l + 5) k j a start) (goes_to ((if t then done else raise 1) w) (λ u. set_word q x))
          (kernel.goes_on (if_valid t (λ u. u) v) (codes (one (op.Store k j))))
      by_test false is = (
        refl,
        (
          (omega arith, omega (arith, frame.predefined)),
          inside_paid Cell Keep fr Set 1 0 w v (inside_less Cell Keep fr Set l (0 + 1) w v (omega (arith, enough)) h),
        ),
      )
      by_test true is = rw (here, value, in_area_is a 1 low high) (record {
        inside = stored Cell Keep fr frame Set (l + 5) q a x (ticked w) v2 (fits is) cell
            (inside_paid Cell Keep fr Set 1 (l + 5) (ticked w) (paid 1 v) (inside_paid Cell Keep fr Set 1 (l + 5 + 1) (ticked w) v
            (inside_less Cell Keep fr Set (l + rate) (l + 5 + 1 + 1) (ticked w) v (omega arith) (inside_ticked Cell Keep fr Set l w v h))));
        slot = stored_slot Cell Keep fr frame q a k x v2 cell free (omega (arith, less, room)) ∙ here;
        same = kept;
      })

  -- an object is copied to the one whose address stands in the slot k
  copies : (Set : ℕ → Type 0) (l k j a : ℕ) (s : Shape) (from q : Place) (b : ℕ) (start : kernel.World) (w : World) (v : kernel.World) → fr.base ≤ k → k < j → j < fr.width
      → In Set l w v → slot_in fr.fp k v ≡ pos a → slot_in fr.fp j v ≡ pos b → Spared k j start v → Stands (Within Cell Set) s from b → Stands Cell s q a
      → (q.frame ≡ 0) ⊎ (q.frame ≡ fr.depth)
      → Runs {A = Unit {0}} (Stop Set) (λ u. SetTo (With Set a (words s)) l k j a start) (copy_parts s from q w) (does (op.Copy k j (words s)) v)
  copies Set l k j a s from q b start w v free less room h here there same read to own =
      rw (copy_parts_do s from q w, here, there, in_area_is a (words s) to.low to.high, in_area_is b (words s) read.low read.high) (record {
        inside = copied_in Cell Keep fr frame Set l s from q b a w2 v2 own read.lies to.lies
            (observed Cell Keep fr Set l l w v w2.seen v2.seen h
            (record { events = h.seen.events; output = h.seen.output; cost = omega (arith, h.seen.cost, words_cost s, costs_one s) }));
        slot = copied_slot Cell Keep fr frame s q b a k v2 to.lies free (omega (arith, less, room)) ∙ here;
        same = λ i ge lt differ. copied_slot Cell Keep fr frame s q b a i v2 to.lies ge (omega (arith, lt, room)) ∙ same i ge lt differ;
      })
    where
      w2 : World
      w2 = after w.store (first_content s).cost w

      v2 : kernel.World
      v2 = paid (words s + 1) v

  -- a free slot is set: the address in the slot k is moved on
  moved : (Set : ℕ → Type 0) (l k j a n b : ℕ) (start : kernel.World) (w : World) (v : kernel.World) → fr.base ≤ k → k < j → j < fr.width → a + n ≡ b → b ≤ area_end
      → SetTo Set (l + 1) k j a start w v → SetTo Set l k j b start w (with_slot fr.fp k (int_wrap w32 (slot_in fr.fp k v +ℤ pos n)) (paid 1 v))
  moved Set l k j a n b start w v free less room sum end h = record {
    inside = worked Cell Keep fr frame Set l k y w (paid 1 v) free (omega (arith, less, room)) (inside_paid Cell Keep fr Set 1 l w v h.inside);
    slot = with_slot_at fr.fp k y (paid 1 v) ∙ wraps_sum (slot_in fr.fp k v) (pos n) a n h.slot refl (omega (arith, sum, end)) ∙ ap pos sum;
    same = λ i ge lt differ.
        with_slot_other fr.fp k i y (paid 1 v) (omega (arith, less, room, frame.room)) (omega (arith, lt, room, frame.room)) differ ∙ h.same i ge lt differ;
  }
    where
      y : ℤ
      y = int_wrap w32 (slot_in fr.fp k v +ℤ pos n)

  -- one more operation behind code
  then_does : (a : Code) (s : Simple) (v : kernel.World) → codes (joined a (one s)) v ≡ kernel.goes_on (codes a v) (does s)
  then_does a s v =
      joined_does K kcalls fuel fr.width fr.fp fr.calls a (one s) v
      ∙ goes_on_same (codes a v) _ _ (single_does K kcalls fuel fr.width fr.fp fr.calls (simple s))

  behind : (Set : ℕ → Type 0) (l k j a n b : ℕ) (code_of : Code) (start v : kernel.World) (r : Outcome (Unit {0})) → fr.base ≤ k → k < j → j < fr.width
      → a + n ≡ b → b ≤ area_end
      → Runs (Stop Set) (λ u. SetTo (With Set a n) (l + 5) k j a start) r (codes code_of v)
      → Runs (Stop Set) (λ u. SetTo (With Set a n) (l + 4) k j b start) r (codes (joined code_of (one (op.Advance k k (pos n)))) v)
  behind Set l k j a n b code_of start v r free less room sum end h =
      rw (then_does code_of (op.Advance k k (pos n)) v)
      (runs_are (Stop Set) (λ u. SetTo (With Set a n) (l + 5) k j a start)
      (λ o e. Runs (Stop Set) (λ u. SetTo (With Set a n) (l + 4) k j b start) o (kernel.goes_on e (does (op.Advance k k (pos n)))))
      (record { raises = λ x y w m same stop. (same, stop); cut = λ w m seen. seen })
      (λ u w m g. moved (With Set a n) (l + 4) k j a n b start w m free less room sum end
      (record { inside = inside_less Cell Keep fr (With Set a n) (l + 5) (l + 4 + 1) w m (omega arith) g.inside; slot = g.slot; same = g.same }))
      r (codes code_of v) h)

  -- behind code that set a component, the slot k holds the address of the next one
  next_does : (Set : ℕ → Type 0) (x : tree.NewValue) (l k j a : ℕ) (s : Shape) (code_of : Code) (start v : kernel.World) (r : Outcome (Unit {0})) → fr.base ≤ k → k < j → j < fr.width
      → a + words s ≤ area_end
      → Runs (Stop Set) (λ u. SetTo (With Set a (words s)) (l + 5) k j (left_at s x a) start) r (codes code_of v)
      → Runs (Stop Set) (λ u. SetTo (With Set a (words s)) (l + 4) k j (a + words s) start) r (codes (joined code_of (next_code k s x)) v)
  next_does Set (tree.scalar_value t e) l k j a s code_of start v r free less room end h =
      behind Set l k j a (words s) (a + words s) code_of start v r free less room refl end h
  next_does Set (tree.composite_value t o parts) l k j a s code_of start v r free less room end h =
      behind Set l k j a (words s) (a + words s) code_of start v r free less room refl end h
  next_does Set (tree.others_value t x) l k j a s code_of start v r free less room end h =
      rw (joined_nothing code_of)
      (runs_are (Stop Set) (λ u. SetTo (With Set a (words s)) (l + 5) k j (a + words s) start) (Runs (Stop Set) (λ u. SetTo (With Set a (words s)) (l + 4) k j (a + words s) start))
      (runs_stop (Stop Set) (λ u. SetTo (With Set a (words s)) (l + 4) k j (a + words s) start))
      (λ u w m g. record { inside = inside_less Cell Keep fr (With Set a (words s)) (l + 5) (l + 4) w m (omega arith) g.inside; slot = g.slot; same = g.same })
      r (codes code_of v) h)

  -- what is compared before each turn
  abbrev compared : (k j : ℕ) → Bool → kernel.World → kernel.World
  compared k j b v = with_slot fr.fp (j + 1) (number_of_truth b) (paid 1 v)

  turn_is : (k j : ℕ) (a : Code) (v : kernel.World) (b : Bool) → holds ada.equal (slot_in fr.fp k v) (slot_in fr.fp j v) ≡ b
      → codes (turn_code k j a) v
      ≡ (if b then codes (single exit) (paid 1 (compared k j b v)) else codes a (paid 1 (compared k j b v)))
  turn_is k j a v b is =
      ap (λ t. codes (single (choose (j + 1) (single exit) a)) (compared k j t v)) is
      ∙ (single_does K kcalls fuel fr.width fr.fp fr.calls (choose (j + 1) (single exit) a) (compared k j b v)
      ∙ (ap (λ x. if is_true x then codes (single exit) (paid 1 (compared k j b v)) else codes a (paid 1 (compared k j b v)))
      (with_slot_at fr.fp (j + 1) (number_of_truth b) (paid 1 v)) ∙ truth b))
    where
      truth : (b : Bool) → (if is_true (number_of_truth b) then codes (single exit) (paid 1 (compared k j b v)) else codes a (paid 1 (compared k j b v)))
          ≡ (if b then codes (single exit) (paid 1 (compared k j b v)) else codes a (paid 1 (compared k j b v)))
      truth true = refl
      truth false = refl

  -- how a component is set, from each set of words on
  abbrev SetsOne : Shape → tree.NewValue → (k j : ℕ) → Place → Type 1
  SetsOne s x k j q =
      (Set : ℕ → Type 0) → See Set → (i : ℤ) (l a : ℕ) (w : World) (v : kernel.World) → In Set l w v → slot_in fr.fp k v ≡ pos a → Stands Cell s (part_at i q) a
      → Runs (Stop Set) (λ u. SetTo (With Set a (words s)) (l + 4) k (j + 1) (a + words s) v) (sets p calls fuel inst x (part_at i q) w)
      (codes (joined (set_code (names_in p inst) shape_of home_of site k (j + 1) s x) (next_code k s x)) v)

  -- a turn goes on with those that follow
  runs_turn : {A : Type 0} (Before : ℕ → World → kernel.World → Type 0) (After : Unit {0} → World → kernel.World → Type 0) (R : Outcome A → Ended → Type 0)
      → AtStops Before R → (f : Unit {0} → Action A) (g : kernel.World → Ended) → ((u : Unit {0}) (w : World) (v : kernel.World) → After u w v → R (f u w) (g v))
      → (r : Outcome (Unit {0})) (e : Ended) → Runs Before After r e → R (goes_to r f) (code.after_turn e g)
  runs_turn Before After R stops f g next =
      runs_are Before After (λ r e. R (goes_to r f) (code.after_turn e g)) (record { raises = stops.raises; cut = stops.cut }) next

  module _ (s : Shape) (x : tree.NewValue) (k j : ℕ) (q : Place) (one_does : SetsOne s x k j q) (has : 1 ≤ words s) (free : fr.base ≤ k) (less : k < j) (room : j + 1 < fr.width) where
    abbrev turn : Code
    turn = joined (set_code (names_in p inst) shape_of home_of site k (j + 1) s x) (next_code k s x)

    other_slot : (i : ℕ) (b : Bool) (v : kernel.World) → i < j + 1 → slot_in fr.fp i (paid 1 (compared k j b v)) ≡ slot_in fr.fp i v
    other_slot i b v lt =
        with_slot_other fr.fp (j + 1) i (number_of_truth b) (paid 1 v) (omega (arith, room, frame.room)) (omega (arith, lt, room, frame.room)) (λ e. omega (arith, e, lt))

    inside_compared : (Set : ℕ → Type 0) (l : ℕ) (b : Bool) (w : World) (v : kernel.World) → In Set (l + 3) w v → In Set l w (paid 1 (compared k j b (paid 1 v)))
    inside_compared Set l b w v h =
        inside_paid Cell Keep fr Set 1 l w (compared k j b (paid 1 v))
        (worked Cell Keep fr frame Set (l + 1) (j + 1) (number_of_truth b) w (paid 1 (paid 1 v)) (omega (arith, free, less)) room
        (inside_paid Cell Keep fr Set 1 (l + 1) w (paid 1 v) (inside_paid Cell Keep fr Set 1 (l + 1 + 1) w v
        (inside_less Cell Keep fr Set (l + 3) (l + 1 + 1 + 1) w v (omega arith) h))))

    equal_is : (v : kernel.World) (a b : ℕ) (t : Bool) → slot_in fr.fp k v ≡ pos a → slot_in fr.fp j v ≡ pos b → holds ada.equal (pos a) (pos b) ≡ t
        → holds ada.equal (slot_in fr.fp k v) (slot_in fr.fp j v) ≡ t
    equal_is v a b t h g is = (λ i. holds ada.equal (h i) (g i)) ∙ is

    -- the components that are left are set
    components_do : (n more : ℕ) (start : kernel.World) (Set : ℕ → Type 0) (i : ℤ) (l a end : ℕ) (w : World) (v : kernel.World) → n < more → See Set
        → In Set (l + 4) w v → slot_in fr.fp k v ≡ pos a → slot_in fr.fp j v ≡ pos end → end ≡ a + n * words s
        → Each n i a (words s) (λ m c. Lies Cell s (part_at m q) c) → data_word ≤ a → end ≤ area_end → Spared k j start v
        → Runs (Stop Set) (λ u. SetTo (With Set a (n * words s)) l k j end start)
        (each_from n i (λ m. sets p calls fuel inst x (part_at m q)) w) (code.turns more (codes (turn_code k j turn)) v)
    components_do n zero start Set i l a end w v lt see h here there last lies low high same = absurd (omega (arith, lt))
    components_do zero (suc more) start Set i l a end w v lt see h here there last lies low high same =
        let all : a ≡ end = omega (arith, last) in
        rw (turn_is k j turn (paid 1 v) true (equal_is (paid 1 v) a end true here there (same_numbers a end all))) (record {
          inside = inside_fewer Cell Keep fr Set (With Set a (0 * words s)) l w _ (λ c more. none a c more)
              (inside_paid Cell Keep fr Set 1 l w _ (inside_compared Set (l + 1) true w v (inside_less Cell Keep fr Set (l + 4) (l + 1 + 3) w v (omega arith) h)));
          slot = other_slot k true (paid 1 v) (omega (arith, less)) ∙ (here ∙ ap pos all);
          same = λ m ge lt differ. other_slot m true (paid 1 v) (omega (arith, lt)) ∙ same m ge lt differ;
        })
      where
        same_numbers : (a b : ℕ) → a ≡ b → holds ada.equal (pos a) (pos b) ≡ true
        same_numbers a b is = grind (arith, ints, nat_tests, is)

        none : (a c : ℕ) → With Set a (0 * words s) c → Set c
        none a c (inl set) = set
        none a c (inr within) = absurd (omega (arith, within.0, within.1))
    components_do (suc n) (suc more) start Set i l a end w v lt see h here there last lies low high same =
        rw (turn_is k j turn (paid 1 v) false (equal_is (paid 1 v) a end false here there (other_numbers a end (omega (arith, last, has)))))
        (runs_turn (Stop Set) (λ u. SetTo (With Set a (words s)) (l + 1 + 4) k (j + 1) (a + words s) (paid 1 (compared k j false (paid 1 v))))
        (Runs (Stop Set) (λ u. SetTo (With Set a (suc n * words s)) l k j end start)) (runs_stop (Stop Set) (λ u. SetTo (With Set a (suc n * words s)) l k j end start))
        (λ u. each_from n (i +ℤ pos 1) (λ m. sets p calls fuel inst x (part_at m q))) (code.turns more (codes (turn_code k j turn)))
        (λ u y m g. runs_are (Stop (With Set a (words s))) (λ u. SetTo (With (With Set a (words s)) (a + words s) (n * words s)) l k j end start)
        (Runs (Stop Set) (λ u. SetTo (With Set a (suc n * words s)) l k j end start))
        (record { raises = λ e f w v same stop. (same, stop_fewer (With Set a (words s)) Set e w v (λ c set. inl set) stop); cut = λ w v seen. seen })
        (λ u w v r. record {
          inside = inside_fewer Cell Keep fr (With (With Set a (words s)) (a + words s) (n * words s)) (With Set a (suc n * words s)) l w v
              (λ c set. in_parts Set a (words s) (n * words s) c (subst (λ m. With Set a m c) one set)) r.inside;
          slot = r.slot;
          same = r.same;
        })
        (each_from n (i +ℤ pos 1) (λ m. sets p calls fuel inst x (part_at m q)) y) (code.turns more (codes (turn_code k j turn)) m)
        (components_do n more start (With Set a (words s)) (i +ℤ pos 1) l (a + words s) end y m (omega (arith, lt)) (sees_more Set (With Set a (words s)) (λ c set. inl set) see)
        (inside_less Cell Keep fr (With Set a (words s)) (l + 1 + 4) (l + 4) y m (omega arith) g.inside) g.slot
        (g.same j (omega (arith, free, less)) (omega arith) (λ e. omega (arith, e, less)) ∙ (other_slot j false (paid 1 v) (omega arith) ∙ there))
        (omega (arith, last)) lies.1 (omega (arith, low)) high
        (λ m ge lt differ. g.same m ge (omega (arith, lt)) differ ∙ (other_slot m false (paid 1 v) (omega (arith, lt)) ∙ same m ge lt differ))))
        (sets p calls fuel inst x (part_at i q) w) (codes turn (paid 1 (compared k j false (paid 1 v))))
        (one_does Set see i (l + 1) a w (paid 1 (compared k j false (paid 1 v)))
        (inside_compared Set (l + 1) false w v (inside_less Cell Keep fr Set (l + 4) (l + 1 + 3) w v (omega arith) h))
        (other_slot k false (paid 1 v) (omega (arith, less)) ∙ here)
        (record { lies = lies.0; low = low; high = omega (arith, high, last) })))
      where
        other_numbers : (a b : ℕ) → a < b → holds ada.equal (pos a) (pos b) ≡ false
        other_numbers a b less = grind (arith, ints, nat_tests, less)

        one : suc n * words s ≡ words s + n * words s
        one = omega arith

  count_small : (n k a : ℕ) → a + n * k ≤ area_end → 1 ≤ k → n < fuel + 2 ^ 32
  count_small n k a end has = omega (arith, end, at_least n k has)
    where
      at_least : (n k : ℕ) → 1 ≤ k → n ≤ n * k
      at_least zero k has = omega arith
      at_least (suc n) k has = omega (arith, has, at_least n k has)

  -- an object is set to a value
  pub set_does : (x : tree.NewValue) (s : Shape) (Set : ℕ → Type 0) (l k j a : ℕ) (q : Place) (w : World) (v : kernel.World) → IsPlainValue p inst shape_of home_of site Bodies Sees s x
      → fr.base ≤ k → k < j → end_of_value j x ≤ fr.width → See Set → In Set l w v → slot_in fr.fp k v ≡ pos a → Stands Cell s q a
      → (q.frame ≡ 0) ⊎ (q.frame ≡ fr.depth)
      → Runs (Stop Set) (λ u. SetTo (With Set a (words s)) (l + 5) k j (left_at s x a) v) (sets p calls fuel inst x q w)
      (codes (set_code (names_in p inst) shape_of home_of site k j s x) v)
  set_does (tree.scalar_value r e) s Set l k j a q w v plain free less room see h here stands own =
      let single_word = word_ends s plain.0 in
      rw (joined_does K kcalls fuel fr.width fr.fp fr.calls (expr_code (names_in p inst) shape_of home_of site j e) (and_op (simple (within j (bounds_in p inst r))) (one (op.Store k j))) v, single_word)
      (runs_then (Stop Set) (operands.Held p calls inst K kcalls fuel Cell Keep fr frame Set shape_of home_of site Bodies Library may Sees see (l + 2) j v)
      (Runs (Stop Set) (λ u. SetTo (With Set a 1) (l + 5) k j a v)) (runs_stop (Stop Set) (λ u. SetTo (With Set a 1) (l + 5) k j a v))
      (λ x. check (bounds_in p inst r) x >> set_word q x)
      (codes (and_op (simple (within j (bounds_in p inst r))) (one (op.Store k j))))
      (λ x u m g. runs_are (Stop Set) (λ u. SetTo (With Set a 1) (l + 2 + 5) k j a v) (Runs (Stop Set) (λ u. SetTo (With Set a 1) (l + 5) k j a v))
      (runs_stop (Stop Set) (λ u. SetTo (With Set a 1) (l + 5) k j a v))
      (λ t y n i. record { inside = inside_less Cell Keep fr (With Set a 1) (l + 2 + 5) (l + 5) y n (omega arith) i.inside; slot = i.slot; same = i.same }) _ _
      (stores Set (l + 2) k j a (bounds_in p inst r) x q v u m free less (omega (arith, room, end_is_above j e)) g.inside (g.below k less ∙ here) g.slot (λ is. g.word)
      (λ i ge lt differ. g.below i lt) (word_cell Cell s q a plain.0 stands.lies) stands.low (omega (arith, stands.high, single_word)) (omega arith)))
      (value p calls inst e (ticked w)) (codes (expr_code (names_in p inst) shape_of home_of site j e) v)
      (value_does p calls inst K kcalls fuel Cell Keep fr frame Set shape_of home_of site Bodies Library may Sees see e l j (ticked w) v plain.1 (omega (arith, free, less)) room
      (inside_less Cell Keep fr Set (l + rate) l (ticked w) v (omega arith) (inside_ticked Cell Keep fr Set l w v h))))
  set_does (tree.composite_value t o parts) s Set l k j a q w v plain free less room see h here stands own =
      let small : j < fr.width = omega (arith, room, parts_are_above j parts) in
      rw (
        operands.addressed_is p calls inst K kcalls fuel Cell Keep fr frame Set shape_of home_of site Bodies Library may Sees see (home_of o) j
            (joined (parts_code (names_in p inst) shape_of home_of site j (shape_of o) parts) (one (op.Copy k j (words s)))) v,
        then_does (parts_code (names_in p inst) shape_of home_of site j (shape_of o) parts) (op.Copy k j (words s)) (with_slot fr.fp j (pos (address_at fr.fp (home_of o))) (paid 1 v)),
        plain.1.1.1,
      )
      (runs_then (Stop Set) (operands.Located p calls inst K kcalls fuel Cell Keep fr frame Set shape_of home_of site Bodies Library may Sees see (part_shape (shape_of o) parts) (l + 5) j v)
      (Runs (Stop Set) (λ u. SetTo (With Set a (words s)) (l + 5) k j a v)) (runs_stop (Stop Set) (λ u. SetTo (With Set a (words s)) (l + 5) k j a v))
      (λ from. copy_parts s from q) (does (op.Copy k j (words s)))
      (λ from u m g. copies Set (l + 5) k j a s from q g.address v u m free less small g.inside (g.below k less ∙ here) g.slot (λ i ge lt differ. g.below i lt)
      (subst (λ z. Stands (Within Cell Set) z from g.address) plain.1.1.0 g.stands) stands own)
      (place p calls inst parts (place_in p inst w.depth o) (ticked w))
      (codes (parts_code (names_in p inst) shape_of home_of site j (shape_of o) parts) (with_slot fr.fp j (pos (address_at fr.fp (home_of o))) (paid 1 v)))
      (place_does p calls inst K kcalls fuel Cell Keep fr frame Set shape_of home_of site Bodies Library may Sees see parts (shape_of o) (l + 5) j v (ticked w)
      (with_slot fr.fp j (pos (address_at fr.fp (home_of o))) (paid 1 v)) (place_in p inst w.depth o) plain.1.0 (omega (arith, free, less)) room
      (operands.located_first p calls inst K kcalls fuel Cell Keep fr frame Set shape_of home_of site Bodies Library may Sees see o (l + 5) j (ticked w) v plain.0 (omega (arith, free, less)) small
      (inside_less Cell Keep fr Set (l + rate) (l + 5 + 1) (ticked w) v (omega arith) (inside_ticked Cell Keep fr Set l w v h)))))
  set_does (tree.others_value r x) (row b s) Set l k j a q w v plain free less room see h here stands own =
      rw (plain.0, single_does K kcalls fuel fr.width fr.fp fr.calls (for_loop (turn_code k j (joined (set_code (names_in p inst) shape_of home_of site k (j + 1) s x) (next_code k s x)))) v1)
      (components_do s x k j q
      (λ more seen i m c u t g at lie. next_does more x m k (j + 1) c s (set_code (names_in p inst) shape_of home_of site k (j + 1) s x) t t (sets p calls fuel inst x (part_at i q) u)
      free (omega (arith, less)) small lie.high
      (set_does x s more m k (j + 1) c (part_at i q) u t plain.1.1 free (omega (arith, less)) (omega (arith, room)) seen g at lie own))
      plain.1.0 free less small (count_between b.low b.high) (fuel + 2 ^ 32) v Set b.low (l + 5) a (a + words (row b s)) (ticked w) v1
      (count_small (count_between b.low b.high) (words s) a stands.high plain.1.0) see
      (worked Cell Keep fr frame Set (l + 5 + 4) j y (ticked w) (paid 1 v) (omega (arith, free, less)) (omega (arith, small)) (inside_paid Cell Keep fr Set 1 (l + 5 + 4) (ticked w) v
      (inside_less Cell Keep fr Set (l + rate) (l + 5 + 4 + 1) (ticked w) v (omega arith) (inside_ticked Cell Keep fr Set l w v h))))
      (other k less ∙ here) (with_slot_at fr.fp j y (paid 1 v) ∙ wraps_sum (slot_in fr.fp k v) (pos (words (row b s))) a (words (row b s)) here refl stands.high) refl
      stands.lies stands.low stands.high (λ i ge lt differ. other i lt))
    where
      y : ℤ
      y = int_wrap w32 (slot_in fr.fp k v +ℤ pos (words (row b s)))

      v1 : kernel.World
      v1 = with_slot fr.fp j y (paid 1 v)

      small : j + 1 < fr.width
      small = omega (arith, room)

      other : (i : ℕ) → i < j → slot_in fr.fp i v1 ≡ slot_in fr.fp i v
      other i lt = with_slot_other fr.fp j i y (paid 1 v) (omega (arith, small, frame.room)) (omega (arith, lt, small, frame.room)) (λ e. omega (arith, e, lt))
  set_does (tree.others_value r x) (word b) Set l k j a q w v plain free less room see h here stands own = absurd plain
  set_does (tree.others_value r x) (group ss) Set l k j a q w v plain free less room see h here stands own = absurd plain
