-- What first values and copies do to a store, and to a memory that agrees with it.
use Rattle.std.proofs.Common.{◌≡◌, ℕ, zero, suc, ◌+◌, ◌*◌, nat_lt, Bool, true, false, inl, inr, ℤ, pos, ◌+ℤ◌, FitsSigned, List, [], ◌∷◌, ◌++◌, length, refl, sym, ap, subst, ◌∙◌, arith}
use Rattle.std.proofs.lemmas.Bool.Decides.{nat_tests}
use Rattle.std.proofs.lemmas.List.{length-append}
use Rattle.std.specs.Int.{w32}
use Rattle.ada_meaning.specs.Arithmetic.{count_between}
use Rattle.ada_meaning.specs.Shape.{Shape, word, row, group, Shapes, no_shape, and_shape, each_from, each_in, set_first, set_firsts, copy_parts, copy_components}
use Rattle.ada_meaning.specs.State.{Place, part_at, Store, set_at, World, Gives, goes_to, Action, done, tick, set_word}
use Rattle.ada_resolved.specs.Sizes.{words, all_words}
use Rattle.kernel_ir.specs.Layouts.{Content, repeated}
use Rattle.kernel_ir.specs.Simple.{copied, filled}
use Rattle.kernel_ir.specs.World.{Memory, with_word}
use Rattle.statement_code.specs.Cells.{Cells, Each, Lies, AllLie, AreApart, Agree, Within, With}
use Rattle.statement_code.specs.Stores.{each_store, first_store, first_stores, copied_store, copied_stores, first_content, first_contents, HasWords, HaveWords, after}
use Rattle.statement_code.proofs.Cells.{each_more, cell_set, fewer, lies_more, all_lie_more, set_more}

-- words are filled in, and copied, in two steps
filled_both : (xs ys : List ℤ) (a : ℕ) (m : Memory) → filled (xs ++ ys) a m ≡ filled ys (a + length xs) (filled xs a m)
filled_both [] ys a m = ap (λ b. filled ys b m) there
  where
    there : a ≡ a + 0
    there = omega arith
filled_both (x ∷ xs) ys a m =
    filled_both xs ys (a + 1) (with_word a x m) ∙ ap (λ b. filled ys b (filled xs (a + 1) (with_word a x m))) there
  where
    there : a + 1 + length xs ≡ a + suc (length xs)
    there = omega arith

copied_both : (n k from to : ℕ) (m : Memory) → copied (n + k) from to m ≡ copied k (from + n) (to + n) (copied n from to m)
copied_both zero k from to m = λ t. copied (none t) (at from t) (at to t) m
  where
    none : 0 + k ≡ k
    none = omega arith

    at : (a : ℕ) → a ≡ a + 0
    at a = omega arith
copied_both (suc n) k from to m =
    ap (λ j. copied j from to m) one
    ∙ (copied_both n k (from + 1) (to + 1) (with_word to (m from) m)
    ∙ (λ t. copied k (at from t) (at to t) (copied n (from + 1) (to + 1) (with_word to (m from) m))))
  where
    one : suc n + k ≡ suc (n + k)
    one = omega arith

    at : (a : ℕ) → a + 1 + n ≡ a + suc n
    at a = omega arith

pub two_filled : (xs ys : List ℤ) (n a : ℕ) (m : Memory) → length xs ≡ n → filled (xs ++ ys) a m ≡ filled ys (a + n) (filled xs a m)
two_filled xs ys n a m h = filled_both xs ys a m ∙ ap (λ k. filled ys (a + k) (filled xs a m)) h

pub repeated_size : (n : ℕ) (c : Content) (k : ℕ) → length c.words ≡ k → length (repeated n c).words ≡ n * k
repeated_size zero c k h = omega arith
repeated_size (suc n) c k h = omega (arith, length-append c.words (repeated n c).words, h, repeated_size n c k h)

-- the first values of an object are as many as its words
mutual
  pub first_size : (s : Shape) → length (first_content s).words ≡ words s
  first_size (word b) = refl
  first_size (row b s) = repeated_size (count_between b.low b.high) (first_content s) (words s) (first_size s)
  first_size (group ss) = first_sizes ss

  first_sizes : (ss : Shapes) → length (first_contents ss).words ≡ all_words ss
  first_sizes no_shape = refl
  first_sizes (and_shape s ss) =
      length-append (first_content s).words (first_contents ss).words ∙ (λ t. first_size s t + first_sizes ss t)

-- words that were set one after another are set at once, and the other way round
pub in_parts : (Set : ℕ → Type 0) (a n k c : ℕ) → With Set a (n + k) c → With (With Set a n) (a + n) k c
in_parts Set a n k c (inl set) = inl (inl set)
in_parts Set a n k c (inr here) = by_test (nat_lt c (a + n)) refl
  where
    by_test : (b : Bool) → nat_lt c (a + n) ≡ b → With (With Set a n) (a + n) k c
    by_test true is = inl (inr (here.0, grind (arith, nat_tests, is)))
    by_test false is = inr (grind (arith, nat_tests, is), omega (arith, here.1))

pub no_more : (Set : ℕ → Type 0) (a n c : ℕ) → n ≡ 0 → With Set a n c → Set c
no_more Set a n c none (inl set) = set
no_more Set a n c none (inr here) = absurd (omega (arith, none, here.0, here.1))

-- what each component does to a store and to a memory, where it does so from each set of words on
module _ (Cell : Cells) (step : ℕ) (L : ℤ → ℕ → Type 0) (f : ℤ → Store → Store) (xs : Content) (size : length xs.words ≡ step)
    (does : (Set : ℕ → Type 0) (i : ℤ) (a : ℕ) (store : Store) (m : Memory) → L i a → Agree (Within Cell Set) store m
    → Agree (Within Cell (With Set a step)) (f i store) (filled xs.words a m)) where
  pub each_filled : (n : ℕ) (Set : ℕ → Type 0) (i : ℤ) (a : ℕ) (store : Store) (m : Memory) → Each n i a step L → Agree (Within Cell Set) store m
      → Agree (Within Cell (With Set a (n * step))) (each_store n i f store) (filled (repeated n xs).words a m)
  each_filled zero Set i a store m h agrees = fewer Cell Set (With Set a (0 * step)) store m (λ c. no_more Set a (0 * step) c (omega arith)) agrees
  each_filled (suc n) Set i a store m h agrees =
      fewer Cell (With (With Set a step) (a + step) (n * step)) (With Set a (suc n * step)) (each_store (suc n) i f store) (filled (repeated (suc n) xs).words a m)
      (λ c set. in_parts Set a step (n * step) c (subst (λ k. With Set a k c) one set))
      (subst (Agree (Within Cell (With (With Set a step) (a + step) (n * step))) (each_store (suc n) i f store)) (sym in_two)
      (each_filled n (With Set a step) (i +ℤ pos 1) (a + step) (f i store) (filled xs.words a m) h.1 (does Set i a store m h.0 agrees)))
    where
      one : suc n * step ≡ step + n * step
      one = omega arith

      in_two : filled (repeated (suc n) xs).words a m ≡ filled (repeated n xs).words (a + step) (filled xs.words a m)
      in_two = filled_both xs.words (repeated n xs).words a m ∙ ap (λ k. filled (repeated n xs).words (a + k) (filled xs.words a m)) size

module _ (Cell : Cells) (apart : AreApart Cell) where
  mutual
    -- an object gets its first values
    pub first_agrees : (s : Shape) (Set : ℕ → Type 0) (p : Place) (a : ℕ) (store : Store) (m : Memory) → HasWords s → Lies Cell s p a
        → Agree (Within Cell Set) store m
        → Agree (Within Cell (With Set a (words s))) (first_store s p store) (filled (first_content s).words a m)
    first_agrees (word b) Set p a store m has h agrees = cell_set Cell apart Set p a b.low store m has h agrees
    first_agrees (row b s) Set p a store m has h agrees =
        each_filled Cell (words s) (λ i c. Lies Cell s (part_at i p) c) (λ i. first_store s (part_at i p)) (first_content s) (first_size s)
        (λ more i c st mem lies g. first_agrees s more (part_at i p) c st mem has lies g)
        (count_between b.low b.high) Set b.low a store m h agrees
    first_agrees (group ss) Set p a store m has h agrees = firsts_agree ss (pos 0) Set p a store m has h agrees

    firsts_agree : (ss : Shapes) (i : ℤ) (Set : ℕ → Type 0) (p : Place) (a : ℕ) (store : Store) (m : Memory) → HaveWords ss → AllLie Cell ss i p a
        → Agree (Within Cell Set) store m
        → Agree (Within Cell (With Set a (all_words ss))) (first_stores ss i p store) (filled (first_contents ss).words a m)
    firsts_agree no_shape i Set p a store m has h agrees = fewer Cell Set (With Set a 0) store m (λ c. no_more Set a 0 c refl) agrees
    firsts_agree (and_shape s ss) i Set p a store m has h agrees =
        fewer Cell (With (With Set a (words s)) (a + words s) (all_words ss)) (With Set a (words s + all_words ss))
        (first_stores (and_shape s ss) i p store) (filled (first_contents (and_shape s ss)).words a m) (in_parts Set a (words s) (all_words ss))
        (subst (Agree (Within Cell (With (With Set a (words s)) (a + words s) (all_words ss))) (first_stores (and_shape s ss) i p store))
        (sym (two_filled (first_content s).words (first_contents ss).words (words s) a m (first_size s)))
        (firsts_agree ss (i +ℤ pos 1) (With Set a (words s)) p (a + words s) (first_store s (part_at i p) store) (filled (first_content s).words a m) has.1 h.1
        (first_agrees s Set (part_at i p) a store m has.0 h.0 agrees)))

-- words that were set stay set
within_more : (Cell : Cells) (Set : ℕ → Type 0) (b n : ℕ) (q : Place) (c : ℕ) → Within Cell Set q c → Within Cell (With Set b n) q c
within_more Cell Set b n q c h = (h.0, set_more Set (With Set b n) (λ d set. inl set) q c h.1)

-- what each component does to a store and to a memory, where it is read and set
module _ (Cell : Cells) (step : ℕ) (L : (ℕ → Type 0) → ℤ → ℕ → Type 0) (M : ℤ → ℕ → Type 0) (f : ℤ → Store → Store)
    (stays : (Set : ℕ → Type 0) (b n : ℕ) (i : ℤ) (a : ℕ) → L Set i a → L (With Set b n) i a)
    (does : (Set : ℕ → Type 0) (i : ℤ) (a b : ℕ) (store : Store) (m : Memory) → L Set i a → M i b → Agree (Within Cell Set) store m
    → Agree (Within Cell (With Set b step)) (f i store) (copied step a b m)) where
  each_copied : (n : ℕ) (Set : ℕ → Type 0) (i : ℤ) (a b : ℕ) (store : Store) (m : Memory) → Each n i a step (L Set) → Each n i b step M
      → Agree (Within Cell Set) store m
      → Agree (Within Cell (With Set b (n * step))) (each_store n i f store) (copied (n * step) a b m)
  each_copied zero Set i a b store m h g agrees =
      subst (λ k. Agree (Within Cell (With Set b k)) store (copied k a b m)) none (fewer Cell Set (With Set b 0) store m (λ c. no_more Set b 0 c refl) agrees)
    where
      none : 0 ≡ 0 * step
      none = omega arith
  each_copied (suc n) Set i a b store m h g agrees =
      subst (λ k. Agree (Within Cell (With Set b k)) (each_store (suc n) i f store) (copied k a b m)) (sym one)
      (fewer Cell (With (With Set b step) (b + step) (n * step)) (With Set b (step + n * step)) (each_store (suc n) i f store) (copied (step + n * step) a b m)
      (in_parts Set b step (n * step))
      (subst (Agree (Within Cell (With (With Set b step) (b + step) (n * step))) (each_store (suc n) i f store)) (sym (copied_both step (n * step) a b m))
      (each_copied n (With Set b step) (i +ℤ pos 1) (a + step) (b + step) (f i store) (copied step a b m)
      (each_more n (i +ℤ pos 1) (a + step) step (L Set) (L (With Set b step)) (λ j c x. stays Set b step j c x) h.1) g.1
      (does Set i a b store m h.0 g.0 agrees))))
    where
      one : suc n * step ≡ step + n * step
      one = omega arith

module _ (Cell : Cells) (apart : AreApart Cell) where
  mutual
    -- an object is copied, word by word: to another one, to one that it overlaps, or to itself
    pub copy_agrees : (s : Shape) (Set : ℕ → Type 0) (p q : Place) (a b : ℕ) (store : Store) (m : Memory) → Lies (Within Cell Set) s p a → Lies Cell s q b
        → Agree (Within Cell Set) store m
        → Agree (Within Cell (With Set b (words s))) (copied_store s p q store) (copied (words s) a b m)
    copy_agrees (word bounds) Set p q a b store m h g agrees =
        let read : (m a ≡ store p) × FitsSigned w32 (store p) = agrees p a h in
        subst (λ x. Agree (Within Cell (With Set b 1)) (set_at q (store p) store) (with_word b x m)) (sym read.0)
        (cell_set Cell apart Set q b (store p) store m read.1 g agrees)
    copy_agrees (row bounds s) Set p q a b store m h g agrees =
        each_copied Cell (words s) (λ set i c. Lies (Within Cell set) s (part_at i p) c) (λ i c. Lies Cell s (part_at i q) c)
        (λ i. copied_store s (part_at i p) (part_at i q))
        (λ set to n i c x. lies_more (Within Cell set) (Within Cell (With set to n)) (within_more Cell set to n) s (part_at i p) c x)
        (λ set i c d st mem x y z. copy_agrees s set (part_at i p) (part_at i q) c d st mem x y z)
        (count_between bounds.low bounds.high) Set bounds.low a b store m h g agrees
    copy_agrees (group ss) Set p q a b store m h g agrees = copies_agree ss (pos 0) Set p q a b store m h g agrees

    copies_agree : (ss : Shapes) (i : ℤ) (Set : ℕ → Type 0) (p q : Place) (a b : ℕ) (store : Store) (m : Memory) → AllLie (Within Cell Set) ss i p a
        → AllLie Cell ss i q b → Agree (Within Cell Set) store m
        → Agree (Within Cell (With Set b (all_words ss))) (copied_stores ss i p q store) (copied (all_words ss) a b m)
    copies_agree no_shape i Set p q a b store m h g agrees = fewer Cell Set (With Set b 0) store m (λ c. no_more Set b 0 c refl) agrees
    copies_agree (and_shape s ss) i Set p q a b store m h g agrees =
        fewer Cell (With (With Set b (words s)) (b + words s) (all_words ss)) (With Set b (words s + all_words ss))
        (copied_stores (and_shape s ss) i p q store) (copied (words s + all_words ss) a b m) (in_parts Set b (words s) (all_words ss))
        (subst (Agree (Within Cell (With (With Set b (words s)) (b + words s) (all_words ss))) (copied_stores (and_shape s ss) i p q store))
        (sym (copied_both (words s) (all_words ss) a b m))
        (copies_agree ss (i +ℤ pos 1) (With Set b (words s)) p q (a + words s) (b + words s) (copied_store s (part_at i p) (part_at i q) store)
        (copied (words s) a b m)
        (all_lie_more (Within Cell Set) (Within Cell (With Set b (words s))) (within_more Cell Set b (words s)) ss (i +ℤ pos 1) p (a + words s) h.1) g.1
        (copy_agrees s Set (part_at i p) (part_at i q) a b store m h.0 g.0 agrees)))

-- a state with another store and this cost
abbrev after_cost : Store → (cost : ℕ) → World → World
after_cost store cost w =
    record { store = store; input = w.input; depth = w.depth; seen = record { events = w.seen.events; output = w.seen.output; cost = cost } }

nothing_does : (w : World) → done w ≡ Gives (record {}) (after w.store 0 w)
nothing_does w = ap (λ c. Gives (record {}) (after_cost w.store c w)) there
  where
    there : w.seen.cost ≡ w.seen.cost + 0
    there = omega arith

-- two stores and costs, one after the other
after_both : (s t : Store) (x y z : ℕ) (w : World) → y + x ≡ z → after s x (after t y w) ≡ after s z w
after_both s t x y z w h = ap (λ c. after_cost s c w) there
  where
    there : w.seen.cost + y + x ≡ w.seen.cost + z
    there = omega (arith, h)

-- what each of several actions does to a store, at a cost
each_does : (n : ℕ) (i : ℤ) (f : ℤ → Action (Unit {0})) (g : ℤ → Store → Store) (k : ℕ)
    → ((j : ℤ) (w : World) → f j w ≡ Gives (record {}) (after (g j w.store) k w))
    → (w : World) → each_from n i f w ≡ Gives (record {}) (after (each_store n i g w.store) (n * k) w)
each_does zero i f g k does w = ap (λ c. Gives (record {}) (after_cost w.store c w)) there
  where
    there : w.seen.cost ≡ w.seen.cost + 0 * k
    there = omega arith
each_does (suc n) i f g k does w =
    (λ t. goes_to (does i w t) (λ a. each_from n (i +ℤ pos 1) f))
    ∙ (each_does n (i +ℤ pos 1) f g k does (after (g i w.store) k w)
    ∙ ap (Gives (record {})) (after_both (each_store (suc n) i g w.store) (g i w.store) (n * k) k (suc n * k) w there))
  where
    there : k + n * k ≡ suc n * k
    there = omega arith

pub repeated_cost : (n : ℕ) (c : Content) → (repeated n c).cost ≡ n * c.cost
repeated_cost zero c = omega arith
repeated_cost (suc n) c = omega (arith, repeated_cost n c)

-- one action, and then another, each with what it does to a store
both_do : (m n : Action (Unit {0})) (f g : Store → Store) (x y z : ℕ) → ((w : World) → m w ≡ Gives (record {}) (after (f w.store) x w))
    → ((w : World) → n w ≡ Gives (record {}) (after (g w.store) y w)) → x + y ≡ z
    → (w : World) → goes_to (m w) (λ a. n) ≡ Gives (record {}) (after (g (f w.store)) z w)
both_do m n f g x y z first second sum w =
    (λ t. goes_to (first w t) (λ a. n))
    ∙ (second (after (f w.store) x w) ∙ ap (Gives (record {})) (after_both (g (f w.store)) (f w.store) y x z w sum))

one_does : (p : Place) (x : ℤ) (w : World) → set_word p x w ≡ Gives (record {}) (after (set_at p x w.store) 1 w)
one_does p x w = ap (λ c. Gives (record {}) (after_cost (set_at p x w.store) c w)) there
  where
    there : suc w.seen.cost ≡ w.seen.cost + 1
    there = omega arith

tick_does : (w : World) → tick w ≡ Gives (record {}) (after w.store 1 w)
tick_does w = ap (λ c. Gives (record {}) (after_cost w.store c w)) there
  where
    there : suc w.seen.cost ≡ w.seen.cost + 1
    there = omega arith

mutual
  -- first values are set at the cost of one for each word, and each composite part
  pub set_first_does : (s : Shape) (p : Place) (w : World) → set_first s p w ≡ Gives (record {}) (after (first_store s p w.store) (first_content s).cost w)
  set_first_does (word b) p w = one_does p b.low w
  set_first_does (row b s) p w =
      both_do tick (each_in b (λ i. set_first s (part_at i p))) (λ st. st) (first_store (row b s) p) 1 (count_between b.low b.high * (first_content s).cost)
      (1 + (repeated (count_between b.low b.high) (first_content s)).cost) tick_does
      (each_does (count_between b.low b.high) b.low (λ i. set_first s (part_at i p)) (λ i. first_store s (part_at i p)) (first_content s).cost
      (λ i v. set_first_does s (part_at i p) v)) (omega (arith, repeated_cost (count_between b.low b.high) (first_content s))) w
  set_first_does (group ss) p w =
      both_do tick (set_firsts ss (pos 0) p) (λ st. st) (first_stores ss (pos 0) p) 1 (first_contents ss).cost (1 + (first_contents ss).cost) tick_does
      (λ v. set_firsts_do ss (pos 0) p v) refl w

  set_firsts_do : (ss : Shapes) (i : ℤ) (p : Place) (w : World)
      → set_firsts ss i p w ≡ Gives (record {}) (after (first_stores ss i p w.store) (first_contents ss).cost w)
  set_firsts_do no_shape i p w = nothing_does w
  set_firsts_do (and_shape s ss) i p w =
      both_do (set_first s (part_at i p)) (set_firsts ss (i +ℤ pos 1) p) (first_store s (part_at i p)) (first_stores ss (i +ℤ pos 1) p) (first_content s).cost
      (first_contents ss).cost ((first_content s).cost + (first_contents ss).cost) (λ v. set_first_does s (part_at i p) v)
      (λ v. set_firsts_do ss (i +ℤ pos 1) p v) refl w

  -- parts are copied at the same cost
  pub copy_parts_do : (s : Shape) (p q : Place) (w : World) → copy_parts s p q w ≡ Gives (record {}) (after (copied_store s p q w.store) (first_content s).cost w)
  copy_parts_do (word b) p q w = one_does q (w.store p) w
  copy_parts_do (row b s) p q w =
      both_do tick (each_in b (λ i. copy_parts s (part_at i p) (part_at i q))) (λ st. st) (copied_store (row b s) p q) 1
      (count_between b.low b.high * (first_content s).cost) (1 + (repeated (count_between b.low b.high) (first_content s)).cost) tick_does
      (each_does (count_between b.low b.high) b.low (λ i. copy_parts s (part_at i p) (part_at i q)) (λ i. copied_store s (part_at i p) (part_at i q))
      (first_content s).cost (λ i v. copy_parts_do s (part_at i p) (part_at i q) v))
      (omega (arith, repeated_cost (count_between b.low b.high) (first_content s))) w
  copy_parts_do (group ss) p q w =
      both_do tick (copy_components ss (pos 0) p q) (λ st. st) (copied_stores ss (pos 0) p q) 1 (first_contents ss).cost (1 + (first_contents ss).cost) tick_does
      (λ v. copy_components_do ss (pos 0) p q v) refl w

  copy_components_do : (ss : Shapes) (i : ℤ) (p q : Place) (w : World)
      → copy_components ss i p q w ≡ Gives (record {}) (after (copied_stores ss i p q w.store) (first_contents ss).cost w)
  copy_components_do no_shape i p q w = nothing_does w
  copy_components_do (and_shape s ss) i p q w =
      both_do (copy_parts s (part_at i p) (part_at i q)) (copy_components ss (i +ℤ pos 1) p q) (copied_store s (part_at i p) (part_at i q))
      (copied_stores ss (i +ℤ pos 1) p q) (first_content s).cost (first_contents ss).cost ((first_content s).cost + (first_contents ss).cost)
      (λ v. copy_parts_do s (part_at i p) (part_at i q) v) (λ v. copy_components_do ss (i +ℤ pos 1) p q v) refl w
