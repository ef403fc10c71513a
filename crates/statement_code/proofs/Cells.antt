-- Laws of cells: what becomes of them where a word is set.
use Rattle.std.proofs.Common.{◌≡◌, ℕ, zero, suc, ◌+◌, ◌*◌, ◌==◌, ◌≤◌, ◌<◌, ◌⊎◌, Bool, true, false, inl, inr, ℤ, pos, ◌+ℤ◌, FitsSigned, if◌then◌else◌, refl, arith}
use Rattle.std.specs.Int.{w32}
use Rattle.ada_meaning.specs.Arithmetic.{count_between}
use Rattle.ada_meaning.specs.Shape.{Shape, word, row, group, Shapes, no_shape, and_shape}
use Rattle.ada_meaning.specs.State.{Place, part_at, Store, set_at}
use Rattle.ada_resolved.specs.Sizes.{words, all_words}
use Rattle.kernel_ir.specs.World.{Memory, with_word}
use Rattle.statement_code.specs.Cells.{Cells, Each, Lies, AllLie, AreApart, Agree, Within, With}

-- what holds of components where one thing follows from another
pub each_more : (n : ℕ) (i : ℤ) (a step : ℕ) (P Q : ℤ → ℕ → Type 0) → ((j : ℤ) (c : ℕ) → P j c → Q j c) → Each n i a step P → Each n i a step Q
each_more zero i a step P Q f h = h
each_more (suc n) i a step P Q f h = (f i a h.0, each_more n (i +ℤ pos 1) (a + step) step P Q f h.1)

-- a memory and a store, with one word set in both
set_case : (b : Bool) (x m s : ℤ) → FitsSigned w32 x → (b ≡ false → (m ≡ s) × FitsSigned w32 s)
    → ((if b then x else m) ≡ (if b then x else s)) × FitsSigned w32 (if b then x else s)
set_case true x m s fits others = (refl, fits)
set_case false x m s fits others = others refl

-- a cell whose word is among more stays so
pub set_more : (Set More : ℕ → Type 0) → ((c : ℕ) → Set c → More c) → (q : Place) (c : ℕ) → Set c ⊎ (q.frame ≡ 0) → More c ⊎ (q.frame ≡ 0)
set_more Set More among q c (inl set) = inl (among c set)
set_more Set More among q c (inr library) = inr library

-- a word that was set is the one that is set now, or was set before
before : (Set : ℕ → Type 0) (q : Place) (a c : ℕ) → With Set a 1 c ⊎ (q.frame ≡ 0) → (c == a) ≡ false → Set c ⊎ (q.frame ≡ 0)
before Set q a c (inl (inl set)) differ = inl set
before Set q a c (inl (inr here)) differ = absurd (grind (arith, here.0, here.1, differ))
before Set q a c (inr library) differ = inr library

module _ (Cell : Cells) (apart : AreApart Cell) where
  -- a word is set, and its place
  pub cell_set : (Set : ℕ → Type 0) (p : Place) (a : ℕ) (x : ℤ) (store : Store) (m : Memory) → FitsSigned w32 x → Cell p a
      → Agree (Within Cell Set) store m → Agree (Within Cell (With Set a 1)) (set_at p x store) (with_word a x m)
  cell_set Set p a x store m fits there agrees q c here =
      rw (apart p q a c there here.0) (set_case (c == a) x (m c) (store q) fits
      (λ differ. agrees q c (here.0, before Set q a c here.1 differ)))

-- fewer words are said to be set
pub fewer : (Cell : Cells) (Set Some : ℕ → Type 0) (store : Store) (m : Memory) → ((c : ℕ) → Some c → Set c)
    → Agree (Within Cell Set) store m → Agree (Within Cell Some) store m
fewer Cell Set Some store m among agrees q c here = agrees q c (here.0, set_more Some Set among q c here.1)

mutual
  -- an object lies among more cells, too
  pub lies_more : (Cell More : Cells) → ((q : Place) (c : ℕ) → Cell q c → More q c) → (s : Shape) (p : Place) (a : ℕ) → Lies Cell s p a → Lies More s p a
  lies_more Cell More among (word b) p a h = among p a h
  lies_more Cell More among (row b s) p a h =
      each_more (count_between b.low b.high) b.low a (words s) (λ i c. Lies Cell s (part_at i p) c) (λ i c. Lies More s (part_at i p) c)
      (λ i c g. lies_more Cell More among s (part_at i p) c g) h
  lies_more Cell More among (group ss) p a h = all_lie_more Cell More among ss (pos 0) p a h

  pub all_lie_more : (Cell More : Cells) → ((q : Place) (c : ℕ) → Cell q c → More q c) → (ss : Shapes) (i : ℤ) (p : Place) (a : ℕ) → AllLie Cell ss i p a
      → AllLie More ss i p a
  all_lie_more Cell More among no_shape i p a h = record {}
  all_lie_more Cell More among (and_shape s ss) i p a h =
      (lies_more Cell More among s (part_at i p) a h.0, all_lie_more Cell More among ss (i +ℤ pos 1) p (a + words s) h.1)

-- the cells of an object have the words that it takes
abbrev Between : Cells → (low high : ℕ) → Cells
Between Cell low high q c = Cell q c × ((low ≤ c) × (c < high))

each_between : (n : ℕ) (i : ℤ) (a step low high : ℕ) (P Q : ℤ → ℕ → Type 0) → ((j : ℤ) (c : ℕ) → low ≤ c → c + step ≤ high → P j c → Q j c) → low ≤ a → a + n * step ≤ high
    → Each n i a step P → Each n i a step Q
each_between zero i a step low high P Q f le end h = record {}
each_between (suc n) i a step low high P Q f le end h =
    (f i a le (omega (arith, end)) h.0, each_between n (i +ℤ pos 1) (a + step) step low high P Q f (omega (arith, le)) (omega (arith, end)) h.1)

mutual
  lies_between : (Cell : Cells) (s : Shape) (q : Place) (a low high : ℕ) → low ≤ a → a + words s ≤ high → Lies Cell s q a → Lies (Between Cell low high) s q a
  lies_between Cell (word b) q a low high le end h = (h, (le, omega (arith, end)))
  lies_between Cell (row b s) q a low high le end h =
      each_between (count_between b.low b.high) b.low a (words s) low high (λ i c. Lies Cell s (part_at i q) c) (λ i c. Lies (Between Cell low high) s (part_at i q) c)
      (λ j c from to g. lies_between Cell s (part_at j q) c low high from to g) le end h
  lies_between Cell (group ss) q a low high le end h = all_lie_between Cell ss (pos 0) q a low high le end h

  all_lie_between : (Cell : Cells) (ss : Shapes) (i : ℤ) (q : Place) (a low high : ℕ) → low ≤ a → a + all_words ss ≤ high → AllLie Cell ss i q a
      → AllLie (Between Cell low high) ss i q a
  all_lie_between Cell no_shape i q a low high le end h = record {}
  all_lie_between Cell (and_shape s ss) i q a low high le end h = (
    lies_between Cell s (part_at i q) a low high le (omega (arith, end)) h.0,
    all_lie_between Cell ss (i +ℤ pos 1) q (a + words s) low high (omega (arith, le)) (omega (arith, end)) h.1,
  )

-- an object that was set lies among the words that were set
pub lies_set : (Cell : Cells) (Set : ℕ → Type 0) (s : Shape) (q : Place) (a : ℕ) → Lies Cell s q a → Lies (Within Cell (With Set a (words s))) s q a
lies_set Cell Set s q a h =
    lies_more (Between Cell a (a + words s)) (Within Cell (With Set a (words s))) (λ r c g. (g.0, inl (inr g.1))) s q a
    (lies_between Cell s q a a (a + words s) (omega arith) (omega arith) h)
