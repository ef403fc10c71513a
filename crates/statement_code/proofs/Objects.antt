-- The cells of an object, and those of objects.
use Rattle.std.proofs.Common.{◌≡◌, ◌≢◌, ℕ, zero, suc, ◌+◌, ◌*◌, ◌==◌, ◌≤◌, ◌<◌, true, false, ◌⊎◌, inl, inr, ℤ, pos, ◌+ℤ◌, ◌-ℤ◌, List, [], ◌∷◌, length, Some, refl, sym, subst, ◌∙◌, arith, eq-eqb}
use Rattle.std.proofs.lemmas.Bool.{ne_eqb}
use Rattle.std.proofs.lemmas.Int.{ints}
use Rattle.cov_base.specs.Lists.{Everywhere}
use Rattle.ada_meaning.specs.Arithmetic.{count_between, is_within, natural}
use Rattle.ada_meaning.specs.Program.{Bounds}
use Rattle.ada_meaning.specs.Shape.{Shape, word, row, group, Shapes, no_shape, and_shape}
use Rattle.ada_meaning.specs.State.{Place, part_at, same_place}
use Rattle.ada_resolved.specs.Sizes.{words, all_words}
use Rattle.statement_code.specs.Cells.{Cells, Each, Lies, AllLie, AreApart}
use Rattle.statement_code.specs.Objects.{AnyOf, Among, AmongAll, Standing, CellsOf, StandApart, AllApart, component_of, words_before, HasComponent, IsPlaced}
use Rattle.statement_code.proofs.Ways.{selector_at, selector_here, selector_past, place_is, places_differ, place_back, IsOf, others_differ}

-- one of several components is the one so many behind the first
pub any_at : (n : ℕ) (i : ℤ) (a step : ℕ) (P : ℤ → ℕ → Type 0) (R : Type 0)
    → ((m : ℕ) → m < n → P (i +ℤ pos m) (a + m * step) → R) → AnyOf n i a step P → R
any_at zero i a step P R f h = absurd h
any_at (suc n) i a step P R f (inl h) = f 0 (omega arith) (moved h)
  where
    index : i ≡ i +ℤ pos 0
    index = omega (arith, ints)

    moved : P i a → P (i +ℤ pos 0) (a + 0 * step)
    moved g = subst (λ j. P j (a + 0 * step)) index (subst (P i) (omega arith) g)
any_at (suc n) i a step P R f (inr h) = any_at n (i +ℤ pos 1) (a + step) step P R (λ m less g. f (suc m) (omega (arith, less)) (moved m g)) h
  where
    index : (m : ℕ) → i +ℤ pos 1 +ℤ pos m ≡ i +ℤ pos (suc m)
    index m = omega (arith, ints)

    there : (m : ℕ) → a + step + m * step ≡ a + suc m * step
    there m = omega arith

    moved : (m : ℕ) → P (i +ℤ pos 1 +ℤ pos m) (a + step + m * step) → P (i +ℤ pos (suc m)) (a + suc m * step)
    moved m g = subst (λ j. P j (a + suc m * step)) (index m) (subst (P (i +ℤ pos 1 +ℤ pos m)) (there m) g)

pub any_one : (n : ℕ) (i : ℤ) (a step : ℕ) (P : ℤ → ℕ → Type 0) (R : Type 0) → ((j : ℤ) (d : ℕ) → P j d → R) → AnyOf n i a step P → R
any_one zero i a step P R f h = absurd h
any_one (suc n) i a step P R f (inl h) = f i a h
any_one (suc n) i a step P R f (inr h) = any_one n (i +ℤ pos 1) (a + step) step P R f h

any_words : (n : ℕ) (i : ℤ) (a step : ℕ) (P : ℤ → ℕ → Type 0) (c : ℕ) → ((j : ℤ) (d : ℕ) → P j d → (d ≤ c) × (c < d + step))
    → AnyOf n i a step P → (a ≤ c) × (c < a + n * step)
any_words zero i a step P c f h = absurd h
any_words (suc n) i a step P c f (inl h) = let g = f i a h in (g.0, omega (arith, g.1))
any_words (suc n) i a step P c f (inr h) = let g = any_words n (i +ℤ pos 1) (a + step) step P c f h in (omega (arith, g.0), omega (arith, g.1))

-- two of several components: one and the same, or two with different selectors, one behind the other
any_two : (n : ℕ) (i : ℤ) (a step : ℕ) (P Q : ℤ → ℕ → Type 0) (R : Type 0) → ((j : ℤ) (e : ℕ) → P j e → Q j e → R)
    → ((j k : ℤ) (e f : ℕ) → j ≢ k → (e + step ≤ f) ⊎ (f + step ≤ e) → P j e → Q k f → R) → AnyOf n i a step P → AnyOf n i a step Q → R
any_two zero i a step P Q R same other h g = absurd h
any_two (suc n) i a step P Q R same other (inl h) (inl g) = same i a h g
any_two (suc n) i a step P Q R same other (inl h) (inr g) =
    any_at n (i +ℤ pos 1) (a + step) step Q R
    (λ m less q. other i (i +ℤ pos 1 +ℤ pos m) a (a + step + m * step) (λ e. omega (arith, ints, e)) (inl (omega arith)) h q) g
any_two (suc n) i a step P Q R same other (inr h) (inl g) =
    any_at n (i +ℤ pos 1) (a + step) step P R
    (λ m less p. other (i +ℤ pos 1 +ℤ pos m) i (a + step + m * step) a (λ e. omega (arith, ints, e)) (inr (omega arith)) p g) h
any_two (suc n) i a step P Q R same other (inr h) (inr g) = any_two n (i +ℤ pos 1) (a + step) step P Q R same other h g

mutual
  -- the words of an object are as many as its scalar parts, from its address on
  pub among_words : (s : Shape) (p : Place) (a : ℕ) (q : Place) (c : ℕ) → Among s p a q c → (a ≤ c) × (c < a + words s)
  among_words (word b) p a q c h = let e = h.1 in (omega (arith, e), omega (arith, e))
  among_words (row b s) p a q c h =
      any_words (count_between b.low b.high) b.low a (words s) (λ i d. Among s (part_at i p) d q c) c (λ i d g. among_words s (part_at i p) d q c g) h
  among_words (group ss) p a q c h = among_all_words ss (pos 0) p a q c h

  among_all_words : (ss : Shapes) (i : ℤ) (p : Place) (a : ℕ) (q : Place) (c : ℕ) → AmongAll ss i p a q c → (a ≤ c) × (c < a + all_words ss)
  among_all_words no_shape i p a q c h = absurd h
  among_all_words (and_shape s ss) i p a q c (inl h) = let g = among_words s (part_at i p) a q c h in (g.0, omega (arith, g.1))
  among_all_words (and_shape s ss) i p a q c (inr h) =
      let g = among_all_words ss (i +ℤ pos 1) p (a + words s) q c h in (omega (arith, g.0), omega (arith, g.1))

-- what holds of an object's place, and of each part of a place, holds of its cells
module _ (Good : Place → Type 0) (part : (i : ℤ) (q : Place) → Good q → Good (part_at i q)) where
  mutual
    pub among_good : (s : Shape) (p : Place) (a : ℕ) (q : Place) (c : ℕ) → Good p → Among s p a q c → Good q
    among_good (word b) p a q c good h = subst Good (sym h.0) good
    among_good (row b s) p a q c good h =
        any_one (count_between b.low b.high) b.low a (words s) (λ i d. Among s (part_at i p) d q c) (Good q)
        (λ i d g. among_good s (part_at i p) d q c (part i p good) g) h
    among_good (group ss) p a q c good h = among_all_good ss (pos 0) p a q c good h

    among_all_good : (ss : Shapes) (i : ℤ) (p : Place) (a : ℕ) (q : Place) (c : ℕ) → Good p → AmongAll ss i p a q c → Good q
    among_all_good no_shape i p a q c good h = absurd h
    among_all_good (and_shape s ss) i p a q c good (inl h) = among_good s (part_at i p) a q c (part i p good) h
    among_all_good (and_shape s ss) i p a q c good (inr h) = among_all_good ss (i +ℤ pos 1) p (a + words s) q c good h

-- a way that is longer than so many selectors, and has this one there
abbrev HasSelector : (k : ℕ) → ℤ → Place → Type 0
HasSelector k i q = (k < length q.path) × (selector_at k q.path ≡ Some i)

selected : (s : Shape) (o : Place) (i : ℤ) (a : ℕ) (q : Place) (c : ℕ) → Among s (part_at i o) a q c → selector_at (length o.path) q.path ≡ Some i
selected s o i a q c h =
    let g : HasSelector (length o.path) i q =
    among_good (HasSelector (length o.path) i) (λ j q g. (omega (arith, g.0), selector_past (length o.path) j q.path g.0 ∙ g.1))
    s (part_at i o) a q c (omega arith, selector_here i o.path) h in
    g.1

-- parts with different selectors are other places, with other words
parts_apart : (s t : Shape) (o : Place) (j k : ℤ) (e f : ℕ) (p q : Place) (c d : ℕ) → j ≢ k → (e + words s ≤ f) ⊎ (f + words t ≤ e)
    → Among s (part_at j o) e p c → Among t (part_at k o) f q d → same_place p q ≡ (d == c)
parts_apart s t o j k e f p q c d differ lie h g =
    places_differ (length o.path) p q j k (selected s o j e p c h) (selected t o k f q d g) differ
    ∙ sym (ne_eqb d c (words_differ lie (among_words s (part_at j o) e p c h) (among_words t (part_at k o) f q d g)))
  where
    words_differ : (e + words s ≤ f) ⊎ (f + words t ≤ e) → (e ≤ c) × (c < e + words s) → (f ≤ d) × (d < f + words t) → d ≢ c
    words_differ (inl less) x y is = omega (arith, less, x.1, y.0, is)
    words_differ (inr less) x y is = omega (arith, less, x.0, y.1, is)

-- one of the components of a record, with its shape, its number and its words
all_at : (ss : Shapes) (i : ℤ) (p : Place) (a : ℕ) (q : Place) (c : ℕ) (R : Type 0)
    → ((m : ℕ) (s : Shape) (f : ℕ) → a ≤ f → Among s (part_at (i +ℤ pos m) p) f q c → R) → AmongAll ss i p a q c → R
all_at no_shape i p a q c R f h = absurd h
all_at (and_shape s ss) i p a q c R f (inl h) = f 0 s a (omega arith) (subst (λ j. Among s (part_at j p) a q c) index h)
  where
    index : i ≡ i +ℤ pos 0
    index = omega (arith, ints)
all_at (and_shape s ss) i p a q c R f (inr h) =
    all_at ss (i +ℤ pos 1) p (a + words s) q c R
    (λ m t e le g. f (suc m) t e (omega (arith, le)) (subst (λ j. Among t (part_at j p) e q c) (index m) g)) h
  where
    index : (m : ℕ) → i +ℤ pos 1 +ℤ pos m ≡ i +ℤ pos (suc m)
    index m = omega (arith, ints)

word_apart : (o : Place) (a : ℕ) (p q : Place) (c d : ℕ) → (p ≡ o) × (c ≡ a) → (q ≡ o) × (d ≡ a) → same_place p q ≡ (d == c)
word_apart o a p q c d h g = (λ t. same_place (h.0 t) (g.0 t)) ∙ place_is o ∙ sym (eq-eqb d c (g.1 ∙ sym h.1))

mutual
  pub among_apart : (s : Shape) (o : Place) (a : ℕ) (p q : Place) (c d : ℕ) → Among s o a p c → Among s o a q d → same_place p q ≡ (d == c)
  among_apart (word b) o a p q c d h g = word_apart o a p q c d h g
  among_apart (row b s) o a p q c d h g =
      any_two (count_between b.low b.high) b.low a (words s) (λ i e. Among s (part_at i o) e p c) (λ i e. Among s (part_at i o) e q d) (same_place p q ≡ (d == c))
      (λ j e x y. among_apart s (part_at j o) e p q c d x y)
      (λ j k e f differ lie x y. parts_apart s s o j k e f p q c d differ lie x y) h g
  among_apart (group ss) o a p q c d h g = all_apart ss (pos 0) o a p q c d h g

  all_apart : (ss : Shapes) (i : ℤ) (o : Place) (a : ℕ) (p q : Place) (c d : ℕ) → AmongAll ss i o a p c → AmongAll ss i o a q d → same_place p q ≡ (d == c)
  all_apart no_shape i o a p q c d h g = absurd h
  all_apart (and_shape s ss) i o a p q c d (inl h) (inl g) = among_apart s (part_at i o) a p q c d h g
  all_apart (and_shape s ss) i o a p q c d (inl h) (inr g) =
      all_at ss (i +ℤ pos 1) o (a + words s) q d (same_place p q ≡ (d == c))
      (λ m t f le y. parts_apart s t o i (i +ℤ pos 1 +ℤ pos m) a f p q c d (λ e. omega (arith, ints, e)) (inl le) h y) g
  all_apart (and_shape s ss) i o a p q c d (inr h) (inl g) =
      all_at ss (i +ℤ pos 1) o (a + words s) p c (same_place p q ≡ (d == c))
      (λ m t f le x. parts_apart t s o (i +ℤ pos 1 +ℤ pos m) i f a p q c d (λ e. omega (arith, ints, e)) (inr le) x g) h
  all_apart (and_shape s ss) i o a p q c d (inr h) (inr g) = all_apart ss (i +ℤ pos 1) o (a + words s) p q c d h g

pub of_object : (s : Shape) (o : Place) (a : ℕ) (q : Place) (c : ℕ) → Among s o a q c → IsOf o q
of_object s o a q c h = among_good (IsOf o) (λ i q g. g) s o a q c (refl, (refl, refl)) h

-- the cells of two objects
two_apart : (o r : Standing) (p q : Place) (c d : ℕ) → StandApart o r → Among o.shape o.place o.address p c → Among r.shape r.place r.address q d
    → (same_place p q ≡ false) × ((d ≢ c) × (c ≢ d))
two_apart o r p q c d apart h g = (
  others_differ o.place r.place p q apart.0 (of_object o.shape o.place o.address p c h) (of_object r.shape r.place r.address q d g),
  (words_differ apart.1 x y, λ e. words_differ apart.1 x y (sym e)),
)
  where
    x : (o.address ≤ c) × (c < o.address + words o.shape)
    x = among_words o.shape o.place o.address p c h

    y : (r.address ≤ d) × (d < r.address + words r.shape)
    y = among_words r.shape r.place r.address q d g

    words_differ : (o.address + words o.shape ≤ r.address) ⊎ (r.address + words r.shape ≤ o.address)
        → (o.address ≤ c) × (c < o.address + words o.shape) → (r.address ≤ d) × (d < r.address + words r.shape) → d ≢ c
    words_differ (inl less) v w is = omega (arith, less, v.1, w.0, is)
    words_differ (inr less) v w is = omega (arith, less, v.0, w.1, is)

one_apart : (o : Standing) (os : List Standing) (p q : Place) (c d : ℕ) → Everywhere (StandApart o) os → Among o.shape o.place o.address p c → CellsOf os q d
    → (same_place p q ≡ false) × ((d ≢ c) × (c ≢ d))
one_apart o [] p q c d all h g = absurd g
one_apart o (r ∷ rs) p q c d all h (inl g) = two_apart o r p q c d all.0 h g
one_apart o (r ∷ rs) p q c d all h (inr g) = one_apart o rs p q c d all.1 h g

-- the cells of objects that are apart are apart
pub cells_apart : (os : List Standing) → AllApart os → AreApart (CellsOf os)
cells_apart [] all p q c d h g = absurd h
cells_apart (o ∷ os) all p q c d (inl h) (inl g) = among_apart o.shape o.place o.address p q c d h g
cells_apart (o ∷ os) all p q c d (inl h) (inr g) = let e = one_apart o os p q c d all.0 h g in e.0 ∙ sym (ne_eqb d c e.1.0)
cells_apart (o ∷ os) all p q c d (inr h) (inl g) = let e = one_apart o os q p d c all.0 g h in place_back p q ∙ e.0 ∙ sym (ne_eqb d c e.1.1)
cells_apart (o ∷ os) all p q c d (inr h) (inr g) = cells_apart os all.1 p q c d h g

-- components lie where they are cells, each by its own
each_among : (Cell : Cells) (n : ℕ) (i : ℤ) (a step : ℕ) (L : ℤ → ℕ → Type 0) (A : ℤ → ℕ → Place → ℕ → Type 0)
    → ((j : ℤ) (e : ℕ) → ((q : Place) (c : ℕ) → A j e q c → Cell q c) → L j e)
    → ((q : Place) (c : ℕ) → AnyOf n i a step (λ j e. A j e q c) → Cell q c) → Each n i a step L
each_among Cell zero i a step L A lies among = record {}
each_among Cell (suc n) i a step L A lies among =
    (lies i a (λ q c h. among q c (inl h)), each_among Cell n (i +ℤ pos 1) (a + step) step L A lies (λ q c h. among q c (inr h)))

module _ (Cell : Cells) where
  mutual
    -- an object lies where its parts are cells
    pub lies_among : (s : Shape) (p : Place) (a : ℕ) → ((q : Place) (c : ℕ) → Among s p a q c → Cell q c) → Lies Cell s p a
    lies_among (word b) p a among = among p a (refl, refl)
    lies_among (row b s) p a among =
        each_among Cell (count_between b.low b.high) b.low a (words s) (λ i c. Lies Cell s (part_at i p) c) (λ i d q c. Among s (part_at i p) d q c)
        (λ j e f. lies_among s (part_at j p) e f) among
    lies_among (group ss) p a among = all_lie_among ss (pos 0) p a among

    all_lie_among : (ss : Shapes) (i : ℤ) (p : Place) (a : ℕ) → ((q : Place) (c : ℕ) → AmongAll ss i p a q c → Cell q c) → AllLie Cell ss i p a
    all_lie_among no_shape i p a among = record {}
    all_lie_among (and_shape s ss) i p a among =
        (lies_among s (part_at i p) a (λ q c h. among q c (inl h)), all_lie_among ss (i +ℤ pos 1) p (a + words s) (λ q c h. among q c (inr h)))

  -- an element of an array that lies in memory, and a component of a record
  each_at : (n : ℕ) (i : ℤ) (a step : ℕ) (P : ℤ → ℕ → Type 0) (k : ℕ) → k < n → Each n i a step P → P (i +ℤ pos k) (a + k * step)
  each_at zero i a step P k less h = absurd (omega (arith, less))
  each_at (suc n) i a step P zero less h = subst (λ j. P j (a + 0 * step)) index (subst (P i) (omega arith) h.0)
    where
      index : i ≡ i +ℤ pos 0
      index = omega (arith, ints)
  each_at (suc n) i a step P (suc k) less h =
      subst (λ j. P j (a + suc k * step)) index (subst (P (i +ℤ pos 1 +ℤ pos k)) there (each_at n (i +ℤ pos 1) (a + step) step P k (omega (arith, less)) h.1))
    where
      index : i +ℤ pos 1 +ℤ pos k ≡ i +ℤ pos (suc k)
      index = omega (arith, ints)

      there : a + step + k * step ≡ a + suc k * step
      there = omega arith

  pub element_lies : (b : Bounds) (s : Shape) (q : Place) (a : ℕ) (x : ℤ) (k c : ℕ) → IsPlaced b x k → c ≡ a + k * words s → Lies Cell (row b s) q a
      → Lies Cell s (part_at x q) c
  element_lies b s q a x k c placed there h =
      subst (λ j. Lies Cell s (part_at j q) c) (sym placed.is) (subst (Lies Cell s (part_at (b.low +ℤ pos k) q)) (sym there)
      (each_at (count_between b.low b.high) b.low a (words s) (λ i d. Lies Cell s (part_at i q) d) k placed.less h))

  component_from : (ss : Shapes) (i : ℤ) (q : Place) (a n : ℕ) → HasComponent ss n → AllLie Cell ss i q a
      → Lies Cell (component_of ss n) (part_at (i +ℤ pos n) q) (a + words_before ss n)
  component_from no_shape i q a n has h = absurd has
  component_from (and_shape s ss) i q a zero has h = subst (λ j. Lies Cell s (part_at j q) (a + 0)) index (subst (Lies Cell s (part_at i q)) (omega arith) h.0)
    where
      index : i ≡ i +ℤ pos 0
      index = omega (arith, ints)
  component_from (and_shape s ss) i q a (suc n) has h =
      subst (λ j. Lies Cell (component_of ss n) (part_at j q) (a + (words s + words_before ss n))) index
      (subst (Lies Cell (component_of ss n) (part_at (i +ℤ pos 1 +ℤ pos n) q)) there (component_from ss (i +ℤ pos 1) q (a + words s) n has h.1))
    where
      index : i +ℤ pos 1 +ℤ pos n ≡ i +ℤ pos (suc n)
      index = omega (arith, ints)

      there : a + words s + words_before ss n ≡ a + (words s + words_before ss n)
      there = omega arith

  pub component_lies : (ss : Shapes) (q : Place) (a n : ℕ) → HasComponent ss n → Lies Cell (group ss) q a
      → Lies Cell (component_of ss n) (part_at (pos n) q) (a + words_before ss n)
  component_lies ss q a n has h = subst (λ j. Lies Cell (component_of ss n) (part_at j q) (a + words_before ss n)) index (component_from ss (pos 0) q a n has h)
    where
      index : pos 0 +ℤ pos n ≡ pos n
      index = omega (arith, ints)

-- a value within bounds has its place among them
pub placed : (b : Bounds) (x : ℤ) → is_within b x ≡ true → IsPlaced b x (natural (x -ℤ b.low))
placed b x h = grind (arith, ints, h)
