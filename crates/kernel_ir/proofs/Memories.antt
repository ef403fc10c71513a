-- What a memory holds after words were set, copied and filled in.
use Rattle.std.proofs.Common.{◌≡◌, ◌≢◌, ℕ, zero, suc, ◌+◌, ◌<◌, ◌≤◌, ℤ, ◌⊎◌, inl, inr, List, [], ◌∷◌, length, Option, Some, None, slice_get, if◌then◌else◌, arith, refl, ap, ◌∙◌, eq-eqb}
use Rattle.std.proofs.lemmas.Bool.{ne_eqb}
use Rattle.std.proofs.lemmas.Option.{none-some}
use Rattle.kernel_ir.specs.World.{Memory, World, slot_word, with_word, slot_in, with_slot}
use Rattle.kernel_ir.specs.Simple.{copied, filled}

pub with_word_at : (a : ℕ) (x : ℤ) (m : Memory) → with_word a x m a ≡ x
with_word_at a x m = ap (λ b. if b then x else m a) (eq-eqb a a refl)

pub with_word_other : (a b : ℕ) (x : ℤ) (m : Memory) → b ≢ a → with_word a x m b ≡ m b
with_word_other a b x m h = ap (λ c. if c then x else m b) (ne_eqb b a h)

pub with_slot_at : (fp k : ℕ) (x : ℤ) (w : World) → slot_in fp k (with_slot fp k x w) ≡ x
with_slot_at fp k x w = with_word_at (slot_word fp k) x w.memory

pub with_slot_other : (fp k j : ℕ) (x : ℤ) (w : World) → k < fp → j < fp → j ≢ k → slot_in fp j (with_slot fp k x w) ≡ slot_in fp j w
with_slot_other fp k j x w h g n = with_word_other (slot_word fp k) (slot_word fp j) x w.memory (λ e. n (omega (arith, e, h, g)))

pub copied_other : (n from to a : ℕ) (m : Memory) → (a < to) ⊎ (to + n ≤ a) → copied n from to m a ≡ m a
copied_other zero from to a m h = refl
copied_other (suc n) from to a m h =
    copied_other n (from + 1) (to + 1) a (with_word to (m from) m) (after h)
    ∙ with_word_other to a (m from) m (apart h)
  where
    after : (a < to) ⊎ (to + suc n ≤ a) → (a < to + 1) ⊎ (to + 1 + n ≤ a)
    after (inl g) = inl (omega (arith, g))
    after (inr g) = inr (omega (arith, g))

    apart : (a < to) ⊎ (to + suc n ≤ a) → a ≢ to
    apart (inl g) e = omega (arith, g, e)
    apart (inr g) e = omega (arith, g, e)

-- a copy that doesn't overlap what it reads later
pub copied_at : (n from to k : ℕ) (m : Memory) → (to ≤ from) ⊎ (from + n ≤ to) → k < n → copied n from to m (to + k) ≡ m (from + k)
copied_at zero from to k m h g = absurd (omega (arith, g))
copied_at (suc n) from to zero m h g =
    let here : to + 0 ≡ to = omega arith in
    let there : from ≡ from + 0 = omega arith in
    ap (copied (suc n) from to m) here
    ∙ (copied_other n (from + 1) (to + 1) to (with_word to (m from) m) (inl (omega arith)) ∙ (with_word_at to (m from) m ∙ ap m there))
copied_at (suc n) from to (suc k) m h g =
    let here : to + suc k ≡ to + 1 + k = omega arith in
    let there : from + 1 + k ≡ from + suc k = omega arith in
    ap (copied (suc n) from to m) here
    ∙ (copied_at n (from + 1) (to + 1) k (with_word to (m from) m) (after h) (omega (arith, g))
    ∙ (with_word_other to (from + 1 + k) (m from) m (apart h) ∙ ap m there))
  where
    after : (to ≤ from) ⊎ (from + suc n ≤ to) → (to + 1 ≤ from + 1) ⊎ (from + 1 + n ≤ to + 1)
    after (inl f) = inl (omega (arith, f))
    after (inr f) = inr (omega (arith, f))

    apart : (to ≤ from) ⊎ (from + suc n ≤ to) → from + 1 + k ≢ to
    apart (inl f) e = omega (arith, f, e)
    apart (inr f) e = omega (arith, f, e, g)

pub filled_other : (xs : List ℤ) (to a : ℕ) (m : Memory) → (a < to) ⊎ (to + length xs ≤ a) → filled xs to m a ≡ m a
filled_other [] to a m h = refl
filled_other (x ∷ xs) to a m h =
    filled_other xs (to + 1) a (with_word to x m) (after h) ∙ with_word_other to a x m (apart h)
  where
    after : (a < to) ⊎ (to + suc (length xs) ≤ a) → (a < to + 1) ⊎ (to + 1 + length xs ≤ a)
    after (inl g) = inl (omega (arith, g))
    after (inr g) = inr (omega (arith, g))

    apart : (a < to) ⊎ (to + suc (length xs) ≤ a) → a ≢ to
    apart (inl g) e = omega (arith, g, e)
    apart (inr g) e = omega (arith, g, e)

abbrev word_or : ℤ → Option ℤ → ℤ
word_or y None = y
word_or y (Some x) = x

pub filled_at : (xs : List ℤ) (to k : ℕ) (x : ℤ) (m : Memory) → slice_get xs k ≡ Some x → filled xs to m (to + k) ≡ x
filled_at [] to k x m h = absurd (none-some x h)
filled_at (y ∷ xs) to zero x m h =
    let here : to + 0 ≡ to = omega arith in
    ap (filled (y ∷ xs) to m) here
    ∙ (filled_other xs (to + 1) to (with_word to y m) (inl (omega arith)) ∙ (with_word_at to y m ∙ ap (word_or y) h))
filled_at (y ∷ xs) to (suc k) x m h =
    let here : to + suc k ≡ to + 1 + k = omega arith in
    ap (filled (y ∷ xs) to m) here ∙ filled_at xs (to + 1) k x (with_word to y m) h
