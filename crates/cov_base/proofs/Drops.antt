-- What a value of a cycle of types holds is smaller than the value: each hypothesis is what the types' own lemmas say.
use Prim.Native.Nat.{ℕ, ◌<◌, max}
use mathlib.Core.Path.{◌≡◌}
use Rattle.std.proofs.Common.{arith}

-- the first, second or third part of an enum that is of the cycle
pub first_falls : (a b m n t : ℕ) → max a b < m → n ≡ m → n ≡ t → a < t
first_falls a b m n t falls is at = omega (arith, falls, is, at)

pub second_falls : (a b d m n t : ℕ) → max a (max b d) < m → n ≡ m → n ≡ t → b < t
second_falls a b d m n t falls is at = omega (arith, falls, is, at)

pub third_falls : (a b d e m n t : ℕ) → max a (max b (max d e)) < m → n ≡ m → n ≡ t → d < t
third_falls a b d e m n t falls is at = omega (arith, falls, is, at)

-- the same where a struct of the cycle holds the enum
pub first_inside : (a b d m n s p t : ℕ) → max a b < m → n ≡ m → max n d < s → s ≡ p → p ≡ t → a < t
first_inside a b d m n s p t falls is inside seen at = omega (arith, falls, is, inside, seen, at)

pub second_inside : (a b d e m n s p t : ℕ) → max a (max b d) < m → n ≡ m → max n e < s → s ≡ p → p ≡ t → b < t
second_inside a b d e m n s p t falls is inside seen at = omega (arith, falls, is, inside, seen, at)
