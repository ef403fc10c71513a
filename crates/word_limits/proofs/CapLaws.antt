-- Numbers that are counted up to the cap.
use Rattle.std.proofs.Common.{◌≡◌, ℕ, zero, suc, ◌+◌, ◌*◌, ◌≤◌, ◌<◌, Bool, true, false, nat_lt, refl, sym, ap, ◌∙◌, arith, if◌then◌else◌}
use Rattle.std.proofs.Math.Nat.{suc-mul}
use Rattle.std.proofs.lemmas.Bool.Decides.{nat_tests}
use Rattle.word_limits.specs.Capped.{word_cap, capped}

abbrev when : Bool → ℕ → ℕ
when b n = if b then word_cap else n

-- a number is itself, or past the cap
pub data Is (n : ℕ) : Type 0 where
  itself : capped n ≡ n → n ≤ word_cap → Is n
  past : capped n ≡ word_cap → word_cap < n → Is n

pub is : (n : ℕ) → Is n
is n = by_test (nat_lt word_cap n) refl where
  by_test : (b : Bool) → nat_lt word_cap n ≡ b → Is n
  by_test true e = past (ap (λ c. when c n) e) (grind (arith, nat_tests))
  by_test false e = itself (ap (λ c. when c n) e) (grind (arith, nat_tests))

-- what is at the cap and past it, alike
pub at_cap : (n m : ℕ) → word_cap ≤ n → word_cap ≤ m → capped n ≡ capped m
at_cap n m a b = by_case n m (is n) (is m) a b where
  by_case : (n m : ℕ) → Is n → Is m → word_cap ≤ n → word_cap ≤ m → capped n ≡ capped m
  by_case n m (itself e l) (itself f k) a b = omega (arith, e, l, f, k, a, b)
  by_case n m (itself e l) (past f k) a b = omega (arith, e, l, f, k, a, b)
  by_case n m (past e l) (itself f k) a b = omega (arith, e, l, f, k, a, b)
  by_case n m (past e l) (past f k) a b = e ∙ sym f

-- a product of a number and one that is counted up to the cap
pub cap_product : (a b : ℕ) → capped (a * capped b) ≡ capped (a * b)
cap_product a b = by_case a (is b) where
  by_case : (a : ℕ) → Is b → capped (a * capped b) ≡ capped (a * b)
  by_case a (itself e l) = ap (λ n. capped (a * n)) e
  by_case zero (past e l) =
      let left : 0 * capped b ≡ 0 = omega arith in
      let right : 0 ≡ 0 * b = omega arith in
      ap capped (left ∙ right)
  by_case (suc a) (past e l) =
      let one : suc a * capped b ≡ a * capped b + capped b = suc-mul a (capped b) in
      let other : suc a * b ≡ a * b + b = suc-mul a b in
      at_cap (suc a * capped b) (suc a * b) (omega (arith, one, e)) (omega (arith, other, l))
