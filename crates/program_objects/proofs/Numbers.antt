-- Numbers that follow one another.
use Rattle.std.proofs.Common.{◌≡◌, ℕ, zero, suc, ◌+◌, ◌<◌, List, ◌∷◌, ◌++◌, length, refl, ap, ◌∙◌, arith}
use Rattle.cov_base.specs.Lists.{Everywhere}
use Rattle.ada_meaning.specs.Objects.{AreDistinct}
use Rattle.ada_meaning.specs.Obligations.{numbers}

pub numbers_joined : (n a b : ℕ) → numbers n a ++ numbers (n + a) b ≡ numbers n (a + b)
numbers_joined n zero b =
    let start : n + zero ≡ n = omega arith in
    let count : b ≡ zero + b = omega arith in
    ap (λ m. numbers m b) start ∙ ap (λ m. numbers n m) count
numbers_joined n (suc a) b =
    let start : n + suc a ≡ suc n + a = omega arith in
    let count : suc (a + b) ≡ suc a + b = omega arith in
    ap (λ m. n ∷ (numbers (suc n) a ++ numbers m b)) start ∙ (ap (λ ns. n ∷ ns) (numbers_joined (suc n) a b) ∙ ap (λ m. numbers n m) count)

pub numbers_long : (from count : ℕ) → length (numbers from count) ≡ count
numbers_long from zero = refl
numbers_long from (suc count) = ap suc (numbers_long (suc from) count)

-- two parts, each with the numbers that follow those before it
pub both_numbered : (n a b : ℕ) (ns ms : List ℕ) → ns ≡ numbers n a → ms ≡ numbers (n + a) b → ns ++ ms ≡ numbers n (a + b)
both_numbered n a b ns ms h g = ap (λ os. os ++ ms) h ∙ (ap (λ os. numbers n a ++ os) g ∙ numbers_joined n a b)

below_all : (k n count : ℕ) → k < n → Everywhere (λ m. k ≡ m → ⊥) (numbers n count)
below_all k n zero less = tt
below_all k n (suc count) less = ((λ same. absurd (omega (arith, less, same))), below_all k (suc n) count (omega (arith, less)))

pub distinct_numbers : (n count : ℕ) → AreDistinct (numbers n count)
distinct_numbers n zero = tt
distinct_numbers n (suc count) = (below_all n (suc n) count (omega (arith)), distinct_numbers (suc n) count)
