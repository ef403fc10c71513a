-- The arithmetic of words, as numbers with a sign.
use Rattle.std.proofs.Common.{◌≡◌, ℕ, suc, ◌+◌, ◌-◌, ◌*◌, ◌%◌, ◌^◌, ◌==◌, ◌≤◌, ◌<◌, Bool, true, nat_lt, ℤ, pos, negsuc, ◌+ℤ◌, ◌-ℤ◌, ◌*ℤ◌, int_lt, unsigned_abs, FitsSigned, refl, sym, ap, ◌∙◌, arith, rules, lit<}
use Rattle.std.specs.Int.{w32, w64, cast_unsigned, int_shr, int_wrap}
use Rattle.std.proofs.lemmas.Bool.Decides.{nat_tests}
use Rattle.std.proofs.lemmas.Int.{ints, to_z-of_z, int_wrap_fits, fits_signed_mul, wrapping_add-bits, wrapping_sub-bits, wrapping_mul-bits}
use Rattle.rv_isa.specs.Immediates.{sign_12, upper_value}
use Rattle.rv_semantics.specs.Arithmetic.{sum_32, difference_32, signed, unsigned, upper_word, flag}
use Rattle.placed_code.proofs.ReachLaws.{constants_split}
use Rattle.ada_meaning.specs.Arithmetic.{is_within, base_range}
use Rattle.kernel_code.specs.Words.{high, low, slot_distance}

-- the address of a slot
pub far_slot : (fp j : ℕ) → j + 1 ≤ fp → 4 * fp < 2 ^ 32 → sum_32 (sum_32 (upper_value (high (slot_distance j))) (4 * fp)) (sign_12 (low (slot_distance j))) ≡ 4 * (fp - (j + 1))
far_slot fp j below small =
    constants_split (slot_distance j) (4 * fp) (omega arith) (omega arith)
    ∙ (let e : sum_32 (4 * fp) (slot_distance j) ≡ 4 * (fp - (j + 1)) = omega arith in e)

-- a constant
pub constant_is : (n : ℕ) → n < 2 ^ 32 → sum_32 (upper_value (high n)) (sign_12 (low n)) ≡ n
constant_is n small = grind (arith, nat_tests)

-- the word of a number, and the number of a word
pub signed_word : (z : ℤ) → FitsSigned w32 z → signed (unsigned z) ≡ z
signed_word z fits = to_z-of_z w32 z fits

pub word_small : (z : ℤ) → FitsSigned w32 z → unsigned z < 2 ^ 32
word_small (pos n) fits = omega (arith, fits.sfits)
word_small (negsuc n) fits = omega arith

pub signed_fits : (a : ℕ) → a < 2 ^ 32 → FitsSigned w32 (signed a)
signed_fits a small = search rules

-- sums and differences overflow where they are on the wrong side of an operand
pub sum_fits : (a b : ℕ) → a < 2 ^ 32 → b < 2 ^ 32 → FitsSigned w32 (signed a +ℤ signed b) → flag (int_lt (signed (sum_32 a b)) (signed a)) ≡ flag (int_lt (signed b) (signed 0))
sum_fits a b small_a small_b fits = let f = fits.sfits in grind (arith, ints, nat_tests)

pub sum_is : (a b : ℕ) → a < 2 ^ 32 → b < 2 ^ 32 → FitsSigned w32 (signed a +ℤ signed b) → signed (sum_32 a b) ≡ signed a +ℤ signed b
sum_is a b small_a small_b fits = wrapping_add-bits w32 a b small_a small_b ∙ int_wrap_fits w32 (signed a +ℤ signed b) fits

pub difference_is : (a b : ℕ) → a < 2 ^ 32 → b < 2 ^ 32 → FitsSigned w32 (signed a -ℤ signed b) → signed (difference_32 a b) ≡ signed a -ℤ signed b
difference_is a b small_a small_b fits = wrapping_sub-bits w32 a b small_a small_b ∙ int_wrap_fits w32 (signed a -ℤ signed b) fits

abbrev pub fits_32 : ℤ → Bool
fits_32 (pos n) = nat_lt n (2 ^ 31)
fits_32 (negsuc n) = nat_lt n (2 ^ 31)

pub sum_test : (a b : ℕ) → a < 2 ^ 32 → b < 2 ^ 32 → (flag (int_lt (signed (sum_32 a b)) (signed a)) == flag (int_lt (signed b) (signed 0))) ≡ fits_32 (signed a +ℤ signed b)
sum_test a b small_a small_b = grind (arith, ints, nat_tests)

pub difference_test : (a b : ℕ) → a < 2 ^ 32 → b < 2 ^ 32 → (flag (int_lt (signed (difference_32 a b)) (signed a)) == flag (int_lt (signed 0) (signed b))) ≡ fits_32 (signed a -ℤ signed b)
difference_test a b small_a small_b = grind (arith, ints, nat_tests)

-- the upper word of a product that fits is a copy of the lower word's sign
pub product_test : (z : ℤ) → FitsSigned w64 z → (upper_word z == unsigned (int_shr (signed (cast_unsigned w64 z % 2 ^ 32)) 31)) ≡ fits_32 z
product_test z fits = let f = fits.sfits in grind (arith, ints, nat_tests)

-- the numbers of 32 bits
pub fits_range : (z : ℤ) → fits_32 z ≡ is_within base_range z
fits_range (pos n) = grind (arith, ints, nat_tests)
fits_range (negsuc n) = grind (arith, ints, nat_tests)

pub fits_when : (z : ℤ) → is_within base_range z ≡ true → FitsSigned w32 z
fits_when (pos n) is = record { sfits = grind (arith, ints, nat_tests) }
fits_when (negsuc n) is = record { sfits = grind (arith, ints, nat_tests) }

pub range_when : (z : ℤ) → FitsSigned w32 z → is_within base_range z ≡ true
range_when (pos n) fits = let f = fits.sfits in grind (arith, ints, nat_tests)
range_when (negsuc n) fits = let f = fits.sfits in grind (arith, ints, nat_tests)

-- products
signed_size : (a : ℕ) → a < 2 ^ 32 → unsigned_abs (signed a) ≤ 2 ^ 31
signed_size a small = omega (arith, ints)

pub product_fits : (a b : ℕ) → a < 2 ^ 32 → b < 2 ^ 32 → FitsSigned w64 (signed a *ℤ signed b)
product_fits a b small_a small_b = fits_signed_mul w64 (signed a) (signed b) (2 ^ 31) (2 ^ 31) (signed_size a small_a) (signed_size b small_b) (lit< tt)

lower_word : (z : ℤ) → FitsSigned w64 z → signed (cast_unsigned w64 z % 2 ^ 32) ≡ int_wrap w32 z
unfolding int_wrap
lower_word (pos n) fits = ap (λ x. signed x) refl
lower_word (negsuc n) fits = let f = fits.sfits in ap (λ x. signed x) (let e : (2 ^ 64 - suc n) % 2 ^ 32 ≡ 2 ^ 32 - 1 - n % 2 ^ 32 = omega arith in e)

pub product_checks : (a b : ℕ) → a < 2 ^ 32 → b < 2 ^ 32 → (upper_word (signed a *ℤ signed b) == unsigned (int_shr (signed (a * b % 2 ^ 32)) 31)) ≡ is_within base_range (signed a *ℤ signed b)
product_checks a b small_a small_b =
    let fits = product_fits a b small_a small_b in
    ap (λ x. upper_word (signed a *ℤ signed b) == unsigned (int_shr x 31)) (wrapping_mul-bits w32 a b small_a small_b ∙ sym (lower_word (signed a *ℤ signed b) fits))
    ∙ (product_test (signed a *ℤ signed b) fits ∙ fits_range (signed a *ℤ signed b))

pub product_is : (a b : ℕ) → a < 2 ^ 32 → b < 2 ^ 32 → FitsSigned w32 (signed a *ℤ signed b) → signed (a * b % 2 ^ 32) ≡ signed a *ℤ signed b
product_is a b small_a small_b fits = wrapping_mul-bits w32 a b small_a small_b ∙ int_wrap_fits w32 (signed a *ℤ signed b) fits
