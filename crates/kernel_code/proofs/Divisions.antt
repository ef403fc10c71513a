-- Quotients, remainders and moduli of words.
use Rattle.std.proofs.Common.{◌≡◌, ◌≢◌, ℕ, zero, suc, ◌+◌, ◌-◌, ◌*◌, ◌/◌, ◌%◌, ◌^◌, ◌==◌, ◌≤◌, ◌<◌, Bool, true, false, not, cond, ◌&&◌, ◌||◌, nat_lt, ℤ, pos, negsuc, neg_ℤ, ◌+ℤ◌, ◌*ℤ◌, int_lt, int_div, int_rem, unsigned_abs, FitsSigned, refl, sym, ap, ap₂, subst, ◌∙◌, arith, lit<}
use Rattle.std.specs.Int.{w32}
use Rattle.std.specs.Ordering.{int_eq}
use Rattle.std.proofs.lemmas.Bool.Decides.{nat_tests}
use Rattle.std.proofs.lemmas.Int.{ints, rem_below, fits_signed_from_abs}
use Rattle.std.proofs.Math.Nat.{mul-pos, div-le_self}
use Rattle.rv_semantics.specs.Arithmetic.{sum_32, difference_32, signed, flag, register_result}
use Rattle.rv_isa.specs.declared.ops.RegisterOp.TheVariants.{Div, Rem}
use Rattle.ada_meaning.specs.Arithmetic.{is_within, base_range}
use Rattle.kernel_code.proofs.Sums.{signed_word, word_small, signed_fits, range_when}

-- a quotient is a word but for the least number divided by -1
half : (a b : ℕ) → 1 < b → a ≤ 2 ^ 31 → a / b < 2 ^ 31
half zero b more few = omega (arith, div-le_self 0 b)
half (suc a) b more few = let some : 0 < suc a = omega arith in let e : suc a / b < suc a = Rattle.std.proofs.Math.Nat.div-lt_self some more in omega (arith, e)

quotient_fits : (x y : ℤ) → FitsSigned w32 x → (x ≡ negsuc (2 ^ 31 - 1) → y ≡ negsuc 0 → ⊥) → FitsSigned w32 (int_div x y)
quotient_fits (pos a) (pos b) fits other = record { sfits = omega (arith, div-le_self a b, fits.sfits) }
quotient_fits (pos a) (negsuc b) fits other = below (a / suc b) (omega (arith, div-le_self a (suc b), fits.sfits))
  where
    below : (n : ℕ) → n ≤ 2 ^ 31 → FitsSigned w32 (neg_ℤ (pos n))
    below zero h = record { sfits = lit< tt }
    below (suc n) h = record { sfits = omega arith }
quotient_fits (negsuc a) (pos b) fits other = below (suc a / b) (omega (arith, div-le_self (suc a) b, fits.sfits))
  where
    below : (n : ℕ) → n ≤ 2 ^ 31 → FitsSigned w32 (neg_ℤ (pos n))
    below zero h = record { sfits = lit< tt }
    below (suc n) h = record { sfits = omega arith }
quotient_fits (negsuc a) (negsuc zero) fits other =
    let small = fits.sfits in
    record { sfits = omega (arith, div-le_self (suc a) 1, below) }
  where
    below : suc a < 2 ^ 31
    below = by_case (Rattle.std.proofs.Common.nat_eq a (2 ^ 31 - 1)) refl
      where
        by_case : (b : Bool) → Rattle.std.proofs.Common.nat_eq a (2 ^ 31 - 1) ≡ b → suc a < 2 ^ 31
        by_case true e = absurd (other (ap negsuc (let f : a ≡ 2 ^ 31 - 1 = grind (arith, nat_tests) in f)) refl)
        by_case false e = let small = fits.sfits in grind (arith, nat_tests)
quotient_fits (negsuc a) (negsuc (suc b)) fits other = record { sfits = half (suc a) (suc (suc b)) (omega arith) (omega (arith, fits.sfits)) }

-- the test of the code: x13 is 0 where the divisor is 0, or the division is that one
three_flags : (x y u : Bool) (z : ℕ) → z ≡ 0 → not (sum_32 (flag x) (flag y) * flag u % 2 ^ 32 == z) ≡ ((x || y) && u)
three_flags true true true z is = ap (λ n. not (2 == n)) is
three_flags true true false z is = ap (λ n. not (0 == n)) is
three_flags true false true z is = ap (λ n. not (1 == n)) is
three_flags true false false z is = ap (λ n. not (0 == n)) is
three_flags false true true z is = ap (λ n. not (1 == n)) is
three_flags false true false z is = ap (λ n. not (0 == n)) is
three_flags false false true z is = ap (λ n. not (0 == n)) is
three_flags false false false z is = ap (λ n. not (0 == n)) is

abbrev pub divides_well : (x y : ℤ) → Bool
divides_well x y = not (int_eq y (pos 0)) && is_within base_range (int_div x y)

pub divide_checks : (a b z : ℕ) → a < 2 ^ 32 → b < 2 ^ 32 → z ≡ 0
    → not (sum_32 (flag (nat_lt z (difference_32 a (2 ^ 31)))) (flag (nat_lt z (sum_32 b 1))) * flag (nat_lt z b) % 2 ^ 32 == z) ≡ divides_well (signed a) (signed b)
divide_checks a b z small_a small_b is =
    three_flags (nat_lt z (difference_32 a (2 ^ 31))) (nat_lt z (sum_32 b 1)) (nat_lt z b) z is
    ∙ by_divisor (nat_lt z b) refl
  where
    fits_else : ((nat_lt z (difference_32 a (2 ^ 31)) || nat_lt z (sum_32 b 1)) ≡ true) → FitsSigned w32 (int_div (signed a) (signed b))
    fits_else holds = quotient_fits (signed a) (signed b) (signed_fits a small_a) (λ e f.
        let least : a ≡ 2 ^ 31 = grind (arith, ints, nat_tests) in
        let minus : b ≡ 2 ^ 32 - 1 = grind (arith, ints, nat_tests) in
        let no : (nat_lt z (difference_32 a (2 ^ 31)) || nat_lt z (sum_32 b 1)) ≡ false = rw (is, least, minus) refl in
        absurd (cc (sym holds ∙ no)))

    by_numerator : (x : Bool) → (nat_lt z (difference_32 a (2 ^ 31)) || nat_lt z (sum_32 b 1)) ≡ x → x ≡ is_within base_range (int_div (signed a) (signed b))
    by_numerator true e = sym (range_when (int_div (signed a) (signed b)) (fits_else e))
    by_numerator false e =
        let least : a ≡ 2 ^ 31 = grind (arith, nat_tests) in
        let minus : b ≡ 2 ^ 32 - 1 = grind (arith, nat_tests) in
        rw (least, minus) refl

    by_divisor : (u : Bool) → nat_lt z b ≡ u → ((nat_lt z (difference_32 a (2 ^ 31)) || nat_lt z (sum_32 b 1)) && u) ≡ divides_well (signed a) (signed b)
    by_divisor true e =
        let some : int_eq (signed b) (pos 0) ≡ false = grind (arith, ints, nat_tests) in
        and_true (nat_lt z (difference_32 a (2 ^ 31)) || nat_lt z (sum_32 b 1)) ∙ (by_numerator (nat_lt z (difference_32 a (2 ^ 31)) || nat_lt z (sum_32 b 1)) refl ∙ ap (λ x. not x && is_within base_range (int_div (signed a) (signed b))) (sym some))
      where
        and_true : (x : Bool) → (x && true) ≡ x
        and_true true = refl
        and_true false = refl
    by_divisor false e =
        let none : int_eq (signed b) (pos 0) ≡ true = grind (arith, ints, nat_tests) in
        and_false (nat_lt z (difference_32 a (2 ^ 31)) || nat_lt z (sum_32 b 1)) ∙ ap (λ x. not x && is_within base_range (int_div (signed a) (signed b))) (sym none)
      where
        and_false : (x : Bool) → (x && false) ≡ false
        and_false true = refl
        and_false false = refl

-- what the instructions give
pub quotient_is : (a b : ℕ) → (b == 0) ≡ false → FitsSigned w32 (int_div (signed a) (signed b)) → signed (register_result Div a b) ≡ int_div (signed a) (signed b)
quotient_is a b some fits = rw some (signed_word (int_div (signed a) (signed b)) fits)

pub quotient_small : (a b : ℕ) → (b == 0) ≡ false → FitsSigned w32 (int_div (signed a) (signed b)) → register_result Div a b < 2 ^ 32
quotient_small a b some fits = rw some (word_small (int_div (signed a) (signed b)) fits)

rem_fits : (a b : ℕ) → b < 2 ^ 32 → (b == 0) ≡ false → FitsSigned w32 (int_rem (signed a) (signed b))
rem_fits a b small some =
    let size : unsigned_abs (signed b) ≤ 2 ^ 31 = omega (arith, ints) in
    let more : 0 < unsigned_abs (signed b) = grind (arith, ints, nat_tests) in
    fits_signed_from_abs w32 (int_rem (signed a) (signed b)) (omega (arith, rem_below (signed a) (signed b) more))

pub remainder_is : (a b : ℕ) → b < 2 ^ 32 → (b == 0) ≡ false → signed (register_result Rem a b) ≡ int_rem (signed a) (signed b)
remainder_is a b small some = rw some (signed_word (int_rem (signed a) (signed b)) (rem_fits a b small some))

pub remainder_small : (a b : ℕ) → b < 2 ^ 32 → (b == 0) ≡ false → register_result Rem a b < 2 ^ 32
remainder_small a b small some = rw some (word_small (int_rem (signed a) (signed b)) (rem_fits a b small some))

pub remainder_range : (a b : ℕ) → b < 2 ^ 32 → (b == 0) ≡ false → is_within base_range (int_rem (signed a) (signed b)) ≡ true
remainder_range a b small some = range_when (int_rem (signed a) (signed b)) (rem_fits a b small some)
