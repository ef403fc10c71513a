-- Moduli: a remainder, and the divisor added where the product of both is negative.
use Rattle.std.proofs.Common.{◌≡◌, ℕ, zero, suc, ◌*◌, ◌%◌, ◌^◌, ◌==◌, ◌≤◌, ◌<◌, Bool, true, false, not, cond, ◌&&◌, ◌||◌, ℤ, pos, negsuc, neg_ℤ, ◌+ℤ◌, ◌*ℤ◌, int_lt, unsigned_abs, FitsSigned, refl, sym, ap, subst, ◌∙◌, arith, lit<}
use Rattle.std.specs.Int.{w32, w64}
use Rattle.std.specs.Ordering.{int_eq}
use Rattle.std.proofs.lemmas.Bool.Decides.{nat_tests}
use Rattle.std.proofs.lemmas.Int.{ints, rem_below, fits_signed_mul}
use Rattle.std.proofs.Math.Nat.{mul-pos}
use Rattle.rv_semantics.specs.Arithmetic.{sum_32, signed, upper_word, flag, register_result}
use Rattle.rv_isa.specs.declared.ops.RegisterOp.TheVariants.{Rem}
use Rattle.ada_meaning.specs.Arithmetic.{is_within, base_range, modulo}
use Rattle.kernel_code.proofs.Sums.{signed_fits, range_when, sum_is}
use Rattle.kernel_code.proofs.Divisions.{remainder_is, remainder_small}

-- the upper word of a product has its sign
sign_test : (z : ℤ) → FitsSigned w64 z → int_lt (signed (upper_word z)) (signed 0) ≡ int_lt z (pos 0)
sign_test (pos n) fits = let f = fits.sfits in grind (arith, ints, nat_tests)
sign_test (negsuc n) fits = let f = fits.sfits in grind (arith, ints, nat_tests)

-- two numbers of different signs, neither of which is 0
abbrev pub differ : (r y : ℤ) → Bool
differ r y = not (int_eq r (pos 0)) && (int_lt r (pos 0) && int_lt (pos 0) y || int_lt (pos 0) r && int_lt y (pos 0))

below_zero : (m : ℕ) → 0 < m → int_lt (neg_ℤ (pos m)) (pos 0) ≡ true
below_zero zero some = absurd (omega arith)
below_zero (suc m) some = refl

not_below : (m : ℕ) → int_lt (pos m) (pos 0) ≡ false
not_below m = grind (arith, nat_tests)

none_times : (m : ℕ) → int_lt (neg_ℤ (pos (0 * m))) (pos 0) ≡ false
none_times m = ap (λ n. int_lt (neg_ℤ (pos n)) (pos 0)) (let e : 0 * m ≡ 0 = omega arith in e)

times_none : (m : ℕ) → int_lt (neg_ℤ (pos (suc m * 0))) (pos 0) ≡ false
times_none m = ap (λ n. int_lt (neg_ℤ (pos n)) (pos 0)) (let e : suc m * 0 ≡ 0 = omega arith in e)

product_sign : (r y : ℤ) → int_lt (r *ℤ y) (pos 0) ≡ differ r y
product_sign (pos zero) (pos b) = not_below (0 * b) ∙ sym (let e : differ (pos 0) (pos b) ≡ false = grind (arith, ints, nat_tests) in e)
product_sign (pos (suc a)) (pos zero) = not_below (suc a * 0) ∙ sym (let e : differ (pos (suc a)) (pos 0) ≡ false = grind (arith, ints, nat_tests) in e)
product_sign (pos (suc a)) (pos (suc b)) = not_below (suc a * suc b) ∙ sym (let e : differ (pos (suc a)) (pos (suc b)) ≡ false = grind (arith, ints, nat_tests) in e)
product_sign (pos zero) (negsuc b) = none_times (suc b) ∙ sym (let e : differ (pos 0) (negsuc b) ≡ false = grind (arith, ints, nat_tests) in e)
product_sign (pos (suc a)) (negsuc b) =
    below_zero (suc a * suc b) (mul-pos (let e : 0 < suc a = omega arith in e) (let e : 0 < suc b = omega arith in e))
    ∙ sym (let e : differ (pos (suc a)) (negsuc b) ≡ true = grind (arith, ints, nat_tests) in e)
product_sign (negsuc a) (pos zero) = times_none a ∙ sym (let e : differ (negsuc a) (pos 0) ≡ false = grind (arith, ints, nat_tests) in e)
product_sign (negsuc a) (pos (suc b)) =
    below_zero (suc a * suc b) (mul-pos (let e : 0 < suc a = omega arith in e) (let e : 0 < suc b = omega arith in e))
    ∙ sym (let e : differ (negsuc a) (pos (suc b)) ≡ true = grind (arith, ints, nat_tests) in e)
product_sign (negsuc a) (negsuc b) = not_below (suc a * suc b) ∙ sym (let e : differ (negsuc a) (negsuc b) ≡ false = grind (arith, ints, nat_tests) in e)

size_of : (a : ℕ) → a < 2 ^ 32 → unsigned_abs (signed a) ≤ 2 ^ 31
size_of a small = omega (arith, ints)

-- the word that the code computes of a remainder and the divisor
abbrev pub moved_by : (r b : ℕ) → ℕ
moved_by r b = sum_32 r (flag (int_lt (signed (upper_word (signed r *ℤ signed b))) (signed 0)) * b % 2 ^ 32)

pub moved_is : (r b : ℕ) → r < 2 ^ 32 → b < 2 ^ 32 → unsigned_abs (signed r) < unsigned_abs (signed b)
    → (signed (moved_by r b) ≡ cond (differ (signed r) (signed b)) (signed r +ℤ signed b) (signed r)) × (is_within base_range (cond (differ (signed r) (signed b)) (signed r +ℤ signed b) (signed r)) ≡ true)
moved_is r b small_r small_b less =
    let fits : FitsSigned w64 (signed r *ℤ signed b) = fits_signed_mul w64 (signed r) (signed b) (2 ^ 31) (2 ^ 31) (size_of r small_r) (size_of b small_b) (lit< tt) in
    let test : int_lt (signed (upper_word (signed r *ℤ signed b))) (signed 0) ≡ differ (signed r) (signed b) = sign_test (signed r *ℤ signed b) fits ∙ product_sign (signed r) (signed b) in
    let by = by_test (differ (signed r) (signed b)) refl in
    (ap (λ t. signed (sum_32 r (flag t * b % 2 ^ 32))) test ∙ by.0, by.1)
  where
    apart_fits : differ (signed r) (signed b) ≡ true → FitsSigned w32 (signed r +ℤ signed b)
    apart_fits is = record { sfits = grind (arith, ints, nat_tests) }

    by_test : (t : Bool) → differ (signed r) (signed b) ≡ t
        → (signed (sum_32 r (flag t * b % 2 ^ 32)) ≡ cond t (signed r +ℤ signed b) (signed r)) × (is_within base_range (cond t (signed r +ℤ signed b) (signed r)) ≡ true)
    by_test true is =
        (ap (λ x. signed (sum_32 r x)) (let e : 1 * b % 2 ^ 32 ≡ b = omega arith in e) ∙ sum_is r b small_r small_b (apart_fits is), range_when (signed r +ℤ signed b) (apart_fits is))
    by_test false is =
        (ap signed (let e : sum_32 r (0 * b % 2 ^ 32) ≡ r = omega arith in e), range_when (signed r) (signed_fits r small_r))

pub modulus_is : (a b : ℕ) → b < 2 ^ 32 → (b == 0) ≡ false
    → (signed (moved_by (register_result Rem a b) b) ≡ modulo (signed a) (signed b)) × (is_within base_range (modulo (signed a) (signed b)) ≡ true)
modulus_is a b small some =
    let is = remainder_is a b small some in
    let more : 0 < unsigned_abs (signed b) = grind (arith, ints, nat_tests) in
    let less : unsigned_abs (signed (register_result Rem a b)) < unsigned_abs (signed b) = subst (λ z. unsigned_abs z < unsigned_abs (signed b)) (sym is) (rem_below (signed a) (signed b) more) in
    let moved = moved_is (register_result Rem a b) b (remainder_small a b small some) small less in
    (moved.0 ∙ ap (λ z. cond (differ z (signed b)) (z +ℤ signed b) z) is, subst (λ z. is_within base_range (cond (differ z (signed b)) (z +ℤ signed b) z) ≡ true) is moved.1)
