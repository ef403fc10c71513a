-- The arithmetic of range checks, of addresses, and of the least number.
use Rattle.std.proofs.Common.{◌≡◌, ℕ, ◌+◌, ◌-◌, ◌*◌, ◌%◌, ◌^◌, ◌==◌, ◌≤◌, ◌<◌, Bool, true, false, not, ◌&&◌, nat_lt, ℤ, pos, neg_ℤ, nat_abs, ◌-ℤ◌, ◌*ℤ◌, int_lt, int_le, FitsSigned, refl, ap, ◌∙◌, arith}
use Rattle.std.specs.Int.{w32, int_wrap}
use Rattle.std.proofs.lemmas.Bool.Decides.{nat_tests}
use Rattle.std.proofs.lemmas.Int.{ints, wrapping_sub_onto, wrapping_mul_onto, int_wrap-mul_left}
use Rattle.rv_semantics.specs.Arithmetic.{sum_32, difference_32, signed, unsigned, flag}
use Rattle.ada_meaning.specs.Arithmetic.{is_within, base_range, natural}
use Rattle.kernel_ir.specs.World.{data_word, area_end, in_area}
use Rattle.rv_isa.specs.Immediates.{sign_12, upper_value}
use Rattle.kernel_code.specs.Words.{high, low}
use Rattle.kernel_code.specs.SimpleCode.{area_words}
use Rattle.kernel_code.proofs.Sums.{constant_is}

pub negate_test : (v : ℕ) → v < 2 ^ 32 → not (v == 2 ^ 31) ≡ is_within base_range (neg_ℤ (signed v))
negate_test v small = grind (arith, ints, nat_tests)

pub negate_is : (v z : ℕ) → v < 2 ^ 32 → z ≡ 0 → is_within base_range (neg_ℤ (signed v)) ≡ true → signed (difference_32 z v) ≡ neg_ℤ (signed v)
negate_is v z small is fits = grind (arith, ints, nat_tests)

pub absolute_test : (v : ℕ) → v < 2 ^ 32 → not (v == 2 ^ 31) ≡ is_within base_range (pos (nat_abs (signed v)))
absolute_test v small = grind (arith, ints, nat_tests)

-- times 1 or -1
abbrev pub turned : (v z : ℕ) → ℕ
turned v z = v * difference_32 (sum_32 z 1) (sum_32 (flag (int_lt (signed v) (signed 0))) (flag (int_lt (signed v) (signed 0)))) % 2 ^ 32

pub turned_is : (v z : ℕ) → v < 2 ^ 32 → z ≡ 0 → is_within base_range (pos (nat_abs (signed v))) ≡ true → signed (turned v z) ≡ pos (nat_abs (signed v))
turned_is v z small is fits = by_sign (int_lt (signed v) (signed 0)) refl
  where
    one : sum_32 z 1 ≡ 1
    one = omega arith

    by_sign : (b : Bool) → int_lt (signed v) (signed 0) ≡ b → signed (v * difference_32 (sum_32 z 1) (sum_32 (flag b) (flag b)) % 2 ^ 32) ≡ pos (nat_abs (signed v))
    by_sign true e =
        ap (λ x. signed (v * difference_32 x 2 % 2 ^ 32)) one
        ∙ (let f : signed (v * (2 ^ 32 - 1) % 2 ^ 32) ≡ pos (nat_abs (signed v)) = grind (arith, ints, nat_tests) in f)
    by_sign false e =
        ap (λ x. signed (v * difference_32 x 0 % 2 ^ 32)) one
        ∙ (let f : signed (v * 1 % 2 ^ 32) ≡ pos (nat_abs (signed v)) = grind (arith, ints, nat_tests) in f)

-- a number between two others
pub bounds_test : (x l h : ℤ) (z : ℕ) → z ≡ 0 → (sum_32 (flag (int_lt x l)) (flag (int_lt h x)) == z) ≡ is_within (record { low = l; high = h }) x
bounds_test x l h z is = two_flags (int_lt x l) (int_lt h x) ∙ both
  where
    two_flags : (p q : Bool) → (sum_32 (flag p) (flag q) == z) ≡ (not p && not q)
    two_flags true true = ap (λ n. 2 == n) is
    two_flags true false = ap (λ n. 1 == n) is
    two_flags false true = ap (λ n. 1 == n) is
    two_flags false false = ap (λ n. 0 == n) is

    below : (a b : ℤ) → not (int_lt a b) ≡ int_le b a
    below a b = grind (arith, ints)

    both : (not (int_lt x l) && not (int_lt h x)) ≡ (int_le l x && int_le x h)
    both = λ i. below x l i && below h x i

-- the distance of an index
pub index_is : (v n : ℕ) (l : ℤ) → v < 2 ^ 32 → FitsSigned w32 l → n < 2 ^ 31 → signed (difference_32 v (unsigned l) * n % 2 ^ 32) ≡ int_wrap w32 ((signed v -ℤ l) *ℤ pos n)
index_is v n l small fits few =
    wrapping_mul_onto w32 (difference_32 v (unsigned l)) (pos n) (let x : difference_32 v (unsigned l) < 2 ^ 32 = omega arith in x) (record { sfits = few })
    ∙ (ap (λ x. int_wrap w32 (x *ℤ pos n)) (wrapping_sub_onto w32 v l small fits) ∙ int_wrap-mul_left w32 (signed v -ℤ l) (pos n))

-- words in the data area: the distance from its start is below a bound
pub area_test : (v words : ℕ) → v < 2 ^ 32 → nat_lt (difference_32 v 0x400000) (area_words + 1 - words) ≡ in_area (signed v) words
area_test v words small = grind (arith, ints, nat_tests)

pub area_is : (v words : ℕ) → v < 2 ^ 32 → in_area (signed v) words ≡ true → (natural (signed v) ≡ v) × (data_word ≤ v) × (v ≤ area_end - words) × (words ≤ area_words)
area_is v words small is =
    let e : natural (signed v) ≡ v = natural_is (let x : v < 2 ^ 31 = grind (arith, ints, nat_tests) in x) in
    (e, grind (arith, ints, nat_tests), grind (arith, ints, nat_tests), grind (arith, ints, nat_tests))
  where
    natural_is : v < 2 ^ 31 → natural (signed v) ≡ v
    natural_is few = ap natural (Rattle.std.proofs.lemmas.Int.to_z_pos w32 v few)

-- and with the constant of the code
pub area_checks : (v words : ℕ) → v < 2 ^ 32 → nat_lt (difference_32 v (upper_value 0x400)) (sum_32 (upper_value (high (area_words + 1 - words))) (sign_12 (low (area_words + 1 - words)))) ≡ in_area (signed v) words
area_checks v words small = ap (λ x. nat_lt (difference_32 v (upper_value 0x400)) x) (constant_is (area_words + 1 - words) (omega arith)) ∙ area_test v words small
