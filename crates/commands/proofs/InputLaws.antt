-- The numbers of an input file are of 32 bits.
use Rattle.std.proofs.Common.{◌≡◌, ℕ, zero, suc, ◌+◌, ◌^◌, ◌<◌, ◌≤◌, ◌==◌, ◌&&◌, Bool, true, false, nat_lt, nat_le, if◌then◌else◌, List, [], ◌∷◌, drop, slice_index, ℤ, pos, neg_ℤ, FitsSigned, Option, Some, None, Result, Ok, Err, refl, subst, arith, w32}
use Rattle.std.proofs.lemmas.Bool.Decides.{nat_tests}
use Rattle.std.proofs.lemmas.Int.{ints}
use Rattle.std.specs.Str.Lines.{lines}
use Rattle.std.specs.Str.Parse.{digits_value}
use Rattle.kernel_code.specs.Whole.{IsInput}
use Rattle.rv32_emulator.specs.InputFile.{is_numeral, number_of, before_others, numbers_from, numbers_of}

fits_pos : (n : ℕ) → n < 2 ^ 31 → FitsSigned w32 (pos n)
fits_pos n small = record { sfits = omega (arith, ints, small) }

fits_neg : (n : ℕ) → n ≤ 2 ^ 31 → FitsSigned w32 (neg_ℤ (pos n))
fits_neg zero small = record { sfits = omega (arith, ints) }
fits_neg (suc n) small = record { sfits = omega (arith, ints, small) }

right_true : (a b : Bool) → (a && b) ≡ true → b ≡ true
right_true true b both = both
right_true false b both = absurd (let x : ⊥ = cc in x)

at_most : (v m : ℕ) → nat_le v m ≡ true → v ≤ m
at_most v m is = grind (arith, nat_tests)

below : (v m : ℕ) → nat_lt v m ≡ true → v < m
below v m is = grind (arith, nat_tests)

some_of : (b : Bool) (z w : ℤ) → (b ≡ true → FitsSigned w32 z) → (if b then Some z else None) ≡ Some w → FitsSigned w32 w
some_of true z w fits is = let same : z ≡ w = cc in subst (FitsSigned w32) same (fits refl)
some_of false z w fits is = absurd (let x : ⊥ = cc in x)

one_of : (b : Bool) (x y : Option ℤ) (w : ℤ) → (x ≡ Some w → FitsSigned w32 w) → (y ≡ Some w → FitsSigned w32 w) → (if b then x else y) ≡ Some w → FitsSigned w32 w
one_of true x y w first second is = first is
one_of false x y w first second is = second is

number_fits : (line : List ℕ) (w : ℤ) → number_of line ≡ Some w → FitsSigned w32 w
number_fits line w is =
    let less = digits_value 10 (drop 1 line) in
    let more = digits_value 10 line in
    one_of (slice_index line 0 == 45) _ _ w
    (some_of (is_numeral (drop 1 line) && nat_le less (2 ^ 31)) (neg_ℤ (pos less)) w (λ both. fits_neg less (at_most less (2 ^ 31) (right_true (is_numeral (drop 1 line)) _ both))))
    (some_of (is_numeral line && nat_lt more (2 ^ 31)) (pos more) w (λ both. fits_pos more (below more (2 ^ 31) (right_true (is_numeral line) _ both)))) is

before_fits : (line : ℕ) (first : Option ℤ) (others : Result (List ℤ) ℕ) (ns : List ℤ) → ((z : ℤ) → first ≡ Some z → FitsSigned w32 z)
    → ((ms : List ℤ) → others ≡ Ok ms → IsInput ms) → before_others line first others ≡ Ok ns → IsInput ns
before_fits line None others ns one rest is = absurd (let x : ⊥ = cc in x)
before_fits line (Some z) (Err later) ns one rest is = absurd (let x : ⊥ = cc in x)
before_fits line (Some z) (Ok ms) ns one rest is = let same : z ∷ ms ≡ ns = cc in subst IsInput same (one z refl, rest ms refl)

lines_fit : (line : ℕ) (texts : List (List ℕ)) (ns : List ℤ) → numbers_from line texts ≡ Ok ns → IsInput ns
lines_fit line [] ns is = let same : [] ≡ ns = cc in subst IsInput same tt
lines_fit line (text ∷ texts) ns is =
    before_fits line (number_of text) (numbers_from (line + 1) texts) ns (number_fits text) (lines_fit (line + 1) texts) is

-- the numbers of an input are an input
pub numbers_fit : (bytes : List ℕ) (ns : List ℤ) → numbers_of bytes ≡ Ok ns → IsInput ns
numbers_fit bytes ns is = lines_fit 1 (lines bytes) ns is
