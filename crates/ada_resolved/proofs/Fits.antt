-- The base range is that of 32 bits.
use Rattle.std.proofs.Common.{◌≡◌, ℕ, Bool, true, false, ℤ, pos, negsuc, unsigned_abs, FitsSigned, Option, Some, None, if◌then◌else◌, refl, ap, sym, ◌∙◌, arith}
use Rattle.std.specs.Result.{OkIff, result_ok, result_unwrap_or}
use Rattle.std.specs.Int.{w32, w64, FitsUnsignedBits}
use Rattle.std.specs.Prelude.{Result, Ok, Err}
use Rattle.std.proofs.lemmas.Bool.Decides.{nat_tests}
use Rattle.std.proofs.lemmas.Int.{ints}
use Rattle.ada_meaning.specs.Arithmetic.{is_within, base_range, natural}
use Rattle.ada_meaning.specs.Statics.{in_base}

fits_when : (z : ℤ) → is_within base_range z ≡ true → FitsSigned w32 z
fits_when (pos n) is = record { sfits = grind (arith, ints, nat_tests) }
fits_when (negsuc n) is = record { sfits = grind (arith, ints, nat_tests) }

range_when : (z : ℤ) → FitsSigned w32 z → is_within base_range z ≡ true
range_when (pos n) fits = let f = fits.sfits in grind (arith, ints, nat_tests)
range_when (negsuc n) fits = let f = fits.sfits in grind (arith, ints, nat_tests)

abbrev none : Option ℤ
none = None

abbrev when : Bool → ℤ → Option ℤ
when b z = if b then Some z else None

-- a number that is converted where it fits, and else is none, is in the base range
converted : {E : Type 0} (r : Result ℤ E) (z : ℤ) → OkIff r (FitsSigned w32 z) z → result_ok r ≡ in_base z
converted (Ok x) z h = ap Some h.1 ∙ ap (λ b. when b z) (sym (range_when z h.0))
converted (Err e) z h = by_test (is_within base_range z) refl
  where
    by_test : (b : Bool) → is_within base_range z ≡ b → none ≡ when b z
    by_test true is = absurd (h (fits_when z is))
    by_test false is = refl

pub converted_to : {E : Type 0} (r : Result ℤ E) (y z : ℤ) → OkIff r (FitsSigned w32 y) y → y ≡ z → result_ok r ≡ in_base z
converted_to r y z h is = converted r y h ∙ ap in_base is

-- a count that is converted, where it is not negative
pub counted : {E : Type 0} (r : Result ℕ E) (y z : ℤ) → OkIff r (FitsUnsignedBits 64 y) (unsigned_abs y) → FitsSigned w64 y → y ≡ z → result_unwrap_or r 0 ≡ natural z
counted (Ok n) (pos m) z h small is = h.1 ∙ ap natural is
counted (Ok n) (negsuc m) z h small is = absurd h.0
counted (Err e) (pos m) z h small is = absurd (h (omega (arith, small.sfits)))
counted (Err e) (negsuc m) z h small is = ap natural is
