-- The numbers that lines spell.
use Rattle.std.proofs.Common.{◌≡◌, ℕ, ◌<◌, ◌≤◌, ◌^◌, ◌==◌, ◌&&◌, Bool, true, false, List, [], ◌∷◌, drop, ◌++◌, nat_lt, nat_le, nat_eq, Some, None, Result, Ok, Err, refl, ◌∙◌, sym, arith}
use Rattle.std.specs.Prelude.{ℤ, pos, neg_ℤ, slice_index, ◌≢◌, if◌then◌else◌}
use Rattle.std.specs.Int.{w32}
use Rattle.std.specs.Result.{OkIff, result_ok}
use Rattle.std.specs.Str.{IsAscii, IsUtf8, all_ascii_digits}
use Rattle.std.specs.Str.Parse.{ParsesSigned, digits_value}
use Rattle.std.proofs.lemmas.Bool.{eqb-true, eqb-false, false≢true}
use Rattle.std.specs.List.{starts_with}
use Rattle.std.proofs.lemmas.Bool.Decides.{nat_tests}
use Rattle.std.proofs.lemmas.Fmt.{IsAscii-from_digits}
use Rattle.std.proofs.lemmas.Str.{IsUtf8-from_ascii}
use Rattle.std.proofs.lemmas.Str.Ascii.{IsAscii-cons}
use Rattle.std.proofs.lemmas.Str.Parse.{IsNumeralModel, numerals_by_value, tells_all_ascii_digits, parse_signed_minus, parse_signed_plain}
use Rattle.rv32_emulator.specs.InputFile.{is_numeral, number_of}

abbrev IsDigits : List ℕ → Type 0
IsDigits digits = all_ascii_digits digits ≡ true

own : IsNumeralModel IsDigits (digits_value 10)
own = numerals_by_value IsDigits tells_all_ascii_digits

found : {E : Type 0} (r : Result ℤ E) (Q : Type 0) (t : Bool) (v : ℤ) → (Q → t ≡ true) → (t ≡ true → Q) → OkIff r Q v → result_ok r ≡ (if t then Some v else None)
found (Ok x) Q t v to from h = rw (to h.0, h.1) refl
found (Err e) Q true v to from h = absurd (h (from refl))
found (Err e) Q false v to from h = refl

to_lt : (a : Bool) (n v m : ℕ) → (a ≡ true) × (0 < n) × (v < m) → (a && nat_lt 0 n) && nat_lt v m ≡ true
to_lt a n v m h = grind (arith, nat_tests)

from_lt : (a : Bool) (n v m : ℕ) → (a && nat_lt 0 n) && nat_lt v m ≡ true → (a ≡ true) × (0 < n) × (v < m)
from_lt a n v m h = grind (arith, nat_tests)

to_le : (a : Bool) (n v m : ℕ) → (a ≡ true) × (0 < n) × (v ≤ m) → (a && nat_lt 0 n) && nat_le v m ≡ true
to_le a n v m h = grind (arith, nat_tests)

from_le : (a : Bool) (n v m : ℕ) → (a && nat_lt 0 n) && nat_le v m ≡ true → (a ≡ true) × (0 < n) × (v ≤ m)
from_le a n v m h = grind (arith, nat_tests)

parsed : {E : Type 0} (line : List ℕ) (b : Bool) (r : Result ℤ E) → ParsesSigned w32 10 line r → slice_index line 0 ≢ 43 → (slice_index line 0 == 45) ≡ b
    → result_ok r ≡ (if b
    then (if is_numeral (drop 1 line) && nat_le (digits_value 10 (drop 1 line)) (2 ^ 31) then Some (neg_ℤ (pos (digits_value 10 (drop 1 line)))) else None)
    else (if is_numeral line && nat_lt (digits_value 10 line) (2 ^ 31) then Some (pos (digits_value 10 line)) else None))
parsed line true r h plus e =
    found r _ _ _ (to_le (all_ascii_digits (drop 1 line)) _ _ _) (from_le (all_ascii_digits (drop 1 line)) _ _ _) (parse_signed_minus own w32 line r h (eqb-true _ _ e))
parsed line false r h plus e =
    found r _ _ _ (to_lt (all_ascii_digits line) _ _ _) (from_lt (all_ascii_digits line) _ _ _) (parse_signed_plain own w32 line r h plus (eqb-false _ _ e))

-- the test for '+' fails only where it is not first
pub not_plus : (line : List ℕ) → starts_with nat_eq line (43 ∷ []) ≡ false → slice_index line 0 ≢ 43
not_plus [] t e = omega arith
not_plus (c ∷ cs) t e = absurd (false≢true (sym t ∙ rw e refl))

-- what `parse` reads of a line without '+' is its number
pub number_parsed : {E : Type 0} (line : List ℕ) (r : Result ℤ E) → ParsesSigned w32 10 line r → slice_index line 0 ≢ 43 → result_ok r ≡ number_of line
number_parsed line r h plus = parsed line _ r h plus refl

unmet : {A : Type 0} (t : Bool) (x : A) → (t ≡ true → ⊥) → (if t then Some x else None) ≡ None
unmet true x h = absurd (h refl)
unmet false x h = refl

digits_ascii : (digits : List ℕ) → all_ascii_digits digits ≡ true → IsAscii digits
digits_ascii digits e = IsAscii-from_digits digits (own.to digits e)

minus_ascii : (line : List ℕ) → slice_index line 0 ≡ 45 → all_ascii_digits (drop 1 line) ≡ true → IsAscii line
minus_ascii [] s e = digits_ascii [] refl
minus_ascii (c ∷ cs) s e = IsAscii-cons c cs (omega arith) (digits_ascii cs e)

no_text : (line : List ℕ) (b : Bool) → (IsUtf8 line → ⊥) → (slice_index line 0 == 45) ≡ b
    → (if b
    then (if is_numeral (drop 1 line) && nat_le (digits_value 10 (drop 1 line)) (2 ^ 31) then Some (neg_ℤ (pos (digits_value 10 (drop 1 line)))) else None)
    else (if is_numeral line && nat_lt (digits_value 10 line) (2 ^ 31) then Some (pos (digits_value 10 line)) else None)) ≡ None
no_text line true h e = unmet _ _ (λ t. h (IsUtf8-from_ascii line (minus_ascii line (eqb-true _ _ e) (from_le (all_ascii_digits (drop 1 line)) _ _ _ t).0)))
no_text line false h e = unmet _ _ (λ t. h (IsUtf8-from_ascii line (digits_ascii line (from_lt (all_ascii_digits line) _ _ _ t).0)))

-- a line that is no text has no number
pub number_no_text : (line : List ℕ) → (IsUtf8 line → ⊥) → number_of line ≡ None
number_no_text line h = no_text line _ h refl

-- the numbers that were read, and then what the lines that are left come to
abbrev pub after_read : List ℤ → Result (List ℤ) ℕ → Result (List ℤ) ℕ
after_read done (Ok numbers) = Ok (done ++ numbers)
after_read done (Err line) = Err line
