-- What a numeral's digits spell.
use Rattle.std.proofs.Common.{◌≡◌, ℕ, ◌+◌, ◌-◌, ◌*◌, ◌<◌, ◌≤◌, List, [], ◌∷◌, Bool, true, false, ◌&&◌, ◌==◌, nat_le, if◌then◌else◌, Option, None, refl, arith, sym}
use Rattle.std.proofs.lemmas.Grind.{common_steps}
use Rattle.ada_lexer.specs.declared.token.Lexeme.{Lexeme}
use Rattle.ada_lexer.specs.Word.{value_from, numeral_of}

larger : (b : Bool) (value digit : ℕ) → value ≤ (if b then value else 10 * value + digit)
larger true value digit = omega arith
larger false value digit = omega arith

-- further digits make no number smaller
pub value_from_grows : (bytes : List ℕ) (value : ℕ) → value ≤ value_from value bytes
value_from_grows [] value = omega arith
value_from_grows (byte ∷ bytes) value =
    omega (arith, larger (byte == 95) value (byte - 48), value_from_grows bytes (if byte == 95 then value else 10 * value + (byte - 48)))

refused : (digits : Bool) (value : ℕ) (l : Option Lexeme) → 2147483647 < value → (if digits && nat_le value 2147483647 then l else None) ≡ None
refused true value l great = grind (arith, common_steps)
refused false value l great = refl

-- what is too great already is no numeral
pub numeral_of-great : (word : List ℕ) (value : ℕ) (bytes : List ℕ) → 2147483647 < value → value_from value bytes ≡ value_from 0 word → None ≡ numeral_of word
numeral_of-great word value bytes great same =
    sym (refused _ (value_from 0 word) _ (omega (arith, value_from_grows bytes value, same)))
