-- What an input file says.
use Rattle.std.specs.Prelude.{◌≡◌, ℕ, ◌+◌, ◌^◌, ◌==◌, ◌&&◌, Bool, List, [], ◌∷◌, length, drop, slice_index, ℤ, pos, neg_ℤ, nat_lt, nat_le, Option, Some, None, Result, Ok, Err, if◌then◌else◌}
use Rattle.std.specs.Str.{all_ascii_digits}
use Rattle.std.specs.Str.Lines.{lines}
use Rattle.std.specs.Str.Parse.{digits_value}
use Rattle.cov_base.specs.declared.failure.Failure.{Failure}
use Rattle.cov_base.specs.declared.failure.Failure.TheVariants.{Fault, WantOfMemory}
use Rattle.rv32_emulator.specs.declared.input_file.InputFault.{InputFault}

-- one decimal digit or more, and nothing else
abbrev pub is_numeral : List ℕ → Bool
is_numeral digits = all_ascii_digits digits && nat_lt 0 (length digits)

-- The number that a line spells: '-', which is 45, or nothing, and then decimal digits, within 32 bits. None where it spells none.
abbrev pub number_of : List ℕ → Option ℤ
number_of line =
    if slice_index line 0 == 45
    then (if is_numeral (drop 1 line) && nat_le (digits_value 10 (drop 1 line)) (2 ^ 31) then Some (neg_ℤ (pos (digits_value 10 (drop 1 line)))) else None)
    else (if is_numeral line && nat_lt (digits_value 10 line) (2 ^ 31) then Some (pos (digits_value 10 line)) else None)

-- the number of the line before those of the others; or the fault of this line, and else that of the others
abbrev pub before_others : (line : ℕ) → Option ℤ → Result (List ℤ) ℕ → Result (List ℤ) ℕ
before_others line None others = Err line
before_others line (Some number) (Ok numbers) = Ok (number ∷ numbers)
before_others line (Some number) (Err later) = Err later

-- the numbers of lines, the first of which has this place; or the place of the first line that spells no number
abbrev pub numbers_from : (line : ℕ) → List (List ℕ) → Result (List ℤ) ℕ
numbers_from line [] = Ok []
numbers_from line (text ∷ texts) = before_others line (number_of text) (numbers_from (line + 1) texts)

-- The numbers of an input file, one a line; or the place, from 1, of the first line that spells none. A line ends by LF or by CR LF, which are
-- no part of it; after the last line the end of the file may stand in place of its LF.
abbrev pub numbers_of : List ℕ → Result (List ℤ) ℕ
numbers_of bytes = numbers_from 1 (lines bytes)

-- the fault is that of an input file
abbrev pub IsRefusal : List ℕ → Failure InputFault → Type 0
IsRefusal bytes (Fault fault) = numbers_of bytes ≡ Err fault.line
IsRefusal bytes WantOfMemory = Unit {0}
