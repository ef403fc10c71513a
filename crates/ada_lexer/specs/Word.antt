-- Words: identifiers, reserved words and numerals (Ada RM 2012, 2.3, 2.4, 2.9).
use Rattle.std.specs.Prelude.{ℕ, ◌+◌, ◌-◌, ◌*◌, List, [], ◌∷◌, ◌==◌, ◌&&◌, ◌||◌, Bool, true, false, Option, Some, None, nat_le, if◌then◌else◌, length, option_map, find}
use Rattle.std.specs.List.{list_all}
use Rattle.std.specs.Option.{option_or}
use Rattle.std.specs.Char.{is_ascii_digit, is_ascii_alphanumeric}
use Rattle.std.specs.Str.{str_eq_ignore_ascii_case}
use Rattle.ada_lexer.specs.declared.token.Lexeme.{Lexeme}
use Rattle.ada_lexer.specs.declared.token.Lexeme.TheVariants as lexeme
use Rattle.ada_lexer.specs.Lexeme.{reserved_words}

-- what words consist of: letters, digits and underscores
abbrev pub is_word_byte : ℕ → Bool
is_word_byte byte = is_ascii_alphanumeric byte || (byte == 95)

-- each underscore in the bytes stands between two letters or digits; `behind` says whether one of these stands just before the bytes
abbrev pub has_single_underscores : Bool → List ℕ → Bool
has_single_underscores behind [] = behind
has_single_underscores behind (byte ∷ bytes) =
    if byte == 95 then behind && has_single_underscores false bytes else has_single_underscores true bytes

-- what numerals consist of
abbrev pub is_numeral_byte : ℕ → Bool
is_numeral_byte byte = is_ascii_digit byte || (byte == 95)

-- the number that decimal digits spell, where `value` was spelled before them; underscores count nothing (2.4.1)
abbrev pub value_from : ℕ → List ℕ → ℕ
value_from value [] = value
value_from value (byte ∷ bytes) = value_from (if byte == 95 then value else 10 * value + (byte - 48)) bytes

-- a numeral has digits and underscores alone, and is at most 2147483647
abbrev pub numeral_of : List ℕ → Option Lexeme
numeral_of word =
    if list_all is_numeral_byte word && nat_le (value_from 0 word) 2147483647 then Some (lexeme.Numeral (value_from 0 word)) else None

-- the reserved word that is spelled so, case ignored
abbrev pub reserved_word_of : List ℕ → Option Lexeme
reserved_word_of word = option_map (λ entry. entry.1) (find (λ entry. str_eq_ignore_ascii_case entry.0 word) reserved_words)

-- what begins with a letter is a reserved word, or an identifier of at most 200 bytes
abbrev pub name_of : List ℕ → Option Lexeme
name_of word = option_or (reserved_word_of word) (if nat_le (length word) 200 then Some lexeme.Identifier else None)

-- what a word is, where it is well formed
abbrev pub word_of : List ℕ → Option Lexeme
word_of [] = None
word_of (first ∷ bytes) =
    if has_single_underscores false (first ∷ bytes)
    then (if is_ascii_digit first then numeral_of (first ∷ bytes) else name_of (first ∷ bytes)) else None
