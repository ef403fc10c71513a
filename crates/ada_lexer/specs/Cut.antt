-- What stands at the front of a text (Ada RM 2012, 2.2).
use Rattle.std.specs.Prelude.{ℕ, ◌+◌, List, [], ◌∷◌, ◌==◌, ◌||◌, not, Bool, Option, Some, None, nat_eq, if◌then◌else◌, length, take, option_map, option_and_then, find}
use Rattle.std.specs.List.{prefix_len, starts_with}
use Rattle.std.specs.Int.{is_in_range}
use Rattle.ada_lexer.specs.declared.token.Lexeme.{Lexeme}
use Rattle.ada_lexer.specs.declared.token.Lexeme.TheVariants as lexeme
use Rattle.ada_lexer.specs.declared.cut.Cut.{Cut}
use Rattle.ada_lexer.specs.declared.cut.Cut.TheVariants as cut
use Rattle.ada_lexer.specs.Lexeme.{delimiters}
use Rattle.ada_lexer.specs.Word.{is_word_byte, word_of}

-- space, tab, carriage return and line feed
abbrev pub is_separator : ℕ → Bool
is_separator byte = (byte == 32) || (byte == 9) || (byte == 13) || (byte == 10)

-- the printable characters of ASCII
abbrev pub is_printable : ℕ → Bool
is_printable byte = is_in_range 32 126 byte

-- how long a string literal is behind its first quote, with the quote that ends it: printable characters, a quote among them written twice (2.6); none where no quote ends it
abbrev pub string_rest : List ℕ → Option ℕ
string_rest [] = None
string_rest (byte ∷ []) = if byte == 34 then Some 1 else None
string_rest (byte ∷ next ∷ bytes) =
    if byte == 34 then (if next == 34 then option_map (λ n. n + 2) (string_rest bytes) else Some 1)
    else if is_printable byte then option_map (λ n. n + 1) (string_rest (next ∷ bytes)) else None

-- a comment goes from two hyphens to the end of the line (2.7)
abbrev pub comment_length : List ℕ → ℕ
comment_length text = prefix_len (λ byte. not (byte == 10)) text

-- the longest run of word bytes
abbrev pub word_length : List ℕ → ℕ
word_length text = prefix_len is_word_byte text

-- the longest delimiter, if it is one of this language, and its length
abbrev pub longest_delimiter_of : List ℕ → Option (Option Lexeme × ℕ)
longest_delimiter_of text =
    option_map (λ entry. (entry.1, length entry.0)) (find (λ entry. starts_with nat_eq text entry.0) delimiters)

-- its token
abbrev pub delimiter_of : List ℕ → Option Cut
delimiter_of text = option_and_then (λ found. option_map (λ l. cut.Token l found.1) found.0) (longest_delimiter_of text)

-- what is cut off the front of a text, and its length: a separator, a comment, a string literal, a word or a delimiter; none where nothing of the language stands there
abbrev pub cut_of : List ℕ → Option Cut
cut_of [] = None
cut_of (byte ∷ rest) =
    if is_separator byte then Some (cut.Blank 1)
    else if starts_with nat_eq (byte ∷ rest) (45 ∷ 45 ∷ []) then Some (cut.Blank (comment_length (byte ∷ rest)))
    else if byte == 34 then option_map (λ n. cut.Token lexeme.Text (n + 1)) (string_rest rest)
    else if is_word_byte byte then
    option_map (λ l. cut.Token l (word_length (byte ∷ rest))) (word_of (take (word_length (byte ∷ rest)) (byte ∷ rest)))
    else delimiter_of (byte ∷ rest)

-- how many bytes are cut off
abbrev pub length_of : Cut → ℕ
length_of (cut.Blank length) = length
length_of (cut.Token lexeme length) = length
