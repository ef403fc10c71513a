-- What is cut off as a token is ASCII.
use Rattle.std.proofs.Common.{◌≡◌, ℕ, zero, suc, ◌+◌, ◌<◌, ◌==◌, ◌&&◌, Bool, true, false, List, [], ◌∷◌, Option, Some, None, cond, if◌then◌else◌, nat_eq, nat_lt, find, option_map, option_and_then, length, take, refl, arith, IfSome, IsAscii}
use Rattle.std.specs.List.{take_while, starts_with, list_all}
use Rattle.std.proofs.lemmas.Bool.Decides.{nat_tests}
use Rattle.std.proofs.lemmas.List.Sums.{take_while-cons}
use Rattle.ada_lexer.specs.declared.token.Lexeme.{Lexeme}
use Rattle.ada_lexer.specs.declared.token.Lexeme.TheVariants as lexeme
use Rattle.ada_lexer.specs.declared.cut.Cut.{Cut}
use Rattle.ada_lexer.specs.declared.cut.Cut.TheVariants as cut
use Rattle.ada_lexer.specs.Lexeme.{delimiters}
use Rattle.ada_lexer.specs.Word.{is_word_byte, word_of}
use Rattle.ada_lexer.specs.Cut.{is_separator, is_printable, string_rest, comment_length, word_length, longest_delimiter_of, cut_of}

ascii_nil : IsAscii []
ascii_nil i = omega arith

ascii_cons : (byte : ℕ) (bytes : List ℕ) → byte < 128 → IsAscii bytes → IsAscii (byte ∷ bytes)
ascii_cons byte bytes low rest zero = low
ascii_cons byte bytes low rest (suc i) = rest i

word_byte_low : (byte : ℕ) → is_word_byte byte ≡ true → byte < 128
word_byte_low byte h = grind (arith, nat_tests)

printable_low : (byte : ℕ) → is_printable byte ≡ true → byte < 128
printable_low byte h = grind (arith, nat_tests)

quote_low : (byte : ℕ) → (byte == 34) ≡ true → byte < 128
quote_low byte h = grind (arith, nat_tests)

-- a word
while_cons : (byte : ℕ) (bytes : List ℕ) (b : Bool) → is_word_byte byte ≡ b → IsAscii (take_while is_word_byte bytes) → IsAscii (cond b (byte ∷ take_while is_word_byte bytes) [])
while_cons byte bytes true h rest = ascii_cons byte _ (word_byte_low byte h) rest
while_cons byte bytes false h rest = ascii_nil

word_ascii : (text : List ℕ) → IsAscii (take_while is_word_byte text)
word_ascii [] = ascii_nil
word_ascii (byte ∷ bytes) = rw (take_while-cons is_word_byte byte bytes) (while_cons byte bytes (is_word_byte byte) refl (word_ascii bytes))

-- a string literal behind its first quote
pub record IsStringAscii (text : List ℕ) (o : Option ℕ) : Type 0 where
  pub fact : IfSome o (λ n. IsAscii (take n text))

string_if : (text : List ℕ) (b : Bool) (x y : Option ℕ) → (b ≡ true → IsStringAscii text x) → (b ≡ false → IsStringAscii text y) → IsStringAscii text (if b then x else y)
string_if text true x y f g = f refl
string_if text false x y f g = g refl

string_one : (byte : ℕ) (bytes : List ℕ) → byte < 128 → IsStringAscii (byte ∷ bytes) (Some 1)
string_one byte bytes low = record { fact = ascii_cons byte [] low ascii_nil }

string_next : (byte : ℕ) (bytes : List ℕ) (o : Option ℕ) → byte < 128 → IsStringAscii bytes o → IsStringAscii (byte ∷ bytes) (option_map (λ n. n + 1) o)
string_next byte bytes None low rest = record { fact = tt }
string_next byte bytes (Some n) low rest =
    let e : n + 1 ≡ suc n = omega arith in record { fact = rw e (ascii_cons byte (take n bytes) low rest.fact) }

string_two : (byte next : ℕ) (bytes : List ℕ) (o : Option ℕ) → byte < 128 → next < 128 → IsStringAscii bytes o → IsStringAscii (byte ∷ next ∷ bytes) (option_map (λ n. n + 2) o)
string_two byte next bytes None low low' rest = record { fact = tt }
string_two byte next bytes (Some n) low low' rest =
    let e : n + 2 ≡ suc (suc n) = omega arith in record { fact = rw e (ascii_cons byte (next ∷ take n bytes) low (ascii_cons next (take n bytes) low' rest.fact)) }

none_ascii : (text : List ℕ) → IsStringAscii text None
none_ascii text = record { fact = tt }

string_ascii : (text : List ℕ) → IsStringAscii text (string_rest text)
string_ascii [] = none_ascii []
string_ascii (byte ∷ []) =
    string_if (byte ∷ []) (byte == 34) (Some 1) None (λ q. string_one byte [] (quote_low byte q)) (λ _. none_ascii (byte ∷ []))
string_ascii (byte ∷ next ∷ bytes) =
    let text = byte ∷ next ∷ bytes in
    string_if text (byte == 34) _ _
    (λ q. string_if text (next == 34) _ _
    (λ r. string_two byte next bytes (string_rest bytes) (quote_low byte q) (quote_low next r) (string_ascii bytes))
    (λ _. string_one byte (next ∷ bytes) (quote_low byte q)))
    (λ _. string_if text (is_printable byte) _ _
    (λ p. string_next byte (next ∷ bytes) (string_rest (next ∷ bytes)) (printable_low byte p) (string_ascii (next ∷ bytes)))
    (λ _. none_ascii text))

-- a delimiter
both : (a b : Bool) → (a && b) ≡ true → (a ≡ true) × (b ≡ true)
both true b h = (refl, h)
both false b h = cc

front_ascii : (text spelling : List ℕ) → starts_with nat_eq text spelling ≡ true → list_all (λ byte. nat_lt byte 128) spelling ≡ true → IsAscii (take (length spelling) text)
front_ascii text [] h low = ascii_nil
front_ascii [] (x ∷ xs) h low = cc
front_ascii (byte ∷ text) (x ∷ xs) h low =
    let same = both (nat_eq x byte) _ h in
    let small = both (nat_lt x 128) _ low in
    ascii_cons byte (take (length xs) text) (grind (arith, nat_tests, same.0, small.0)) (front_ascii text xs same.1 small.1)

abbrev DelimiterAscii : List ℕ → Option (Option Lexeme × ℕ) → Type 0
DelimiterAscii text found = IfSome found (λ x. IsAscii (take x.1 text))

entry_ascii : (text spelling : List ℕ) (l : Option Lexeme) (b : Bool) (rest : Option (List ℕ × Option Lexeme)) → starts_with nat_eq text spelling ≡ b → list_all (λ byte. nat_lt byte 128) spelling ≡ true → DelimiterAscii text (option_map (λ e. (e.1, length e.0)) rest) → DelimiterAscii text (option_map (λ e. (e.1, length e.0)) (cond b (Some (spelling, l)) rest))
entry_ascii text spelling l true rest h low f = front_ascii text spelling h low
entry_ascii text spelling l false rest h low f = f

found_ascii : (text : List ℕ) (table : List (List ℕ × Option Lexeme)) → list_all (λ e. list_all (λ byte. nat_lt byte 128) e.0) table ≡ true → DelimiterAscii text (option_map (λ e. (e.1, length e.0)) (find (λ e. starts_with nat_eq text e.0) table))
found_ascii text [] h = tt
found_ascii text (e ∷ table) h =
    let parts = both (list_all (λ byte. nat_lt byte 128) e.0) _ h in
    entry_ascii text e.0 e.1 (starts_with nat_eq text e.0) _ refl parts.0 (found_ascii text table parts.1)

-- a token that is cut off is ASCII; of a comment nothing is said
abbrev pub CutAscii : List ℕ → Option Cut → Type 0
CutAscii text None = Unit {0}
CutAscii text (Some (cut.Blank n)) = Unit {0}
CutAscii text (Some (cut.Token l n)) = IsAscii (take n text)

pub record IsCutAscii (text : List ℕ) (o : Option Cut) : Type 0 where
  pub fact : CutAscii text o

cut_if : (text : List ℕ) (b : Bool) (x y : Option Cut) → (b ≡ true → IsCutAscii text x) → (b ≡ false → IsCutAscii text y) → IsCutAscii text (if b then x else y)
cut_if text true x y f g = f refl
cut_if text false x y f g = g refl

blank : (text : List ℕ) (n : ℕ) → IsCutAscii text (Some (cut.Blank n))
blank text n = record { fact = tt }

literal : (byte : ℕ) (rest : List ℕ) (o : Option ℕ) → byte < 128 → IsStringAscii rest o → IsCutAscii (byte ∷ rest) (option_map (λ n. cut.Token lexeme.Text (n + 1)) o)
literal byte rest None low h = record { fact = tt }
literal byte rest (Some n) low h =
    let e : n + 1 ≡ suc n = omega arith in record { fact = rw e (ascii_cons byte (take n rest) low h.fact) }

a_word : (text : List ℕ) (o : Option Lexeme) → IsCutAscii text (option_map (λ l. cut.Token l (word_length text)) o)
a_word text None = record { fact = tt }
a_word text (Some l) = record { fact = word_ascii text }

a_delimiter : (text : List ℕ) (found : Option (Option Lexeme × ℕ)) → DelimiterAscii text found → IsCutAscii text (option_and_then (λ f. option_map (λ l. cut.Token l f.1) f.0) found)
a_delimiter text None h = record { fact = tt }
a_delimiter text (Some (None, n)) h = record { fact = tt }
a_delimiter text (Some (Some l, n)) h = record { fact = h }

cut_ascii : (text : List ℕ) → IsCutAscii text (cut_of text)
cut_ascii [] = record { fact = tt }
cut_ascii (byte ∷ rest) =
    let text = byte ∷ rest in
    cut_if text (is_separator byte) _ _ (λ _. blank text 1)
    (λ _. cut_if text (starts_with nat_eq text (45 ∷ 45 ∷ [])) _ _ (λ _. blank text (comment_length text))
    (λ _. cut_if text (byte == 34) _ _ (λ q. literal byte rest (string_rest rest) (quote_low byte q) (string_ascii rest))
    (λ _. cut_if text (is_word_byte byte) _ _ (λ _. a_word text (word_of (take (word_length text) text)))
    (λ _. a_delimiter text (longest_delimiter_of text) (found_ascii text delimiters refl)))))

-- what is cut off as a token is ASCII
pub token_ascii : (text : List ℕ) (l : Lexeme) (n : ℕ) → cut_of text ≡ Some (cut.Token l n) → IsAscii (take n text)
token_ascii text l n e = let h : IsCutAscii text (cut_of text) = cut_ascii text in (rw e at h).fact
