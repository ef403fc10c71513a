-- The definitions at worked examples.
use Rattle.std.proofs.Common.{◌≡◌, ℕ, List, [], ◌∷◌, Ok, Err, Some, None, codes, refl}
use Rattle.ada_lexer.specs.declared.token.Lexeme.{Lexeme}
use Rattle.ada_lexer.specs.declared.token.Lexeme.TheVariants as lexeme
use Rattle.ada_lexer.specs.declared.token.Token.{Token}
use Rattle.ada_lexer.specs.Word.{word_of}
use Rattle.ada_lexer.specs.Cut.{string_rest}
use Rattle.ada_lexer.specs.Tokens.{Tokens, tokens_of}
use Rattle.ada_lexer.specs.Nesting.{nested_of}

-- a token of file 7
abbrev token : Lexeme → ℕ → ℕ → ℕ → ℕ → List ℕ → Token
token l line col from to text =
    record { lexeme = l; pos = record { file = 7; line = line; col = col }; from = from; to = to; text = text }

-- a fault in file 7
abbrev fault : ℕ → ℕ → Tokens
fault line col = Err (record { pos = record { file = 7; line = line; col = col } })

assignment : tokens_of 7 (codes "X:=1_0;") ≡ Ok (token lexeme.Identifier 1 1 0 1 (codes "X") ∷ token lexeme.Becomes 1 2 1 3 (codes ":=") ∷ token (lexeme.Numeral 10) 1 4 3 6 (codes "1_0") ∷ token lexeme.Semicolon 1 7 6 7 (codes ";") ∷ [])
assignment = refl

-- a tab and a carriage return take a column, a line feed ends the line, a comment is no token
lines : tokens_of 7 (9 ∷ 69 ∷ 78 ∷ 100 ∷ 13 ∷ 10 ∷ 45 ∷ 45 ∷ 35 ∷ 10 ∷ 32 ∷ 34 ∷ 34 ∷ []) ≡ Ok (token lexeme.End 1 2 1 4 (codes "ENd") ∷ token lexeme.Text 3 2 11 13 (34 ∷ 34 ∷ []) ∷ [])
lines = refl

no_bytes : tokens_of 7 [] ≡ Ok []
no_bytes = refl

sharp : tokens_of 7 (codes "a #") ≡ fault 1 3
sharp = refl

power : tokens_of 7 (codes "a**b") ≡ fault 1 2
power = refl

unended : tokens_of 7 (120 ∷ 34 ∷ 97 ∷ 34 ∷ 34 ∷ []) ≡ fault 1 2
unended = refl

greatest : word_of (codes "2_147_483_647") ≡ Some (lexeme.Numeral 2147483647)
greatest = refl

too_great : word_of (codes "2147483648") ≡ None
too_great = refl

underscore_at_the_end : word_of (codes "a_") ≡ None
underscore_at_the_end = refl

two_underscores : word_of (codes "a__b") ≡ None
two_underscores = refl

digits_and_letters : word_of (codes "1E5") ≡ None
digits_and_letters = refl

-- a quote within is written twice
quoted : string_rest (97 ∷ 34 ∷ 34 ∷ 34 ∷ 59 ∷ []) ≡ Some 4
quoted = refl

-- `if` after `end` opens nothing
closed : nested_of (token lexeme.If 1 1 0 2 [] ∷ token lexeme.End 1 4 3 6 [] ∷ token lexeme.If 1 8 7 9 [] ∷ []) ≡ None
closed = refl
