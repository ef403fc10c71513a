-- The tokens of a source.
use Rattle.std.specs.Prelude.{◌≡◌, ℕ, zero, suc, ◌+◌, ◌-◌, ◌<◌, ◌≤◌, List, [], ◌∷◌, ◌==◌, Option, Some, None, Result, Ok, Err, if◌then◌else◌, length, take, ◌⊎◌, All, AllPairs, IsAscii}
use Rattle.std.specs.List.{slice_range}
use Rattle.cov_base.specs.declared.failure.Failure.{Failure}
use Rattle.cov_base.specs.declared.failure.Failure.TheVariants.{Fault, WantOfMemory}
use Rattle.cov_base.specs.declared.position.Pos.{Pos}
use Rattle.ada_lexer.specs.declared.token.Lexeme.{Lexeme}
use Rattle.ada_lexer.specs.declared.token.Token.{Token}
use Rattle.ada_lexer.specs.declared.cut.Cut.{Cut}
use Rattle.ada_lexer.specs.declared.cut.Cut.TheVariants as cut
use Rattle.ada_lexer.specs.declared.lexer.LexFault.{LexFault}
use Rattle.ada_lexer.specs.Cut.{cut_of}

-- the place behind a byte: a line feed ends a line, and any other byte takes a column
abbrev pub place_behind : Pos → ℕ → Pos
place_behind place byte =
    if byte == 10 then record place { line = place.line + 1; col = 1 } else record place { col = place.col + 1 }

-- the place behind bytes
abbrev pub place_after : Pos → List ℕ → Pos
place_after place [] = place
place_after place (byte ∷ bytes) = place_after (place_behind place byte) bytes

-- the place of the byte at an offset: lines and columns from 1
abbrev pub place_at : ℕ → List ℕ → ℕ → Pos
place_at file source at = place_after (record { file = file; line = 1; col = 1 }) (take at source)

-- a token of its parts
abbrev pub token_of : Lexeme → Pos → ℕ → ℕ → List ℕ → Token
token_of lexeme pos from to text = record { lexeme = lexeme; pos = pos; from = from; to = to; text = text }

-- a token is a slice of its source
abbrev pub token_at : ℕ → List ℕ → Lexeme → ℕ → ℕ → Token
token_at file source lexeme from to = token_of lexeme (place_at file source from) from to (slice_range source from to)

-- tokens, or the place where there is none
abbrev pub Tokens : Type 0
Tokens = Result (List Token) LexFault

-- a token before others
abbrev pub with_token : Token → Tokens → Tokens
with_token token (Ok tokens) = Ok (token ∷ tokens)
with_token token (Err fault) = Err fault

-- what is cut off at an offset gives a token, or none, before those of the rest; where nothing is cut off, that is the fault
abbrev pub tokens_at : ℕ → List ℕ → ℕ → Option Cut → (ℕ → Tokens) → Tokens
tokens_at file source from None rest = Err (record { pos = place_at file source from })
tokens_at file source from (Some (cut.Blank length)) rest = rest length
tokens_at file source from (Some (cut.Token lexeme length)) rest =
    with_token (token_at file source lexeme from (from + length)) (rest length)

-- the tokens of what is left of a source from an offset on, where the first `within` bytes belong to what was cut off before
abbrev pub tokens_from : ℕ → List ℕ → ℕ → ℕ → List ℕ → Tokens
tokens_from file source from within [] = Ok []
tokens_from file source from zero (byte ∷ left) =
    tokens_at file source from (cut_of (byte ∷ left)) (λ length. tokens_from file source (from + 1) (length - 1) left)
tokens_from file source from (suc within) (byte ∷ left) = tokens_from file source (from + 1) within left

-- the tokens of a source; else the first place where nothing of the language stands
abbrev pub tokens_of : ℕ → List ℕ → Tokens
tokens_of file source = tokens_from file source 0 0 source

-- a token of a source: its text is the slice between its offsets, in ASCII, and its place is that of its first byte, in the file, line and column from 1
pub record IsTokenOf (file : ℕ) (source : List ℕ) (token : Token) : Type 0 where
  pub text : token.text ≡ slice_range source token.from token.to
  pub ascii : IsAscii token.text
  pub place : token.pos ≡ place_at file source token.from
  pub in_file : token.pos.file ≡ file
  pub line : 0 < token.pos.line
  pub column : 0 < token.pos.col

-- tokens stand one behind the other between two offsets, each with a byte at least
abbrev pub StandBetween : ℕ → List Token → ℕ → Type 0
StandBetween from [] to = from ≤ to
StandBetween from (token ∷ tokens) to = (from ≤ token.from) × (token.from < token.to) × StandBetween token.to tokens to

-- a place stands before another
abbrev pub IsBefore : Pos → Pos → Type 0
IsBefore place later = (place.line < later.line) ⊎ ((place.line ≡ later.line) × (place.col < later.col))

-- tokens of a source, in the order of its text
pub record AreTokensOf (file : ℕ) (source : List ℕ) (tokens : List Token) : Type 0 where
  pub each : All (IsTokenOf file source) tokens
  pub places : AllPairs (λ a b. IsBefore a.pos b.pos) tokens

-- a failed call met this fault, where memory wasn't refused
abbrev pub Fails : Failure LexFault → Tokens → Type 0
Fails (Fault fault) tokens = tokens ≡ Err fault
Fails WantOfMemory tokens = Unit {0}
