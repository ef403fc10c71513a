-- Lists whose further items each stand behind the same word.
use Rattle.std.specs.Prelude.{ℕ, Bool, true, false}
use Rattle.ada_lexer.specs.declared.token.Token.{Token}
use Rattle.expression_parser.specs.declared.symbol.Symbol.{Symbol}
use Rattle.expression_parser.specs.declared.symbol.Symbol.TheVariants as symbol
use Rattle.expression_parser.specs.Symbols.{same}
use Rattle.expression_parser.specs.Reading.{Reader, Turn, Leave, Take, got, ◌>>=◌, skip}

-- one more item, where its word stands next
abbrev pub listed : {A S : Type 0} → Bool → Reader A → (S → A → S) → S → Turn S
listed true item add s = Take (item >>= λ a. got (add s a))
listed false item add s = Leave s

abbrev pub listed_turn : {A S : Type 0} → Symbol → Reader A → (S → A → S) → Symbol → Token → S → Turn S
listed_turn w item add found t s = listed (same found w) item add s

-- END, a word, a semicolon, and what was read before them
abbrev pub closing : {A : Type 0} → Symbol → A → Reader A
closing s a = skip symbol.End (skip s (skip symbol.Semicolon (got a)))

-- END, a semicolon, and what was read before them
abbrev pub ending : {A : Type 0} → A → Reader A
ending a = skip symbol.End (skip symbol.Semicolon (got a))

-- a part, and a word behind it
abbrev pub before : {A : Type 0} → Symbol → (ℕ → Reader A) → ℕ → Reader A
before s r m = r m >>= λ a. skip s (got a)
