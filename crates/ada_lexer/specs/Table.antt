-- How the code's tables of spellings are read.
use Rattle.std.specs.Prelude.{ℕ, List, Option, nat_eq, length, option_map, find}
use Rattle.std.specs.Borrow.{Bor}
use Rattle.std.specs.List.{starts_with}
use Rattle.std.specs.Str.{str_eq_ignore_ascii_case}
use Rattle.ada_lexer.specs.declared.token.Lexeme.{Lexeme}

-- the lexeme of the first entry that is spelled as a word, case ignored
unfoldable pub spelled_in : List (Bor (List ℕ) × Lexeme) → List ℕ → Option Lexeme
spelled_in table word = option_map (λ entry. entry.1) (find (λ entry. str_eq_ignore_ascii_case entry.0.now word) table)

-- the first entry that a text begins with, and its length
unfoldable pub begun_in : List (Bor (List ℕ) × Option Lexeme) → List ℕ → Option (Option Lexeme × ℕ)
begun_in table text = option_map (λ entry. (entry.1, length entry.0.now)) (find (λ entry. starts_with nat_eq text entry.0.now) table)
