-- How long delimiters are.
use Rattle.std.proofs.Common.{◌≡◌, ℕ, ◌<◌, ◌≤◌, List, [], ◌∷◌, Bool, true, false, ◌&&◌, Option, Some, None, cond, nat_lt, nat_eq, find, option_map, length, refl, sym, arith, IfSome}
use Rattle.std.specs.List.{starts_with, list_all}
use Rattle.std.proofs.lemmas.Grind.{common_steps}
use Rattle.ada_lexer.specs.declared.token.Lexeme.{Lexeme}
use Rattle.ada_lexer.specs.Lexeme.{delimiters}
use Rattle.ada_lexer.specs.Cut.{longest_delimiter_of}

-- an entry has some bytes, and no more than the text
abbrev Fits : List ℕ → Option (Option Lexeme × ℕ) → Type 0
Fits text found = IfSome found (λ x. (0 < x.1) × (x.1 ≤ length text))

both : (a b : Bool) → (a && b) ≡ true → (a ≡ true) × (b ≡ true)
both true b h = (refl, h)
both false b h = cc

prefix_fits : (text spelling : List ℕ) → starts_with nat_eq text spelling ≡ true → length spelling ≤ length text
prefix_fits text [] h = omega arith
prefix_fits [] (x ∷ xs) h = cc
prefix_fits (b ∷ text) (x ∷ xs) h = omega (arith, prefix_fits text xs (both (nat_eq x b) _ h).1)

entry_fits : (text : List ℕ) (spelling : List ℕ) (lexeme : Option Lexeme) (b : Bool) (rest : Option (List ℕ × Option Lexeme)) → starts_with nat_eq text spelling ≡ b → 0 < length spelling → Fits text (option_map (λ e. (e.1, length e.0)) rest) → Fits text (option_map (λ e. (e.1, length e.0)) (cond b (Some (spelling, lexeme)) rest))
entry_fits text spelling lexeme true rest h some f = (some, prefix_fits text spelling h)
entry_fits text spelling lexeme false rest h some f = f

found_fits : (text : List ℕ) (table : List (List ℕ × Option Lexeme)) → list_all (λ e. nat_lt 0 (length e.0)) table ≡ true → Fits text (option_map (λ e. (e.1, length e.0)) (find (λ e. starts_with nat_eq text e.0) table))
found_fits text [] h = tt
found_fits text (e ∷ table) h =
    let parts = both (nat_lt 0 (length e.0)) _ h in
    entry_fits text e.0 e.1 (starts_with nat_eq text e.0) _ refl (grind (arith, common_steps, parts.0)) (found_fits text table parts.1)

fits : (text : List ℕ) → Fits text (longest_delimiter_of text)
fits text = found_fits text delimiters refl

-- a delimiter ends within the text
pub longest_delimiter_within : (text : List ℕ) (found : Option (Option Lexeme × ℕ)) → found ≡ longest_delimiter_of text → IfSome found (λ d. d.1 ≤ length text)
longest_delimiter_within text None e = tt
longest_delimiter_within text (Some d) e = (rw (sym e) at (fits text)).1

-- a delimiter has a byte
pub longest_delimiter_some : (text : List ℕ) (found : Option (Option Lexeme × ℕ)) → found ≡ longest_delimiter_of text → IfSome found (λ d. 0 < d.1)
longest_delimiter_some text None e = tt
longest_delimiter_some text (Some d) e = (rw (sym e) at (fits text)).0
