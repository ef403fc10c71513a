-- The code's lists of spellings.
use Rattle.std.proofs.Common.{◌≡◌, ◌∙◌, ℕ, ◌+◌, ◌<◌, Bool, List, [], ◌∷◌, map, length, drop, get_or, Option, None, if◌then◌else◌, Bor, ap, refl, arith, Some, ◌≤◌}
use Rattle.std.specs.Str.{str_eq_ignore_ascii_case}
use Rattle.std.proofs.lemmas.List.{drop_more, drop_all, length-drop}
use Rattle.ada_lexer.specs.declared.token.Token.{Token}
use Rattle.exemptions.specs.Marks.{behind}
use Rattle.exemptions.specs.Table.{behind_in}

same_behind : (spellings : List (Bor (List ℕ))) (tokens : List Token) → behind_in spellings tokens ≡ behind (map (λ (s : Bor (List ℕ)). s.now) spellings) tokens
unfolding behind_in
same_behind [] tokens = refl
same_behind (spelling ∷ spellings) [] = refl
same_behind (spelling ∷ spellings) (token ∷ tokens) =
    ap (λ (o : Option (List Token)). if str_eq_ignore_ascii_case spelling.now token.text then o else None) (same_behind spellings tokens)

-- a list of spellings stands for that of a definition
pub behind_in-behind : (spellings : List (Bor (List ℕ))) (texts : List (List ℕ)) (tokens : List Token) → map (λ (s : Bor (List ℕ)). s.now) spellings ≡ texts → behind_in spellings tokens ≡ behind texts tokens
behind_in-behind spellings texts tokens same =
    same_behind spellings tokens ∙ ap (λ (t : List (List ℕ)). behind t tokens) same

short : (spellings : List (Bor (List ℕ))) (rest : List Token) → 0 < length spellings → length rest ≡ 0 → behind_in spellings rest ≡ None
unfolding behind_in
short [] rest some empty = absurd (omega arith)
short (spelling ∷ spellings) [] some empty = refl
short (spelling ∷ spellings) (token ∷ rest) some empty = absurd (omega arith)

-- the tokens end before the spellings do
pub behind_in-short : (spellings : List (Bor (List ℕ))) (i : ℕ) (rest : List Token) → i < length spellings → length rest ≡ 0 → behind_in (drop i spellings) rest ≡ None
behind_in-short spellings i rest h empty = short (drop i spellings) rest (omega (arith, length-drop i spellings)) empty

-- a turn looks at one spelling and one token
pub behind_in-turn : (spellings : List (Bor (List ℕ))) (i : ℕ) (d : Bor (List ℕ)) (token : Token) (after rest : List Token) (b : Bool) → i < length spellings → rest ≡ token ∷ after → b ≡ str_eq_ignore_ascii_case (get_or spellings i d).now token.text → behind_in (drop i spellings) rest ≡ (if b then behind_in (drop (i + 1) spellings) after else None)
unfolding behind_in
behind_in-turn spellings i d token after rest b h front test = rw (drop_more spellings i d h, front, test) refl

-- where all spellings are found the tokens that are left are those behind them
pub behind_in-all : (spellings : List (Bor (List ℕ))) (i : ℕ) (rest : List Token) → length spellings ≤ i → Some rest ≡ behind_in (drop i spellings) rest
unfolding behind_in
behind_in-all spellings i rest h = rw (drop_all i spellings h) refl
