-- Reading of tokens from the left, with one token in view.
use Rattle.std.specs.Prelude.{ℕ, zero, suc, Bool, true, false, List, [], ◌∷◌}
use Rattle.ada_lexer.specs.declared.token.Token.{Token}
use Rattle.expression_parser.specs.declared.symbol.Symbol.{Symbol}
use Rattle.expression_parser.specs.Symbols.{symbol_of, same}

abbrev pub Tokens : Type 0
Tokens = List Token

-- what was read, and what follows it; or what stood at the place where reading got stuck
pub data Reading (A : Type 0) : Type 0 where
  Got : A → Tokens → Reading A
  Stuck : Tokens → Reading A

abbrev pub Reader : Type 0 → Type 0
Reader A = Tokens → Reading A

-- what the next token asks for
pub data Turn (A : Type 0) : Type 0 where
  -- reading gets stuck before it
  Refuse : Turn A
  -- what was read ends before it
  Leave : A → Turn A
  -- reading goes on after it
  Take : Reader A → Turn A
  -- reading goes on at it
  Look : Reader A → Turn A

abbrev pub got : {A : Type 0} → A → Reader A
got x ts = Got x ts

abbrev pub goes_on : {A B : Type 0} → (A → Reader B) → Reading A → Reading B
goes_on k (Got x rest) = k x rest
goes_on k (Stuck rest) = Stuck rest

infixl 10 ◌>>=◌
abbrev pub ◌>>=◌ : {A B : Type 0} → Reader A → (A → Reader B) → Reader B
(r >>= k) ts = goes_on k (r ts)

abbrev pub turned : {A : Type 0} → Turn A → Token → Tokens → Reading A
turned Refuse t ts = Stuck (t ∷ ts)
turned (Leave x) t ts = Got x (t ∷ ts)
turned (Take r) t ts = r ts
turned (Look r) t ts = r (t ∷ ts)

-- where no token is left, the turn of the end
abbrev pub ended : {A : Type 0} → Turn A → Reading A
ended Refuse = Stuck []
ended (Leave x) = Got x []
ended (Take r) = Stuck []
ended (Look r) = Stuck []

abbrev pub on_token : {A : Type 0} → Turn A → (Symbol → Token → Turn A) → Reader A
on_token at_end turn [] = ended at_end
on_token at_end turn (t ∷ ts) = turned (turn (symbol_of t.lexeme) t) t ts

-- a turn that belongs to a production which may be closed
abbrev pub provided : {A : Type 0} → Bool → Turn A → Turn A
provided true turn = turn
provided false turn = Refuse

-- one token: a given word or delimiter
abbrev pub accept : Bool → Token → Turn Token
accept true t = Take (got t)
accept false t = Refuse

abbrev pub expect : Symbol → Reader Token
expect s = on_token Refuse (λ found t. accept (same found s) t)

-- a given word or delimiter, and then something else
abbrev pub skip : {A : Type 0} → Symbol → Reader A → Reader A
skip s r = expect s >>= λ _. r

-- a part, and then again what the next token asks for
abbrev pub looped : {S : Type 0} → Turn S → (S → Reader S) → Turn S
looped Refuse again = Refuse
looped (Leave s) again = Leave s
looped (Take r) again = Take (r >>= again)
looped (Look r) again = Look (r >>= again)

-- any number of parts, as long as the next token asks for one; `s` is what was read so far, and `n` bounds the number of parts
abbrev pub repeat : {S : Type 0} → (Symbol → Token → S → Turn S) → ℕ → S → Reader S
repeat turn zero s = Stuck
repeat turn (suc n) s = on_token (Leave s) (λ found t. looped (turn found t s) (repeat turn n))
