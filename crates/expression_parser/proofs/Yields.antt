-- What a reading yields, combinator by combinator.
use Rattle.std.proofs.Common.{◌≡◌, ℕ, zero, suc, Bool, true, false, [], ◌∷◌, refl}
use denote.Enum.Bare.{same_true}
use Rattle.ada_lexer.specs.declared.token.Token.{Token}
use Rattle.expression_parser.specs.declared.symbol.Symbol.{Symbol}
use Rattle.expression_parser.specs.contracts.symbol.Symbol.{the_type}
use Rattle.expression_parser.specs.Symbols.{symbol_of, same, Is}
use Rattle.expression_parser.specs.Reading.{Tokens, Reading, Got, Stuck, Reader, Turn, Refuse, Leave, Take, Look, goes_on, ◌>>=◌, turned, provided, accept, expect, skip, looped, repeat}

abbrev pub Yields : {A : Type 0} → (A → Tokens → Type 0) → Reading A → Type 0
Yields P (Got x rest) = P x rest
Yields P (Stuck rest) = Unit {0}

-- the same of a turn at a token and those after it
abbrev pub YieldsTurn : {A : Type 0} → (A → Tokens → Type 0) → Turn A → Token → Tokens → Type 0
YieldsTurn P Refuse t us = Unit {0}
YieldsTurn P (Leave x) t us = P x (t ∷ us)
YieldsTurn P (Take r) t us = Yields P (r us)
YieldsTurn P (Look r) t us = Yields P (r (t ∷ us))

abbrev pub YieldsEnd : {A : Type 0} → (A → Tokens → Type 0) → Turn A → Type 0
YieldsEnd P (Leave x) = P x []
YieldsEnd P _ = Unit {0}

module _ {A B : Type 0} (P : A → Tokens → Type 0) (Q : B → Tokens → Type 0) (k : A → Reader B) where
  goes_on_yields : (q : Reading A) → Yields P q → ((x : A) (mid : Tokens) → P x mid → Yields Q (k x mid)) → Yields Q (goes_on k q)
  goes_on_yields (Got x mid) p h = h x mid p
  goes_on_yields (Stuck rest) p h = tt

  pub bind_yields : (r : Reader A) (ts : Tokens) → Yields P (r ts) → ((x : A) (mid : Tokens) → P x mid → Yields Q (k x mid)) → Yields Q ((r >>= k) ts)
  bind_yields r ts p h = goes_on_yields (r ts) p h

module _ {A : Type 0} (P : A → Tokens → Type 0) where
  pub turned_yields : (z : Turn A) (t : Token) (us : Tokens) → YieldsTurn P z t us → Yields P (turned z t us)
  turned_yields Refuse t us h = tt
  turned_yields (Leave x) t us h = h
  turned_yields (Take r) t us h = h
  turned_yields (Look r) t us h = h

  pub provided_yields : (b : Bool) (z : Turn A) (t : Token) (us : Tokens) → (b ≡ true → YieldsTurn P z t us) → YieldsTurn P (provided b z) t us
  provided_yields true z t us h = h refl
  provided_yields false z t us h = tt

-- one token
pub data Takes (s : Symbol) : Token → Tokens → Tokens → Type 0 where
  taken : {t : Token} {rest : Tokens} → Is s t → Takes s t (t ∷ rest) rest

pub expect_yields : (s : Symbol) (ts : Tokens) → Yields (λ t rest. Takes s t ts rest) (expect s ts)
expect_yields s [] = tt
expect_yields s (t ∷ us) = turned_yields (λ u rest. Takes s u (t ∷ us) rest) (accept (same (symbol_of t.lexeme) s) t) t us (accepts (same (symbol_of t.lexeme) s) refl)
  where
    accepts : (b : Bool) → same (symbol_of t.lexeme) s ≡ b → YieldsTurn (λ u rest. Takes s u (t ∷ us) rest) (accept b t) t us
    accepts true h = taken (same_true the_type tt (symbol_of t.lexeme) s h)
    accepts false h = tt

pub skip_yields : {A : Type 0} (P : A → Tokens → Type 0) (s : Symbol) (r : Reader A) (ts : Tokens) → ((t : Token) (mid : Tokens) → Takes s t ts mid → Yields P (r mid)) → Yields P (skip s r ts)
skip_yields P s r ts h = bind_yields (λ t rest. Takes s t ts rest) P (λ _. r) (expect s) ts (expect_yields s ts) h

module _ {S : Type 0} (P : S → Tokens → Type 0) (turn : Symbol → Token → S → Turn S) (step : (found : Symbol) (t : Token) (s : S) (us : Tokens) → Is found t → P s (t ∷ us) → YieldsTurn P (turn found t s) t us) where
  looped_yields : (z : Turn S) (again : S → Reader S) (t : Token) (us : Tokens) → YieldsTurn P z t us → ((s : S) (mid : Tokens) → P s mid → Yields P (again s mid)) → YieldsTurn P (looped z again) t us
  looped_yields Refuse again t us h a = tt
  looped_yields (Leave s) again t us h a = h
  looped_yields (Take r) again t us h a = bind_yields P P again r us h a
  looped_yields (Look r) again t us h a = bind_yields P P again r (t ∷ us) h a

  pub repeat_yields : (n : ℕ) (s : S) (ts : Tokens) → P s ts → Yields P (repeat turn n s ts)
  repeat_yields zero s ts p = tt
  repeat_yields (suc n) s [] p = p
  repeat_yields (suc n) s (t ∷ us) p =
      turned_yields P (looped (turn (symbol_of t.lexeme) t s) (repeat turn n)) t us
      (looped_yields (turn (symbol_of t.lexeme) t s) (repeat turn n) t us (step (symbol_of t.lexeme) t s us refl p) (repeat_yields n))

pub weaken : {A : Type 0} (P Q : A → Tokens → Type 0) (q : Reading A) → Yields P q → ((x : A) (rest : Tokens) → P x rest → Q x rest) → Yields Q q
weaken P Q (Got x rest) p h = h x rest p
weaken P Q (Stuck rest) p h = tt
