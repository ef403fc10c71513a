-- Reading that gets on: combinators and loops, when what they meet is known.
use Rattle.std.proofs.Common.{◌≡◌, ℕ, zero, suc, ◌<◌, ◌≤◌, [], ◌∷◌, length, refl, ap, ◌∙◌, arith}
use denote.Enum.Bare.{true_same}
use Rattle.ada_lexer.specs.declared.token.Token.{Token}
use Rattle.expression_parser.specs.declared.symbol.Symbol.{Symbol}
use Rattle.expression_parser.specs.declared.symbol.Symbol.TheVariants as symbol
use Rattle.expression_parser.specs.contracts.symbol.Symbol.{the_type}
use Rattle.expression_parser.specs.Symbols.{symbol_of, Is}
use Rattle.expression_parser.specs.Reading.{Tokens, Reading, Reader, Got, Turn, Leave, Take, Look, got, goes_on, turned, on_token, accept, expect, skip, looped, repeat}

-- how tightly a token binds what stands before it: 0 in a name, 1 in a term, 2 in a sum, 3 in a relation, 4 in a chain of relations; 5 not at all
abbrev pub binding : Symbol → ℕ
binding symbol.Dot = 0
binding symbol.Tick = 0
binding symbol.LeftParenthesis = 0
binding symbol.Star = 1
binding symbol.Slash = 1
binding symbol.Mod = 1
binding symbol.Rem = 1
binding symbol.Plus = 2
binding symbol.Minus = 2
binding symbol.Equal = 3
binding symbol.NotEqual = 3
binding symbol.Less = 3
binding symbol.LessOrEqual = 3
binding symbol.Greater = 3
binding symbol.GreaterOrEqual = 3
binding symbol.And = 4
binding symbol.Or = 4
binding symbol.Xor = 4
binding _ = 5

-- the same of the next token, where there is one
abbrev pub next_binding : Tokens → ℕ
next_binding [] = 5
next_binding (t ∷ ts) = binding (symbol_of t.lexeme)

-- what stands before these tokens is not continued by a token that binds so tightly
pub record Ends (k : ℕ) (ts : Tokens) : Type 0 where
  pub by : k < next_binding ts

pub ends_less : {k : ℕ} {ts : Tokens} (j : ℕ) → j ≤ k → Ends k ts → Ends j ts
ends_less {k} {ts} j h e = record { by = omega (arith, e.by) }

pub ends_at : (k : ℕ) (s : Symbol) (t : Token) (us : Tokens) → Is s t → k < binding s → Ends k (t ∷ us)
ends_at k s t us i h = record { by = rw i h }

-- where the first part is read, reading goes on
pub got_bind : {A B : Type 0} {x : A} {mid : Tokens} {p : Reading A} {q : Reading B} (k : A → Reader B) → p ≡ Got x mid → k x mid ≡ q → goes_on k p ≡ q
got_bind k h e = ap (goes_on k) h ∙ e

pub got_then : {A B : Type 0} {x : A} {mid : Tokens} {p : Reading A} (f : A → B) → p ≡ Got x mid → goes_on (λ y. got (f y)) p ≡ Got (f x) mid
got_then f h = ap (goes_on (λ y. got (f y))) h

pub got_expect : (s : Symbol) (t : Token) (us : Tokens) → Is s t → expect s (t ∷ us) ≡ Got t us
got_expect s t us i = ap (λ b. turned (accept b t) t us) (true_same the_type (symbol_of t.lexeme) s i)

pub got_skip : {A : Type 0} {q : Reading A} (s : Symbol) (r : Reader A) (t : Token) (us : Tokens) → Is s t → r us ≡ q → skip s r (t ∷ us) ≡ q
got_skip s r t us i e = got_bind (λ _. r) (got_expect s t us i) e

-- what was read, and a closing word
pub got_closed : {A B : Type 0} {x : A} {us : Tokens} {p : Reading A} (f : A → B) (s : Symbol) (t : Token) → p ≡ Got x (t ∷ us) → Is s t → goes_on (λ y. skip s (got (f y))) p ≡ Got (f x) us
got_closed {A} {B} {x} {us} f s t h i = got_bind (λ y. skip s (got (f y))) h (got_skip s (got (f x)) t us i refl)

-- the turn that a token of a known symbol takes
pub on_symbol : {A : Type 0} (e : Turn A) (turn : Symbol → Token → Turn A) (s : Symbol) (t : Token) (us : Tokens) → Is s t → on_token e turn (t ∷ us) ≡ turned (turn s t) t us
on_symbol e turn s t us i = ap (λ z. turned (turn z t) t us) i

-- a loop comes to this state, with these tokens left
pub record Comes {S : Type 0} (turn : Symbol → Token → S → Turn S) (q : Reading S) (s : S) (rest : Tokens) : Type 0 where
  pub turns : ℕ
  pub room : length rest < turns
  pub here : q ≡ repeat turn turns s rest

-- the next token ends the loop
abbrev pub Leaves : {S : Type 0} → (Symbol → Token → S → Turn S) → S → Tokens → Type 0
Leaves turn s [] = Unit {0}
Leaves turn s (t ∷ us) = turn (symbol_of t.lexeme) t s ≡ Leave s

module _ {S : Type 0} (turn : Symbol → Token → S → Turn S) where
  repeat_leaves : (n : ℕ) (s : S) (rest : Tokens) → length rest < n → Leaves turn s rest → repeat turn n s rest ≡ Got s rest
  repeat_leaves zero s rest h l = absurd (omega arith)
  repeat_leaves (suc n) s [] h l = refl
  repeat_leaves (suc n) s (t ∷ us) h l = ap (λ z. turned (looped z (repeat turn n)) t us) l

  pub comes_leave : {q : Reading S} {s : S} {rest : Tokens} → Comes turn q s rest → Leaves turn s rest → q ≡ Got s rest
  comes_leave {q} {s} {rest} c l = c.here ∙ repeat_leaves c.turns s rest c.room l

  repeat_takes : (n : ℕ) (s s' : S) (t : Token) (us rest : Tokens) (r : Reader S) → length (t ∷ us) < n → turn (symbol_of t.lexeme) t s ≡ Take r → r us ≡ Got s' rest → length rest ≤ length us
      → Comes turn (repeat turn n s (t ∷ us)) s' rest
  repeat_takes zero s s' t us rest r h e g l = absurd (omega arith)
  repeat_takes (suc n) s s' t us rest r h e g l = record {
    turns = n;
    room = omega arith;
    here = ap (λ z. turned (looped z (repeat turn n)) t us) e ∙ ap (goes_on (repeat turn n)) g;
  }

  pub comes_take : {q : Reading S} {s s' : S} (t : Token) (us rest : Tokens) (r : Reader S) → Comes turn q s (t ∷ us) → turn (symbol_of t.lexeme) t s ≡ Take r → r us ≡ Got s' rest → length rest ≤ length us → Comes turn q s' rest
  comes_take {q} {s} {s'} t us rest r c e g l =
      let d = repeat_takes c.turns s s' t us rest r c.room e g l in
      record { turns = d.turns; room = d.room; here = c.here ∙ d.here }

  repeat_looks : (n : ℕ) (s s' : S) (t : Token) (us rest : Tokens) (r : Reader S) → length (t ∷ us) < n → turn (symbol_of t.lexeme) t s ≡ Look r → r (t ∷ us) ≡ Got s' rest → length rest < length (t ∷ us)
      → Comes turn (repeat turn n s (t ∷ us)) s' rest
  repeat_looks zero s s' t us rest r h e g l = absurd (omega arith)
  repeat_looks (suc n) s s' t us rest r h e g l = record {
    turns = n;
    room = omega arith;
    here = ap (λ z. turned (looped z (repeat turn n)) t us) e ∙ ap (goes_on (repeat turn n)) g;
  }

  pub comes_look : {q : Reading S} {s s' : S} (t : Token) (us rest : Tokens) (r : Reader S) → Comes turn q s (t ∷ us) → turn (symbol_of t.lexeme) t s ≡ Look r → r (t ∷ us) ≡ Got s' rest → length rest < length (t ∷ us) → Comes turn q s' rest
  comes_look {q} {s} {s'} t us rest r c e g l =
      let d = repeat_looks c.turns s s' t us rest r c.room e g l in
      record { turns = d.turns; room = d.room; here = c.here ∙ d.here }
