-- What a reader yields, from all tokens.
use Rattle.std.proofs.Common.{◌≡◌, ℕ, Bool, true, false, [], ◌∷◌, refl, ◌∙◌}
use denote.Enum.Bare.{same_true}
use Rattle.ada_lexer.specs.declared.token.Token.{Token}
use Rattle.expression_parser.specs.declared.symbol.Symbol.{Symbol}
use Rattle.expression_parser.specs.declared.symbol.Symbol.TheVariants as symbol
use Rattle.expression_parser.specs.contracts.symbol.Symbol.{the_type}
use Rattle.expression_parser.specs.Symbols.{symbol_of, same, Is, identifier_of}
use Rattle.expression_parser.specs.Reading.{Tokens, Reader, Turn, Refuse, Leave, Take, Look, ended, got, ◌>>=◌, on_token, expect, skip, repeat}
use Rattle.expression_parser.proofs.Yields.{Yields, YieldsTurn, YieldsEnd, bind_yields, turned_yields, Takes, taken, expect_yields, skip_yields, repeat_yields}
use Rattle.ada_parser.specs.Words.{Word, word, Named, name, Closes, closes}
use Rattle.ada_parser.specs.Lists.{listed, listed_turn, closing}

-- whatever tokens it reads, this holds of what was read, of them, and of those behind it
pub record Sound {A : Type 0} (r : Reader A) (P : A → Tokens → Tokens → Type 0) : Type 0 where
  pub by : (ts : Tokens) → Yields (λ a rest. P a ts rest) (r ts)

pub and_then : {A B : Type 0} {r : Reader A} {P : A → Tokens → Tokens → Type 0} (Q : B → Tokens → Type 0) (k : A → Reader B) (ts : Tokens) → Sound r P → ((a : A) (us : Tokens) → P a ts us → Yields Q (k a us)) → Yields Q ((r >>= k) ts)
and_then {r = r} {P = P} Q k ts s h = bind_yields (λ a rest. P a ts rest) Q k r ts (s.by ts) h

word_of : {s : Symbol} {t : Token} {ts us : Tokens} → Takes s t ts us → Word s ts us
word_of (taken i) = word i

pub behind_word : {B : Type 0} (Q : B → Tokens → Type 0) (s : Symbol) (r : Reader B) (ts : Tokens) → ((us : Tokens) → Word s ts us → Yields Q (r us)) → Yields Q (skip s r ts)
behind_word Q s r ts h = skip_yields Q s r ts (λ t us w. h us (word_of w))

named_of : {t : Token} {ts us : Tokens} → Takes symbol.Identifier t ts us → Named (identifier_of t) ts us
named_of (taken i) = name i

pub behind_identifier : {B : Type 0} (Q : B → Tokens → Type 0) (k : Token → Reader B) (ts : Tokens) → ((t : Token) (us : Tokens) → Named (identifier_of t) ts us → Yields Q (k t us)) → Yields Q ((expect symbol.Identifier >>= k) ts)
behind_identifier Q k ts h = bind_yields (λ t rest. Takes symbol.Identifier t ts rest) Q k (expect symbol.Identifier) ts (expect_yields symbol.Identifier ts) (λ t us w. h t us (named_of w))

pub behind_closing : {B : Type 0} (Q : B → Tokens → Type 0) (s : Symbol) (b : B) (ts : Tokens) → ((us : Tokens) → Closes s ts us → Q b us) → Yields Q (closing s b ts)
behind_closing Q s b ts h = behind_word Q symbol.End (skip s (skip symbol.Semicolon (got b))) ts
    (λ us a. behind_word Q s (skip symbol.Semicolon (got b)) us (λ vs c. behind_word Q symbol.Semicolon (got b) vs (λ rest d. h rest (closes a c d))))

-- by the next token
module _ {A : Type 0} (e : Turn A) (turn : Symbol → Token → Turn A) (P : A → Tokens → Tokens → Type 0) where
  at_end : (z : Turn A) → YieldsEnd (λ a rest. P a [] rest) z → Yields (λ a rest. P a [] rest) (ended z)
  at_end Refuse h = tt
  at_end (Leave a) h = h
  at_end (Take r) h = tt
  at_end (Look r) h = tt

  at_token : YieldsEnd (λ a rest. P a [] rest) e → ((found : Symbol) (t : Token) (us : Tokens) → Is found t → YieldsTurn (λ a rest. P a (t ∷ us) rest) (turn found t) t us) → (ts : Tokens) → Yields (λ a rest. P a ts rest) (on_token e turn ts)
  at_token none some [] = at_end e none
  at_token none some (t ∷ us) = turned_yields (λ a rest. P a (t ∷ us) rest) (turn (symbol_of t.lexeme) t) t us (some (symbol_of t.lexeme) t us refl)

  pub by_token : YieldsEnd (λ a rest. P a [] rest) e → ((found : Symbol) (t : Token) (us : Tokens) → Is found t → YieldsTurn (λ a rest. P a (t ∷ us) rest) (turn found t) t us) → Sound (on_token e turn) P
  by_token none some = record { by = at_token none some }

-- by the next token, behind something else
module _ {A : Type 0} (e : Turn A) (turn : Symbol → Token → Turn A) (Q : A → Tokens → Type 0) (D : Tokens → Type 0) where
  end_of : (z : Turn A) → YieldsEnd Q z → Yields Q (ended z)
  end_of Refuse h = tt
  end_of (Leave a) h = h
  end_of (Take r) h = tt
  end_of (Look r) h = tt

  pub rest_by_token : (D [] → YieldsEnd Q e) → ((found : Symbol) (t : Token) (us : Tokens) → Is found t → D (t ∷ us) → YieldsTurn Q (turn found t) t us) → (ts : Tokens) → D ts → Yields Q (on_token e turn ts)
  rest_by_token none some [] d = end_of e (none d)
  rest_by_token none some (t ∷ us) d = turned_yields Q (turn (symbol_of t.lexeme) t) t us (some (symbol_of t.lexeme) t us refl d)

-- lists whose further items stand behind a word
module _ {A S : Type 0} (w : Symbol) (item : Reader A) (add : S → A → S) (P : A → Tokens → Tokens → Type 0) (Q : S → Tokens → Type 0) (sound : Sound item P)
    (more : (s : S) (a : A) (ts us rest : Tokens) → Q s ts → Word w ts us → P a us rest → Q (add s a) rest) where
  one_more : (b : Bool) (found : Symbol) (t : Token) (s : S) (us : Tokens) → same found w ≡ b → Is found t → Q s (t ∷ us) → YieldsTurn Q (listed b item add s) t us
  one_more true found t s us e i q = and_then Q (λ a. got (add s a)) us sound (λ a rest p. more s a (t ∷ us) us rest q (word (i ∙ same_true the_type tt found w e)) p)
  one_more false found t s us e i q = q

  pub list_sound : (n : ℕ) (s : S) (ts : Tokens) → Q s ts → Yields Q (repeat (listed_turn w item add) n s ts)
  list_sound n s ts q = repeat_yields Q (listed_turn w item add) (λ found t z us i p. one_more (same found w) found t z us refl i p) n s ts q
