-- What reading with one token in view depends on.
use Rattle.std.proofs.Common.{◌≡◌, ℕ, zero, suc, ◌≤◌, Bool, true, false, [], ◌∷◌, length, refl, sym, ◌∙◌, ap, subst, arith}
use Rattle.ada_lexer.specs.declared.token.Token.{Token}
use Rattle.expression_parser.specs.declared.symbol.Symbol.{Symbol}
use Rattle.expression_parser.specs.Symbols.{symbol_of, same}
use Rattle.expression_parser.specs.Reading.{Tokens, Reading, Got, Stuck, Reader, Turn, Refuse, Leave, Take, Look, got, goes_on, ◌>>=◌, turned, ended, on_token, provided, accept, expect, skip, looped, repeat}
use Rattle.expression_parser.specs.Syntax.{Agree, here, later, Suffix, all, after}

pub suffix_trans : {a b c : Tokens} → Suffix a b → Suffix b c → Suffix a c
suffix_trans p all = p
suffix_trans p (after q) = after (suffix_trans p q)

abbrev pub place : {A : Type 0} → Reading A → Tokens
place (Got x rest) = rest
place (Stuck rest) = rest

abbrev pub moved : {A : Type 0} → Reading A → Tokens → Reading A
moved (Got x rest) at = Got x at
moved (Stuck rest) at = Stuck at

-- this reading of tokens goes no further than to its place, and the tokens that agree with them up to there are read alike
pub record LocalTo {A : Type 0} (r : Reader A) (ts : Tokens) (q : Reading A) : Type 0 where
  pub within : Suffix (place q) ts
  pub alike : (ts' at' : Tokens) → Agree ts (place q) ts' at' → r ts' ≡ moved q at'

abbrev pub LocalAt : {A : Type 0} → Reader A → Tokens → Type 0
LocalAt r ts = LocalTo r ts (r ts)

abbrev pub Local : {A : Type 0} → Reader A → Type 0
Local r = (ts : Tokens) → LocalAt r ts

suffix_length : {a b : Tokens} → Suffix a b → length a ≤ length b
suffix_length all = omega arith
suffix_length (after p) = omega (arith, suffix_length p)

agree_suffix : {ts at ts' at' : Tokens} → Agree ts at ts' at' → Suffix at ts
agree_suffix here = all
agree_suffix (later g) = after (agree_suffix g)

-- agreement up to the first token
agree_self : {ts at ts' at' : Tokens} → ts ≡ at → Agree ts at ts' at' → ts' ≡ at'
agree_self e here = refl
agree_self e (later g) = absurd (omega (arith, suffix_length (agree_suffix g), ap length e))

-- agreement up to a place further on is agreement up to one before it, and from there
pub record Split (ts mid at ts' at' : Tokens) : Type 0 where
  pub mid' : Tokens
  pub before : Agree ts mid ts' mid'
  pub from : Agree mid at mid' at'

pub split : {ts mid at ts' at' : Tokens} → Suffix mid ts → Suffix at mid → Agree ts at ts' at' → Split ts mid at ts' at'
split all s here = record { mid' = _; before = here; from = here }
split all s (later g) = record { mid' = _; before = here; from = later g }
split (after p) s here = absurd (omega (arith, suffix_length p, suffix_length s))
split (after p) s (later g) = let h = split p s g in record { mid' = h.mid'; before = later h.before; from = h.from }

pub stuck_local : {A : Type 0} → Local {A = A} Stuck
stuck_local ts = record { within = all; alike = λ ts' at' g. ap Stuck (agree_self refl g) }

pub got_local : {A : Type 0} (x : A) → Local (got x)
got_local x ts = record { within = all; alike = λ ts' at' g. ap (Got x) (agree_self refl g) }

abbrev pub LocalTurn : {A : Type 0} → Turn A → Type 0
LocalTurn Refuse = Unit {0}
LocalTurn (Leave x) = Unit {0}
LocalTurn (Take r) = Local r
LocalTurn (Look r) = Local r

cons_tail : (t u : Token) (ts us : Tokens) → ◌≡◌ {A = Tokens} (t ∷ ts) (u ∷ us) → ts ≡ us
cons_tail t u ts us e = cc

module _ {A : Type 0} (e : Turn A) (turn : Symbol → Token → Turn A) where
  at_end : (z : Turn A) → LocalTo (on_token e turn) [] (ended z)
  at_end Refuse = record { within = all; alike = λ ts' at' g. elim g [ ] }
  at_end (Leave x) = record { within = all; alike = λ ts' at' g. elim g [ ] }
  at_end (Take r) = record { within = all; alike = λ ts' at' g. elim g [ ] }
  at_end (Look r) = record { within = all; alike = λ ts' at' g. elim g [ ] }

  -- what begins like these tokens takes the same turn
  same_turn : (z : Turn A) (t : Token) (us at ts' at' : Tokens) → turn (symbol_of t.lexeme) t ≡ z → Agree (t ∷ us) at ts' at'
      → (us' : Tokens) × (ts' ≡ t ∷ us') × (on_token e turn ts' ≡ turned z t us')
  same_turn z t us at ts' at' h (here {us' = w}) = (w, refl, ap (λ y. turned y t w) h)
  same_turn z t us at ts' at' h (later {ts' = w} g) = (w, refl, ap (λ y. turned y t w) h)

  -- the rest of tokens that agree beyond the first
  beyond : (t : Token) (us at ts' at' : Tokens) → Suffix at us → Agree (t ∷ us) at ts' at' → (us' : Tokens) × (ts' ≡ t ∷ us') × Agree us at us' at'
  beyond t us at ts' at' s here = absurd (omega (arith, suffix_length s))
  beyond t us at ts' at' s (later {ts' = w} g) = (w, refl, g)

  by_turn : (z : Turn A) (t : Token) (us : Tokens) → turn (symbol_of t.lexeme) t ≡ z → LocalTurn z → LocalTo (on_token e turn) (t ∷ us) (turned z t us)
  by_turn Refuse t us h l = record {
    within = all;
    alike = λ ts' at' g. let q = same_turn Refuse t us _ ts' at' h g in q.2 ∙ ap Stuck (sym q.1 ∙ agree_self refl g);
  }
  by_turn (Leave x) t us h l = record {
    within = all;
    alike = λ ts' at' g. let q = same_turn (Leave x) t us _ ts' at' h g in q.2 ∙ ap (Got x) (sym q.1 ∙ agree_self refl g);
  }
  by_turn (Take r) t us h l = record {
    within = after (l us).within;
    alike = λ ts' at' g.
        let b = beyond t us _ ts' at' (l us).within g in
        let q = same_turn (Take r) t us _ ts' at' h g in
        q.2 ∙ ((l us).alike q.0 at' (subst (λ w. Agree us (place (r us)) w at') (cons_tail t t b.0 q.0 (sym b.1 ∙ q.1)) b.2));
  }
  by_turn (Look r) t us h l = record {
    within = (l (t ∷ us)).within;
    alike = λ ts' at' g.
        let q = same_turn (Look r) t us _ ts' at' h g in
        q.2 ∙ ((l (t ∷ us)).alike (t ∷ q.0) at' (subst (λ w. Agree (t ∷ us) (place (r (t ∷ us))) w at') q.1 g));
  }

  pub on_local : ((s : Symbol) (t : Token) → LocalTurn (turn s t)) → Local (on_token e turn)
  on_local l [] = at_end e
  on_local l (t ∷ us) = by_turn (turn (symbol_of t.lexeme) t) t us refl (l (symbol_of t.lexeme) t)

module _ {A B : Type 0} (r : Reader A) (k : A → Reader B) where
  bind_to : (q : Reading A) (ts : Tokens) → r ts ≡ q → LocalTo r ts q → ((x : A) → Local (k x)) → LocalTo (r >>= k) ts (goes_on k q)
  bind_to (Stuck rest) ts h l m = record { within = l.within; alike = λ ts' at' g. ap (goes_on k) (l.alike ts' at' g) }
  bind_to (Got x mid) ts h l m = record {
    within = suffix_trans (m x mid).within l.within;
    alike = λ ts' at' g.
        let s = split l.within (m x mid).within g in
        ap (goes_on k) (l.alike ts' s.mid' s.before) ∙ (m x mid).alike s.mid' at' s.from;
  }

  pub bind_local : Local r → ((x : A) → Local (k x)) → Local (r >>= k)
  bind_local l m ts = bind_to (r ts) ts refl (l ts) m

pub expect_local : (s : Symbol) → Local (expect s)
expect_local s = on_local Refuse (λ found t. accept (same found s) t) (λ found t. accepts (same found s) t)
  where
    accepts : (b : Bool) (t : Token) → LocalTurn (accept b t)
    accepts true t = got_local t
    accepts false t = tt

pub skip_local : {A : Type 0} (s : Symbol) (r : Reader A) → Local r → Local (skip s r)
skip_local s r l = bind_local (expect s) (λ _. r) (expect_local s) (λ _. l)

pub provided_local : {A : Type 0} (b : Bool) (turn : Turn A) → LocalTurn turn → LocalTurn (provided b turn)
provided_local true turn l = l
provided_local false turn l = tt

module _ {S : Type 0} (turn : Symbol → Token → S → Turn S) (l : (found : Symbol) (t : Token) (s : S) → LocalTurn (turn found t s)) where
  looped_local : (z : Turn S) (again : S → Reader S) → LocalTurn z → ((s : S) → Local (again s)) → LocalTurn (looped z again)
  looped_local Refuse again m a = tt
  looped_local (Leave s) again m a = tt
  looped_local (Take r) again m a = bind_local r again m a
  looped_local (Look r) again m a = bind_local r again m a

  pub repeat_local : (n : ℕ) (s : S) → Local (repeat turn n s)
  repeat_local zero s = stuck_local
  repeat_local (suc n) s = on_local (Leave s) (λ found t. looped (turn found t s) (repeat turn n)) (λ found t. looped_local (turn found t s) (repeat turn n) (l found t s) (repeat_local n))

-- where reading gets stuck, it gets stuck on tokens that agree up to there
pub local_stuck : {A : Type 0} (r : Reader A) (ts at ts' at' : Tokens) → LocalAt r ts → r ts ≡ Stuck at → Agree ts at ts' at' → r ts' ≡ Stuck at'
local_stuck r ts at ts' at' l e g = subst (λ q. Agree ts (place q) ts' at' → r ts' ≡ moved q at') e (l.alike ts' at') g
