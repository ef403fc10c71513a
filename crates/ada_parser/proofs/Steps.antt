-- How readers go on, when what they met is known; over any readers.
use Rattle.std.proofs.Common.{◌≡◌, ℕ, zero, suc, ◌<◌, ◌≤◌, [], ◌∷◌, length, Some, None, refl, ap, sym, ◌∙◌, subst, arith}
use Rattle.std.specs.Prelude.{Result, Ok, Err}
use Rattle.std.specs.Borrow.{Bor}
use denote.Enum.Bare.{true_same}
use Rattle.ada_lexer.specs.declared.token.Token.{Token}
use Rattle.ada_syntax.specs.StatementTree.{Statement}
use Rattle.expression_parser.specs.declared.fault.Fault.{Fault}
use Rattle.expression_parser.specs.declared.fault.Fault.TheVariants.{Syntax, Memory}
use Rattle.expression_parser.specs.declared.symbol.Symbol.{Symbol}
use Rattle.expression_parser.specs.declared.symbol.Symbol.TheVariants as symbol
use Rattle.expression_parser.specs.contracts.symbol.Symbol.{the_type}
use Rattle.expression_parser.specs.Symbols.{symbol_of}
use Rattle.expression_parser.specs.Reading.{Tokens, Reading, Reader, Got, Stuck, Turn, Refuse, Leave, Take, Look, got, goes_on, ◌>>=◌, turned, on_token, expect, skip}
use Rattle.expression_parser.specs.Shows.{Reads, More, Skipped, TakesWord, after}
use Rattle.expression_parser.proofs.Comes.{got_bind, got_then}
use Rattle.expression_parser.proofs.Loops.{more_end, more_leave, more_take, more_take_stuck}
use Rattle.expression_parser.proofs.NameCode.{after_some, after_none}
use Rattle.ada_parser.specs.Lists.{listed, listed_turn, closing, ending}
use Rattle.ada_parser.specs.Endings.{Closed, NotClosed, Ended, NotEnded, TakesClosing, TakesEnd}

pub both : {A B : Type 0} {r : ℕ → Reader A} {a : A} {ts us : Tokens} {q : Reading B} (k : ℕ → A → Reader B) → Reads r ts (Got a us) → length us ≤ length ts → Reads (λ m. k m a) us q → Reads (λ m. r m >>= k m) ts q
both k r l f = record { by = λ m h. got_bind (k m) (r.by m h) (f.by m (omega arith)) }

pub first_fails : {A B : Type 0} {r : ℕ → Reader A} {ts rest : Tokens} (k : ℕ → A → Reader B) → Reads r ts (Stuck rest) → Reads (λ m. r m >>= k m) ts (Stuck rest)
first_fails k r = record { by = λ m h. ap (goes_on (k m)) (r.by m h) }

pub word_then : {B : Type 0} {s : Symbol} {ts us : Tokens} {q : Reading B} (r : ℕ → Reader B) → Skipped s ts us → Reads r us q → Reads (λ m. skip s (r m)) ts q
word_then r k f = record { by = λ m h. got_bind (λ _. r m) k.here (f.by m (omega (arith, k.shorter))) }

pub no_word : {B : Type 0} (s : Symbol) {ts rest : Tokens} (r : ℕ → Reader B) → expect s ts ≡ Stuck rest → Reads (λ m. skip s (r m)) ts (Stuck rest)
no_word s r e = record { by = λ m h. ap (goes_on (λ _. r m)) e }

pub done : {A : Type 0} (a : A) (ts : Tokens) → Reads (λ m. got a) ts (Got a ts)
done a ts = record { by = λ m h. refl }

-- what is one deeper
pub deeper : {A : Type 0} (r : ℕ → Reader A) {q : Reading A} (us : Tokens) → Reads (λ m. r (suc m)) us q → (m : ℕ) → length us < m → r m us ≡ q
deeper r us f zero h = absurd (omega arith)
deeper r us f (suc m) h = f.by m (omega arith)

-- the turn of the next token
module _ {A : Type 0} (e : Turn A) (turn : ℕ → Symbol → Token → Turn A) (t : Token) (us : Tokens) where
  pub takes : {q : Reading A} (r : ℕ → Reader A) → ((m : ℕ) → turn m (symbol_of t.lexeme) t ≡ Take (r m)) → Reads r us q → Reads (λ m. on_token e (turn m)) (t ∷ us) q
  takes r h f = record { by = λ m l. ap (λ z. turned z t us) (h m) ∙ f.by m (omega arith) }

  pub takes_deeper : {q : Reading A} (r : ℕ → Reader A) → ((m : ℕ) → turn m (symbol_of t.lexeme) t ≡ Take (r m)) → Reads (λ m. r (suc m)) us q → Reads (λ m. on_token e (turn m)) (t ∷ us) q
  takes_deeper r h f = record { by = λ m l. ap (λ z. turned z t us) (h m) ∙ deeper r us f m (omega arith) }

  pub looks : {q : Reading A} (r : ℕ → Reader A) → ((m : ℕ) → turn m (symbol_of t.lexeme) t ≡ Look (r m)) → Reads r (t ∷ us) q → Reads (λ m. on_token e (turn m)) (t ∷ us) q
  looks r h f = record { by = λ m l. ap (λ z. turned z t us) (h m) ∙ f.by m l }

  pub leaves : (a : A) → ((m : ℕ) → turn m (symbol_of t.lexeme) t ≡ Leave a) → Reads (λ m. on_token e (turn m)) (t ∷ us) (Got a (t ∷ us))
  leaves a h = record { by = λ m l. ap (λ z. turned z t us) (h m) }

  pub refuses : ((m : ℕ) → turn m (symbol_of t.lexeme) t ≡ Refuse) → Reads (λ m. on_token e (turn m)) (t ∷ us) (Stuck (t ∷ us))
  refuses h = record { by = λ m l. ap (λ z. turned z t us) (h m) }

-- a list whose further items stand behind a word
module _ {A S : Type 0} (w : Symbol) (item : ℕ → Reader A) (add : S → A → S) where
  abbrev pub turns : ℕ → Symbol → Token → S → Turn S
  turns m = listed_turn w (item m) add

  pub list_step : (ts us rest : Tokens) (s : S) (a : A) → after w ts ≡ Some us → Reads item us (Got a rest) → length rest < length us → (q : Reading S) → More turns rest (add s a) q → More turns ts s q
  list_step ts us rest s a e r l q f =
      let n = after_some w ts us e in
      subst (λ z. More turns z s q) (sym n.here)
      (more_take turns s (add s a) n.t us rest (λ m. item m >>= λ a. got (add s a)) q (λ m. ap (λ b. listed b (item m) add s) (true_same the_type (symbol_of n.t.lexeme) w n.is)) (λ m h. got_then (add s) (r.by m (omega arith))) (omega arith) f)

  pub list_step_fail : (ts us rest : Tokens) (s : S) → after w ts ≡ Some us → Reads item us (Stuck rest) → More turns ts s (Stuck rest)
  list_step_fail ts us rest s e r =
      let n = after_some w ts us e in
      subst (λ z. More turns z s (Stuck rest)) (sym n.here)
      (more_take_stuck turns s n.t us rest (λ m. item m >>= λ a. got (add s a)) (λ m. ap (λ b. listed b (item m) add s) (true_same the_type (symbol_of n.t.lexeme) w n.is)) (λ m h. ap (goes_on (λ a. got (add s a))) (r.by m (omega arith))))

  pub list_end : (ts : Tokens) (s : S) → after w ts ≡ None → More turns ts s (Got s ts)
  list_end [] s e = more_end turns s
  list_end (t ∷ us) s e = more_leave turns s t us (λ m. ap (λ b. listed b (item m) add s) (after_none w t us e).is_not)

-- words at the end of a statement
module _ (s : Symbol) where
  pub closes : (ts us vs rest : Tokens) → Skipped symbol.End ts us → Skipped s us vs → Skipped symbol.Semicolon vs rest → Closed s ts rest
  closes ts us vs rest a b c = record {
    by = λ x. got_bind (λ _. skip s (skip symbol.Semicolon (got x))) a.here (got_bind (λ _. skip symbol.Semicolon (got x)) b.here (got_bind (λ _. got x) c.here refl));
    shorter = omega (arith, a.shorter, b.shorter, c.shorter);
  }

  pub no_end : (ts rest : Tokens) → expect symbol.End ts ≡ Stuck rest → NotClosed s ts rest
  no_end ts rest e = record { by = λ x. ap (goes_on (λ _. skip s (skip symbol.Semicolon (got x)))) e }

  pub other_end : (ts us rest : Tokens) → Skipped symbol.End ts us → expect s us ≡ Stuck rest → NotClosed s ts rest
  other_end ts us rest a e = record { by = λ x. got_bind (λ _. skip s (skip symbol.Semicolon (got x))) a.here (ap (goes_on (λ _. skip symbol.Semicolon (got x))) e) }

  pub open_end : (ts us vs rest : Tokens) → Skipped symbol.End ts us → Skipped s us vs → expect symbol.Semicolon vs ≡ Stuck rest → NotClosed s ts rest
  open_end ts us vs rest a b e = record { by = λ x. got_bind (λ _. skip s (skip symbol.Semicolon (got x))) a.here (got_bind (λ _. skip symbol.Semicolon (got x)) b.here (ap (goes_on (λ _. got x)) e)) }

  pub last_closes : (ts us vs : Tokens) (r : Result (Bor Tokens) Fault) → Skipped symbol.End ts us → Skipped s us vs → TakesWord symbol.Semicolon vs r → TakesClosing s ts r
  last_closes ts us vs (Ok w) a b h = closes ts us vs w.now a b h
  last_closes ts us vs (Err (Syntax rest)) a b h = open_end ts us vs rest.now a b h
  last_closes ts us vs (Err Memory) a b h = tt

pub ends : (ts us rest : Tokens) → Skipped symbol.End ts us → Skipped symbol.Semicolon us rest → Ended ts rest
ends ts us rest a b = record { by = λ x. got_bind (λ _. skip symbol.Semicolon (got x)) a.here (got_bind (λ _. got x) b.here refl); shorter = omega (arith, a.shorter, b.shorter) }

pub no_end_word : (ts rest : Tokens) → expect symbol.End ts ≡ Stuck rest → NotEnded ts rest
no_end_word ts rest e = record { by = λ x. ap (goes_on (λ _. skip symbol.Semicolon (got x))) e }

pub no_semicolon : (ts us rest : Tokens) → Skipped symbol.End ts us → expect symbol.Semicolon us ≡ Stuck rest → NotEnded ts rest
no_semicolon ts us rest a e = record { by = λ x. got_bind (λ _. skip symbol.Semicolon (got x)) a.here (ap (goes_on (λ _. got x)) e) }

pub last_ends : (ts us : Tokens) (r : Result (Bor Tokens) Fault) → Skipped symbol.End ts us → TakesWord symbol.Semicolon us r → TakesEnd ts r
last_ends ts us (Ok w) a h = ends ts us w.now a h
last_ends ts us (Err (Syntax rest)) a h = no_semicolon ts us rest.now a h
last_ends ts us (Err Memory) a h = tt

pub closing_then : {s : Symbol} {ts rest : Tokens} (a : Statement) → Closed s ts rest → Reads (λ m. closing s a) ts (Got a rest)
closing_then a c = record { by = λ m h. c.by a }

pub no_closing : {s : Symbol} {ts rest : Tokens} (a : Statement) → NotClosed s ts rest → Reads (λ m. closing s a) ts (Stuck rest)
no_closing a c = record { by = λ m h. c.by a }

pub ending_then : {ts rest : Tokens} (a : Statement) → Ended ts rest → Reads (λ m. ending a) ts (Got a rest)
ending_then a c = record { by = λ m h. c.by a }

pub no_ending : {ts rest : Tokens} (a : Statement) → NotEnded ts rest → Reads (λ m. ending a) ts (Stuck rest)
no_ending a c = record { by = λ m h. c.by a }

pub ruleset closing_rules = (no_end, other_end, last_closes)

pub ruleset end_rules = (no_end_word, last_ends)
