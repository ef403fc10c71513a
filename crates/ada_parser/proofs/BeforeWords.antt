-- A part and the word behind it, which are read first and then go on.
use Rattle.std.proofs.Common.{◌≡◌, ℕ, ◌<◌, length, refl, ap, ◌∙◌, arith}
use Rattle.std.specs.Prelude.{Result}
use Rattle.std.specs.Borrow.{Bor}
use Rattle.ada_lexer.specs.declared.token.Token.{Token}
use Rattle.expression_parser.specs.declared.fault.Fault.{Fault}
use Rattle.expression_parser.specs.declared.symbol.Symbol.{Symbol}
use Rattle.expression_parser.specs.Reading.{Tokens, Reading, Reader, Got, Stuck, got, goes_on, ◌>>=◌, expect, skip}
use Rattle.expression_parser.specs.Shows.{ShowsAs, Reads}
use Rattle.expression_parser.proofs.Comes.{got_bind}
use Rattle.declaration_parser.specs.Closing.{Closes}
use Rattle.declaration_parser.proofs.Closings.{Within, leads, closes, leads_got, read_then, closed}
use Rattle.ada_parser.specs.Lists.{before}

pub before_shows : {A C : Type 0} (view : C → A) (r : ℕ → Reader A) (s : Symbol) (ts : Tokens) (p q : Result (C × Bor Tokens) Fault) → ShowsAs view (Reads r ts) p → Within ts p → Closes s p q → ShowsAs view (Reads (before s r) ts) q
before_shows {A} view r s ts p q h l c = leads_got view (closed s (read_then r)) ts q (closes view (read_then r) s ts p q (leads A view r ts p h l) c)

module _ {A B : Type 0} (s : Symbol) (r : ℕ → Reader A) (k : ℕ → A → Reader B) where
  at_word : (m : ℕ) (a : A) (q : Reading Token) → goes_on (λ _. k m a) q ≡ goes_on (k m) (goes_on (λ _. got a) q)
  at_word m a (Got t us) = refl
  at_word m a (Stuck us) = refl

  at_part : (m : ℕ) (q : Reading A) → goes_on (λ a. skip s (k m a)) q ≡ goes_on (k m) (goes_on (λ a. skip s (got a)) q)
  at_part m (Got a us) = at_word m a (expect s us)
  at_part m (Stuck us) = refl

  pub before_then : (ts us : Tokens) (a : A) (q : Reading B) → Reads (before s r) ts (Got a us) → length us < length ts → ((m : ℕ) → length us < m → k m a us ≡ q) → Reads (λ m. r m >>= λ a. skip s (k m a)) ts q
  before_then ts us a q h l f = record { by = λ m n. at_part m (r m ts) ∙ got_bind (k m) (h.by m n) (f m (omega (arith, l, n))) }

  pub before_stuck : (ts rest : Tokens) → Reads (before s r) ts (Stuck rest) → Reads (λ m. r m >>= λ a. skip s (k m a)) ts (Stuck rest)
  before_stuck ts rest h = record { by = λ m n. at_part m (r m ts) ∙ ap (goes_on (k m)) (h.by m n) }
