-- Loops from a state on.
use Rattle.std.proofs.Common.{◌≡◌, ℕ, zero, suc, ◌<◌, ◌≤◌, [], ◌∷◌, length, refl, ap, ◌∙◌, arith}
use Rattle.ada_lexer.specs.declared.token.Token.{Token}
use Rattle.expression_parser.specs.declared.symbol.Symbol.{Symbol}
use Rattle.expression_parser.specs.Symbols.{symbol_of}
use Rattle.expression_parser.specs.Reading.{Tokens, Reading, Reader, Got, Stuck, Turn, Refuse, Leave, Take, Look, goes_on, turned, looped, repeat}
use Rattle.expression_parser.specs.Shows.{More}

module _ {S : Type 0} (turns : ℕ → Symbol → Token → S → Turn S) where
  pub more_end : (s : S) → More turns [] s (Got s [])
  more_end s = record { by = at }
    where
      at : (m k : ℕ) → 0 ≤ m → 0 < k → repeat (turns m) k s [] ≡ Got s []
      at m zero h l = absurd (omega arith)
      at m (suc k) h l = refl

  pub more_leave : (s : S) (t : Token) (us : Tokens) → ((m : ℕ) → turns m (symbol_of t.lexeme) t s ≡ Leave s) → More turns (t ∷ us) s (Got s (t ∷ us))
  more_leave s t us e = record { by = at }
    where
      at : (m k : ℕ) → length (t ∷ us) ≤ m → length (t ∷ us) < k → repeat (turns m) k s (t ∷ us) ≡ Got s (t ∷ us)
      at m zero h l = absurd (omega arith)
      at m (suc k) h l = ap (λ z. turned (looped z (repeat (turns m) k)) t us) (e m)

  pub more_refuse : (s : S) (t : Token) (us : Tokens) → ((m : ℕ) → turns m (symbol_of t.lexeme) t s ≡ Refuse) → More turns (t ∷ us) s (Stuck (t ∷ us))
  more_refuse s t us e = record { by = at }
    where
      at : (m k : ℕ) → length (t ∷ us) ≤ m → length (t ∷ us) < k → repeat (turns m) k s (t ∷ us) ≡ Stuck (t ∷ us)
      at m zero h l = absurd (omega arith)
      at m (suc k) h l = ap (λ z. turned (looped z (repeat (turns m) k)) t us) (e m)

  pub more_take : (s s' : S) (t : Token) (us rest : Tokens) (r : ℕ → Reader S) (q : Reading S) → ((m : ℕ) → turns m (symbol_of t.lexeme) t s ≡ Take (r m)) → ((m : ℕ) → length us < m → r m us ≡ Got s' rest) → length rest ≤ length us
      → More turns rest s' q → More turns (t ∷ us) s q
  more_take s s' t us rest r q e g n f = record { by = at }
    where
      at : (m k : ℕ) → length (t ∷ us) ≤ m → length (t ∷ us) < k → repeat (turns m) k s (t ∷ us) ≡ q
      at m zero h l = absurd (omega arith)
      at m (suc k) h l = ap (λ z. turned (looped z (repeat (turns m) k)) t us) (e m) ∙ (ap (goes_on (repeat (turns m) k)) (g m (omega arith)) ∙ f.by m k (omega arith) (omega arith))

  pub more_take_stuck : (s : S) (t : Token) (us rest : Tokens) (r : ℕ → Reader S) → ((m : ℕ) → turns m (symbol_of t.lexeme) t s ≡ Take (r m)) → ((m : ℕ) → length us < m → r m us ≡ Stuck rest) → More turns (t ∷ us) s (Stuck rest)
  more_take_stuck s t us rest r e g = record { by = at }
    where
      at : (m k : ℕ) → length (t ∷ us) ≤ m → length (t ∷ us) < k → repeat (turns m) k s (t ∷ us) ≡ Stuck rest
      at m zero h l = absurd (omega arith)
      at m (suc k) h l = ap (λ z. turned (looped z (repeat (turns m) k)) t us) (e m) ∙ ap (goes_on (repeat (turns m) k)) (g m (omega arith))

  pub more_look : (s s' : S) (t : Token) (us rest : Tokens) (r : ℕ → Reader S) (q : Reading S) → ((m : ℕ) → turns m (symbol_of t.lexeme) t s ≡ Look (r m)) → ((m : ℕ) → length (t ∷ us) ≤ m → r m (t ∷ us) ≡ Got s' rest) → length rest < length (t ∷ us)
      → More turns rest s' q → More turns (t ∷ us) s q
  more_look s s' t us rest r q e g n f = record { by = at }
    where
      at : (m k : ℕ) → length (t ∷ us) ≤ m → length (t ∷ us) < k → repeat (turns m) k s (t ∷ us) ≡ q
      at m zero h l = absurd (omega arith)
      at m (suc k) h l = ap (λ z. turned (looped z (repeat (turns m) k)) t us) (e m) ∙ (ap (goes_on (repeat (turns m) k)) (g m h) ∙ f.by m k (omega arith) (omega arith))

  pub more_look_stuck : (s : S) (t : Token) (us rest : Tokens) (r : ℕ → Reader S) → ((m : ℕ) → turns m (symbol_of t.lexeme) t s ≡ Look (r m)) → ((m : ℕ) → length (t ∷ us) ≤ m → r m (t ∷ us) ≡ Stuck rest) → More turns (t ∷ us) s (Stuck rest)
  more_look_stuck s t us rest r e g = record { by = at }
    where
      at : (m k : ℕ) → length (t ∷ us) ≤ m → length (t ∷ us) < k → repeat (turns m) k s (t ∷ us) ≡ Stuck rest
      at m zero h l = absurd (omega arith)
      at m (suc k) h l = ap (λ z. turned (looped z (repeat (turns m) k)) t us) (e m) ∙ ap (goes_on (repeat (turns m) k)) (g m h)
