-- What is built of the answer of a part: how it reads, where the part reads so.
use Rattle.std.proofs.Common.{◌≡◌, ℕ, ◌<◌, ◌≤◌, ◌∷◌, length, Option, Some, None, sym, ap, subst, arith}
use Rattle.std.specs.Prelude.{Result, Ok, Err, IfOk}
use Rattle.std.specs.Borrow.{Bor}
use Rattle.std.specs.declared.vec.Vec.{Vec}
use Rattle.std.specs.declared.alloc.Global.{Global}
use Rattle.ada_lexer.specs.declared.token.Token.{Token}
use Rattle.ada_syntax.specs.Tree.{Expr}
use Rattle.ada_syntax.specs.TreeView.{with_suffix}
use Rattle.ada_syntax.specs.declared.name.Suffix.{Suffix}
use Rattle.expression_parser.specs.declared.extent.Extent.{Extent}
use Rattle.expression_parser.specs.declared.fault.Fault.{Fault}
use Rattle.expression_parser.specs.declared.fault.Fault.TheVariants.{Syntax, Memory}
use Rattle.expression_parser.specs.declared.symbol.Symbol.TheVariants as symbol
use Rattle.expression_parser.specs.Symbols.{Is}
use Rattle.expression_parser.specs.Reading.{Tokens, Reading, Got, Stuck, expect}
use Rattle.expression_parser.specs.Shows.{Shows, ShowsAs, Reads, More, Skipped, NextSuffix}
use Rattle.expression_parser.specs.Depth as at
use Rattle.expression_parser.specs.Building.{Builds, Encloses, Applies}
use Rattle.expression_parser.proofs.Faults.{failed}
use Rattle.expression_parser.proofs.NameCode.{apply_name, actuals_fail, closing_fail}

module _ {A B : Type 0} (f : B → A) where
  -- the whole reads as the part does, seen as a whole
  pub built : (P Q : Reading A → Type 0) (r : Result (B × Bor Tokens) Fault) (s : Result (A × Bor Tokens) Fault) → ShowsAs f P r → Builds f r s → ((q : Reading A) → P q → Q q) → Shows Q s
  built P Q (Ok v) (Ok x) p b g = subst (λ z. Q (Got z x.1.now)) (sym b.0) (subst (λ ts. Q (Got (f v.0) ts)) (sym b.1) (g (Got (f v.0) v.1.now) p))
  built P Q (Ok v) (Err (Syntax rest)) p b g = absurd b
  built P Q (Ok v) (Err Memory) p b g = tt
  built P Q (Err e) (Ok x) p b g = absurd b
  built P Q (Err e) (Err h) p b g = subst (λ z. Shows Q (failed z)) (sym b) (on e p)
    where
      on : (e : Fault) → ShowsAs f P (failed e) → Shows Q (failed e)
      on (Syntax rest) p = g (Stuck rest.now) p
      on Memory p = tt

  -- the whole reads so, since the part reads so
  pub made : (P : Reading B → Type 0) (Q : Reading A → Type 0) (r : Result (B × Bor Tokens) Fault) (s : Result (A × Bor Tokens) Fault) → Shows P r → Builds f r s → ((v : B) (rest : Tokens) → P (Got v rest) → Q (Got (f v) rest))
      → ((rest : Tokens) → P (Stuck rest) → Q (Stuck rest)) → Shows Q s
  made P Q (Ok v) (Ok x) p b g h = subst (λ z. Q (Got z x.1.now)) (sym b.0) (subst (λ ts. Q (Got (f v.0) ts)) (sym b.1) (g v.0 v.1.now p))
  made P Q (Ok v) (Err (Syntax rest)) p b g h = absurd b
  made P Q (Ok v) (Err Memory) p b g h = tt
  made P Q (Err e) (Ok x) p b g h = absurd b
  made P Q (Err e) (Err k) p b g h = subst (λ z. Shows Q (failed z)) (sym b) (on e p)
    where
      on : (e : Fault) → Shows P (failed e) → Shows Q (failed e)
      on (Syntax rest) p = h rest.now p
      on Memory p = tt

  pub enclosed : (P : Reading B → Type 0) (Q : Reading A → Type 0) (r : Result (B × Bor Tokens) Fault) (s : Result (A × Bor Tokens) Fault) → Shows P r → Encloses f r s
      → ((v : B) (us rest : Tokens) → P (Got v us) → Skipped symbol.RightParenthesis us rest → Q (Got (f v) rest))
      → ((v : B) (us rest : Tokens) → P (Got v us) → expect symbol.RightParenthesis us ≡ Stuck rest → Q (Stuck rest))
      → ((rest : Tokens) → P (Stuck rest) → Q (Stuck rest)) → Shows Q s
  enclosed P Q (Ok v) (Ok x) p b g o h = subst (λ z. Q (Got z x.1.now)) (sym b.0) (g v.0 v.1.now x.1.now p b.1)
  enclosed P Q (Ok v) (Err (Syntax rest)) p b g o h = o v.0 v.1.now rest.now p b
  enclosed P Q (Ok v) (Err Memory) p b g o h = tt
  enclosed P Q (Err e) (Ok x) p b g o h = absurd b
  enclosed P Q (Err e) (Err k) p b g o h = subst (λ z. Shows Q (failed z)) (sym b) (on e p)
    where
      on : (e : Fault) → Shows P (failed e) → Shows Q (failed e)
      on (Syntax rest) p = h rest.now p
      on Memory p = tt

  -- fewer tokens are left
  pub built_below : (m n : ℕ) → m < n → (r : Result (B × Bor Tokens) Fault) (s : Result (A × Bor Tokens) Fault) → IfOk r (λ v. length v.1.now ≤ m) → Builds f r s → IfOk s (λ x. length x.1.now < n)
  built_below m n l (Ok v) (Ok x) h b = omega (arith, l, h, ap length b.1)
  built_below m n l (Ok v) (Err e) h b = tt
  built_below m n l (Err e) (Ok x) h b = absurd b
  built_below m n l (Err e) (Err k) h b = tt

  pub made_below : (m n : ℕ) → m ≤ n → (r : Result (B × Bor Tokens) Fault) (s : Result (A × Bor Tokens) Fault) → IfOk r (λ v. length v.1.now < m) → Builds f r s → IfOk s (λ x. length x.1.now < n)
  made_below m n l (Ok v) (Ok x) h b = omega (arith, l, h, ap length b.1)
  made_below m n l (Ok v) (Err e) h b = tt
  made_below m n l (Err e) (Ok x) h b = absurd b
  made_below m n l (Err e) (Err k) h b = tt

  pub enclosed_below : (m n : ℕ) → m ≤ n → (r : Result (B × Bor Tokens) Fault) (s : Result (A × Bor Tokens) Fault) → IfOk r (λ v. length v.1.now < m) → Encloses f r s → IfOk s (λ x. length x.1.now < n)
  enclosed_below m n l (Ok v) (Ok x) h b = omega (arith, l, h, b.1.shorter)
  enclosed_below m n l (Ok v) (Err e) h b = tt
  enclosed_below m n l (Err e) (Ok x) h b = absurd b
  enclosed_below m n l (Err e) (Err k) h b = tt

-- actuals as the next part of a name
pub applied_next : (x : Extent) (t : Token) (us : Tokens) (r : Result (Vec Expr Global × Bor Tokens) Fault) (s : Result (Option (Suffix × Bor Tokens)) Fault) → Is symbol.LeftParenthesis t
    → ShowsAs (λ v. v.items) (Reads (at.at_exprs x) us) r → IfOk r (λ v. length v.1.now < length us) → Applies r s → NextSuffix x (t ∷ us) s
applied_next x t us (Ok v) (Ok None) i h l b = absurd b
applied_next x t us (Ok v) (Ok (Some p)) i h l b = (
  λ n q f. apply_name x t us v.1.now p.1.now v.0.items i h l b.1 n q (subst (λ z. More (at.suffix_turns x) p.1.now (with_suffix n z) q) b.0 f),
  omega (arith, l, b.1.shorter),
)
applied_next x t us (Ok v) (Err (Syntax rest)) i h l b = λ n. closing_fail x t us v.1.now rest.now v.0.items i h b n
applied_next x t us (Ok v) (Err Memory) i h l b = tt
applied_next x t us (Err e) (Ok p) i h l b = absurd b
applied_next x t us (Err e) (Err k) i h l b = subst (λ z. NextSuffix x (t ∷ us) (failed z)) (sym b) (on e h)
  where
    on : (e : Fault) → ShowsAs (λ (v : Vec Expr Global). v.items) (Reads (at.at_exprs x) us) (failed e) → NextSuffix x (t ∷ us) (failed e)
    on (Syntax rest) h = λ n. actuals_fail x t us rest.now i h n
    on Memory h = tt
