-- The loops over actuals and over the parts of a name.
use Rattle.std.proofs.Common.{◌≡◌, ℕ, zero, suc, ◌<◌, Bool, true, false, cond, List, [], ◌∷◌, ◌++◌, length, Some, None, refl, ap, sym, ◌∙◌, subst, arith}
use denote.Enum.Bare.{same_true}
use Rattle.ada_lexer.specs.declared.token.Token.{Token}
use Rattle.ada_syntax.specs.Tree.{Expr, Name, simple, selected, attribute, applied}
use Rattle.ada_syntax.specs.TreeView.{exprs_of}
use Rattle.ada_syntax.specs.declared.name.Identifier.{Identifier}
use Rattle.expression_parser.specs.declared.symbol.Symbol.{Symbol}
use Rattle.expression_parser.specs.declared.symbol.Symbol.TheVariants as symbol
use Rattle.expression_parser.specs.contracts.symbol.Symbol.{the_type}
use Rattle.expression_parser.specs.declared.extent.Extent.{Extent}
use Rattle.expression_parser.specs.declared.extent.Extent.TheVariants.{Objects}
use Rattle.expression_parser.specs.Symbols.{symbol_of, Is, same, identifier_of}
use Rattle.expression_parser.specs.Extents.{opens}
use Rattle.expression_parser.specs.Reading.{Tokens, Reading, Reader, Got, Stuck, Leave, Take, got, goes_on, ◌>>=◌, provided, expect, skip, repeat}
use Rattle.expression_parser.specs.ExpressionReading as read
use Rattle.expression_parser.specs.Depth as at
use Rattle.expression_parser.specs.Shows.{Reads, More, Skipped, Identified, after}
use Rattle.expression_parser.proofs.Comes.{got_bind, got_then}
use Rattle.expression_parser.proofs.Loops.{more_end, more_leave, more_refuse, more_take, more_take_stuck}

-- where a word stands next
pub record Next (s : Symbol) (ts us : Tokens) : Type 0 where
  pub t : Token
  pub here : ts ≡ t ∷ us
  pub is : Is s t

next_at : (s : Symbol) (t : Token) (us vs : Tokens) (b : Bool) → same (symbol_of t.lexeme) s ≡ b → cond b (Some us) None ≡ Some vs → Next s (t ∷ us) vs
next_at s t us vs true h e = record { t = t; here = cc; is = same_true the_type tt (symbol_of t.lexeme) s h }
next_at s t us vs false h e = cc

pub after_some : (s : Symbol) (ts us : Tokens) → after s ts ≡ Some us → Next s ts us
after_some s [] us e = cc
after_some s (t ∷ vs) us e = next_at s t vs us (same (symbol_of t.lexeme) s) refl e

-- where it does not
pub record NotNext (s : Symbol) (t : Token) : Type 0 where
  pub is_not : same (symbol_of t.lexeme) s ≡ false

not_next_at : (s : Symbol) (t : Token) (us : Tokens) (b : Bool) → same (symbol_of t.lexeme) s ≡ b → cond b (Some us) None ≡ None → NotNext s t
not_next_at s t us true h e = cc
not_next_at s t us false h e = record { is_not = h }

pub after_none : (s : Symbol) (t : Token) (us : Tokens) → after s (t ∷ us) ≡ None → NotNext s t
after_none s t us e = not_next_at s t us (same (symbol_of t.lexeme) s) refl e

module _ (x : Extent) where
  pub exprs_begin : (ts rest : Tokens) (e : Expr) → Reads (at.at_expr x) ts (Got e rest) → length rest < length ts → (q : Reading (List Expr)) → More (at.comma_turns x) rest (e ∷ []) q → Reads (at.at_exprs x) ts q
  exprs_begin ts rest e r l q f = record { by = λ m h. got_bind (λ z. repeat (at.comma_turns x m) (suc (suc m)) (z ∷ [])) (r.by m h) (f.by m (suc (suc m)) (omega arith) (omega arith)) }

  pub exprs_fail : (ts rest : Tokens) → Reads (at.at_expr x) ts (Stuck rest) → Reads (at.at_exprs x) ts (Stuck rest)
  exprs_fail ts rest r = record { by = λ m h. ap (goes_on (λ z. repeat (at.comma_turns x m) (suc (suc m)) (z ∷ []))) (r.by m h) }

  pub exprs_step : (ts us rest : Tokens) (es : List Expr) (e : Expr) → after symbol.Comma ts ≡ Some us → Reads (at.at_expr x) us (Got e rest) → length rest < length us → (q : Reading (List Expr)) → More (at.comma_turns x) rest (es ++ e ∷ []) q
      → More (at.comma_turns x) ts es q
  exprs_step ts us rest es e a r l q f =
      let n = after_some symbol.Comma ts us a in
      subst (λ z. More (at.comma_turns x) z es q) (sym n.here)
      (more_take (at.comma_turns x) es (es ++ e ∷ []) n.t us rest (λ m. read.expr x (suc m) >>= λ z. got (es ++ z ∷ [])) q (λ m. ap (λ z. at.comma_turns x m z n.t es) n.is) (λ m h. got_then (λ z. es ++ z ∷ []) (r.by m (omega arith))) (omega arith) f)

  pub exprs_step_fail : (ts us rest : Tokens) (es : List Expr) → after symbol.Comma ts ≡ Some us → Reads (at.at_expr x) us (Stuck rest) → More (at.comma_turns x) ts es (Stuck rest)
  exprs_step_fail ts us rest es a r =
      let n = after_some symbol.Comma ts us a in
      subst (λ z. More (at.comma_turns x) z es (Stuck rest)) (sym n.here)
      (more_take_stuck (at.comma_turns x) es n.t us rest (λ m. read.expr x (suc m) >>= λ z. got (es ++ z ∷ [])) (λ m. ap (λ z. at.comma_turns x m z n.t es) n.is) (λ m h. ap (goes_on (λ z. got (es ++ z ∷ []))) (r.by m (omega arith))))

  comma_leaves : (m : ℕ) (s : Symbol) (t : Token) (es : List Expr) → same s symbol.Comma ≡ false → at.comma_turns x m s t es ≡ Leave es
  comma_leaves m symbol.Comma t es h = cc
  comma_leaves m _ t es h = refl

  pub exprs_end : (ts : Tokens) (es : List Expr) → after symbol.Comma ts ≡ None → More (at.comma_turns x) ts es (Got es ts)
  exprs_end [] es a = more_end (at.comma_turns x) es
  exprs_end (t ∷ us) es a = more_leave (at.comma_turns x) es t us (λ m. comma_leaves m (symbol_of t.lexeme) t es (after_none symbol.Comma t us a).is_not)

  -- names
  pub name_begin : (ts rest : Tokens) (i : Identifier) → Identified ts rest i → (q : Reading Name) → More (at.suffix_turns x) rest (simple i) q → Reads (at.at_name x) ts q
  name_begin ts rest i k q f = record { by = λ m h. got_bind (λ z. repeat (at.suffix_turns x m) (suc m) (simple (identifier_of z))) k.here (ap (λ z. repeat (at.suffix_turns x m) (suc m) (simple z) rest) (sym k.same) ∙ f.by m (suc m) (omega (arith, k.shorter)) (omega (arith, k.shorter))) }

  pub name_fail : (ts rest : Tokens) → expect symbol.Identifier ts ≡ Stuck rest → Reads (at.at_name x) ts (Stuck rest)
  name_fail ts rest e = record { by = λ m h. ap (goes_on (λ z. repeat (at.suffix_turns x m) (suc m) (simple (identifier_of z)))) e }

  suffix_leaves : (m : ℕ) (s : Symbol) (t : Token) (n : Name) → (s ≡ symbol.Dot → ⊥) → (s ≡ symbol.Tick → ⊥) → (s ≡ symbol.LeftParenthesis → ⊥) → at.suffix_turns x m s t n ≡ Leave n
  suffix_leaves m symbol.Dot t n a b c = absurd (a refl)
  suffix_leaves m symbol.Tick t n a b c = absurd (b refl)
  suffix_leaves m symbol.LeftParenthesis t n a b c = absurd (c refl)
  suffix_leaves m _ t n a b c = refl

  pub no_suffix_at_end : (n : Name) → More (at.suffix_turns x) [] n (Got n [])
  no_suffix_at_end n = more_end (at.suffix_turns x) n

  pub no_suffix : (t : Token) (us : Tokens) → (symbol_of t.lexeme ≡ symbol.Dot → ⊥) → (symbol_of t.lexeme ≡ symbol.Tick → ⊥) → (symbol_of t.lexeme ≡ symbol.LeftParenthesis → ⊥) → (n : Name) → More (at.suffix_turns x) (t ∷ us) n (Got n (t ∷ us))
  no_suffix t us a b c n = more_leave (at.suffix_turns x) n t us (λ m. suffix_leaves m (symbol_of t.lexeme) t n a b c)

  pub select : (t : Token) (us rest : Tokens) (j : Identifier) → Is symbol.Dot t → Identified us rest j → (n : Name) (q : Reading Name) → More (at.suffix_turns x) rest (selected n j) q → More (at.suffix_turns x) (t ∷ us) n q
  select t us rest j i k n q f = more_take (at.suffix_turns x) n (selected n j) t us rest (λ m. expect symbol.Identifier >>= λ z. got (selected n (identifier_of z))) q
      (λ m. ap (λ z. at.suffix_turns x m z t n) i) (λ m h. got_then (λ z. selected n (identifier_of z)) k.here ∙ ap (λ z. Got (selected n z) rest) (sym k.same)) (omega (arith, k.shorter)) f

  pub select_fail : (t : Token) (us rest : Tokens) → Is symbol.Dot t → expect symbol.Identifier us ≡ Stuck rest → (n : Name) → More (at.suffix_turns x) (t ∷ us) n (Stuck rest)
  select_fail t us rest i e n = more_take_stuck (at.suffix_turns x) n t us rest (λ m. expect symbol.Identifier >>= λ z. got (selected n (identifier_of z)))
      (λ m. ap (λ z. at.suffix_turns x m z t n) i) (λ m h. ap (goes_on (λ z. got (selected n (identifier_of z)))) e)

  tick_turn : (t : Token) (n : Name) → Is symbol.Tick t → (b : Bool) → opens x Objects ≡ b → (m : ℕ) → at.suffix_turns x m (symbol_of t.lexeme) t n ≡ provided b (Take (expect symbol.Identifier >>= λ z. got (attribute n (identifier_of z))))
  tick_turn t n i b o m = ap (λ z. at.suffix_turns x m z t n) i ∙ ap (λ z. provided z (Take (expect symbol.Identifier >>= λ z. got (attribute n (identifier_of z))))) o

  pub take_attribute : (t : Token) (us rest : Tokens) (j : Identifier) → Is symbol.Tick t → opens x Objects ≡ true → Identified us rest j → (n : Name) (q : Reading Name) → More (at.suffix_turns x) rest (attribute n j) q → More (at.suffix_turns x) (t ∷ us) n q
  take_attribute t us rest j i o k n q f = more_take (at.suffix_turns x) n (attribute n j) t us rest (λ m. expect symbol.Identifier >>= λ z. got (attribute n (identifier_of z))) q
      (tick_turn t n i true o) (λ m h. got_then (λ z. attribute n (identifier_of z)) k.here ∙ ap (λ z. Got (attribute n z) rest) (sym k.same)) (omega (arith, k.shorter)) f

  pub attribute_fail : (t : Token) (us rest : Tokens) → Is symbol.Tick t → opens x Objects ≡ true → expect symbol.Identifier us ≡ Stuck rest → (n : Name) → More (at.suffix_turns x) (t ∷ us) n (Stuck rest)
  attribute_fail t us rest i o e n = more_take_stuck (at.suffix_turns x) n t us rest (λ m. expect symbol.Identifier >>= λ z. got (attribute n (identifier_of z)))
      (tick_turn t n i true o) (λ m h. ap (goes_on (λ z. got (attribute n (identifier_of z)))) e)

  pub attribute_closed : (t : Token) (us : Tokens) → Is symbol.Tick t → opens x Objects ≡ false → (n : Name) → More (at.suffix_turns x) (t ∷ us) n (Stuck (t ∷ us))
  attribute_closed t us i o n = more_refuse (at.suffix_turns x) n t us (tick_turn t n i false o)

  -- actuals stand one deeper than their name
  actuals_at : (us : Tokens) (q : Reading (List Expr)) → Reads (at.at_exprs x) us q → (m : ℕ) → length us < m → read.exprs_by x (read.expr x m) (suc m) us ≡ q
  actuals_at us q r zero h = absurd (omega arith)
  actuals_at us q r (suc m) h = r.by m (omega arith)

  abbrev applies : Name → ℕ → Reader Name
  applies n m = read.exprs_by x (read.expr x m) (suc m) >>= λ es. skip symbol.RightParenthesis (got (applied n (exprs_of es)))

  pub apply_name : (t : Token) (us vs rest : Tokens) (es : List Expr) → Is symbol.LeftParenthesis t → Reads (at.at_exprs x) us (Got es vs) → length vs < length us → Skipped symbol.RightParenthesis vs rest → (n : Name) (q : Reading Name)
      → More (at.suffix_turns x) rest (applied n (exprs_of es)) q → More (at.suffix_turns x) (t ∷ us) n q
  apply_name t us vs rest es i r l k n q f = more_take (at.suffix_turns x) n (applied n (exprs_of es)) t us rest (applies n) q (λ m. ap (λ z. at.suffix_turns x m z t n) i)
      (λ m h. got_bind (λ zs. skip symbol.RightParenthesis (got (applied n (exprs_of zs)))) (actuals_at us (Got es vs) r m h) (got_bind (λ _. got (applied n (exprs_of es))) k.here refl)) (omega (arith, k.shorter)) f

  pub actuals_fail : (t : Token) (us rest : Tokens) → Is symbol.LeftParenthesis t → Reads (at.at_exprs x) us (Stuck rest) → (n : Name) → More (at.suffix_turns x) (t ∷ us) n (Stuck rest)
  actuals_fail t us rest i r n = more_take_stuck (at.suffix_turns x) n t us rest (applies n) (λ m. ap (λ z. at.suffix_turns x m z t n) i)
      (λ m h. ap (goes_on (λ zs. skip symbol.RightParenthesis (got (applied n (exprs_of zs))))) (actuals_at us (Stuck rest) r m h))

  pub closing_fail : (t : Token) (us vs rest : Tokens) (es : List Expr) → Is symbol.LeftParenthesis t → Reads (at.at_exprs x) us (Got es vs) → expect symbol.RightParenthesis vs ≡ Stuck rest → (n : Name) → More (at.suffix_turns x) (t ∷ us) n (Stuck rest)
  closing_fail t us vs rest es i r e n = more_take_stuck (at.suffix_turns x) n t us rest (applies n) (λ m. ap (λ z. at.suffix_turns x m z t n) i)
      (λ m h. got_bind (λ zs. skip symbol.RightParenthesis (got (applied n (exprs_of zs)))) (actuals_at us (Got es vs) r m h) (ap (goes_on (λ _. got (applied n (exprs_of es)))) e))

pub ruleset exprs_rules = (exprs_begin, exprs_fail, exprs_step, exprs_step_fail, exprs_end)

pub ruleset name_rules = (name_begin, name_fail)

pub ruleset suffix_rules = (no_suffix_at_end, no_suffix, select, select_fail, take_attribute, attribute_fail, attribute_closed, apply_name, actuals_fail, closing_fail)
