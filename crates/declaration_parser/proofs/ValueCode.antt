-- Initial values, as the code reads them.
use Rattle.std.proofs.Common.{◌≡◌, ℕ, zero, suc, ◌<◌, true, false, cond, List, [], ◌∷◌, ◌++◌, length, Some, None, refl, ap, sym, ◌∙◌, subst, arith}
use Rattle.std.proofs.lemmas.List.{append-nil, append_assoc}
use Rattle.expression_parser.specs.Shows.{Shows, TakesWord}
use Rattle.cov_base.specs.declared.position.Pos.{Pos}
use Rattle.ada_lexer.specs.declared.token.Token.{Token}
use Rattle.ada_syntax.specs.Tree.{Expr}
use Rattle.ada_syntax.specs.declared.declaration.Initial.{Initial}
use Rattle.expression_parser.specs.declared.symbol.Symbol.{Symbol}
use Rattle.expression_parser.specs.declared.symbol.Symbol.TheVariants as symbol
use Rattle.expression_parser.specs.declared.extent.Extent.{Extent}
use Rattle.expression_parser.specs.declared.extent.Extent.TheVariants.{Types}
use Rattle.expression_parser.specs.Symbols.{symbol_of, Is, same}
use Rattle.expression_parser.specs.Extents.{opens}
use Rattle.expression_parser.specs.Reading.{Tokens, Reading, Reader, Got, Stuck, Refuse, Take, Look, got, goes_on, ◌>>=◌, turned, on_token, expect, skip}
use Rattle.expression_parser.specs.Shows.{after, Reads, Skipped}
use Rattle.expression_parser.specs.Depth.{at_expr}
use Rattle.declaration_parser.specs.Subtypes.{plain, inside}
use Rattle.declaration_parser.specs.SubtypeReading as read
use Rattle.declaration_parser.specs.Answers.{within, initial_within, value_within, Encloses}
use Rattle.std.specs.Prelude.{Result, Ok, Err}
use Rattle.std.specs.Borrow.{Bor}
use Rattle.expression_parser.specs.declared.fault.Fault.{Fault}
use Rattle.expression_parser.specs.declared.fault.Fault.TheVariants.{Syntax, Memory}
use Rattle.expression_parser.proofs.Faults.{failed}
use Rattle.declaration_parser.specs.Closing.{Closes}
use Rattle.declaration_parser.proofs.Closings.{read_so, Below, within_below, leads, stops, goes, shows_as_well, read_then}
use Rattle.declaration_parser.proofs.Steps.{got_reads}
use Rattle.declaration_parser.proofs.SubtypeLocal.{parenthesis_alone}
use Rattle.declaration_parser.proofs.ExpressionParts.{types_open_objects}
use Rattle.expression_parser.proofs.Comes.{got_bind, on_symbol}
use Rattle.expression_parser.proofs.NameCode.{after_some, after_none}

module _ (x : Extent) where
  -- where no aggregate stands next
  closed_turn : (m : ℕ) (s : Symbol) (t : Token) → opens x Types ≡ false → read.initial_turn x m (read.initial x m) s t ≡ Look (read.value_by x m)
  closed_turn m symbol.LeftParenthesis t o = ap (λ b. cond b (Take (on_token Refuse (read.inside_turn x m (read.initial x m) t))) (Look (read.value_by x m))) o
  closed_turn m _ t o = refl

  pub plain_closed : (ts : Tokens) → opens x Types ≡ false → (m : ℕ) → read.initial_by x m ts ≡ read.value_by x m ts
  plain_closed [] o m = refl
  plain_closed (t ∷ us) o m = ap (λ z. turned z t us) (closed_turn m (symbol_of t.lexeme) t o)

  pub plain_none : (m : ℕ) → read.initial_by x m [] ≡ read.value_by x m []
  plain_none m = refl

  other_turn : (m : ℕ) (s : Symbol) (t : Token) → (s ≡ symbol.LeftParenthesis → ⊥) → read.initial_turn x m (read.initial x m) s t ≡ Look (read.value_by x m)
  other_turn m symbol.LeftParenthesis t h = absurd (h refl)
  other_turn m _ t h = refl

  pub plain_other : (t : Token) (us : Tokens) → (symbol_of t.lexeme ≡ symbol.LeftParenthesis → ⊥) → (m : ℕ) → read.initial_by x m (t ∷ us) ≡ read.value_by x m (t ∷ us)
  plain_other t us h m = ap (λ z. turned z t us) (other_turn m (symbol_of t.lexeme) t h)

  open_turn : (m : ℕ) (t : Token) (us : Tokens) → opens x Types ≡ true → Is symbol.LeftParenthesis t
      → read.initial_by x m (t ∷ us) ≡ on_token Refuse (read.inside_turn x m (read.initial x m) t) us
  open_turn m t us o i = on_symbol Refuse (read.initial_turn x m (read.initial x m)) symbol.LeftParenthesis t us i
      ∙ ap (λ b. turned (cond b (Take (on_token Refuse (read.inside_turn x m (read.initial x m) t))) (Look (read.value_by x m))) t us) o

  no_others_turn : (m : ℕ) (s : Symbol) (t u : Token) → same s symbol.Others ≡ false → read.inside_turn x m (read.initial x m) t s u ≡ Look (read.enclosed_by x m t)
  no_others_turn m symbol.Others t u h = cc
  no_others_turn m _ t u h = refl

  pub plain_second : (t : Token) (us : Tokens) → opens x Types ≡ true → symbol_of t.lexeme ≡ symbol.LeftParenthesis → after symbol.Others us ≡ None → (m : ℕ)
      → read.initial_by x m (t ∷ us) ≡ read.value_by x m (t ∷ us)
  plain_second t [] o i a m = open_turn m t [] o i ∙ sym (ap (goes_on (λ e. got (plain e))) (parenthesis_alone x m t i (types_open_objects x o)))
  plain_second t (u ∷ vs) o i a m = open_turn m t (u ∷ vs) o i ∙ ap (λ z. turned z u vs) (no_others_turn m (symbol_of u.lexeme) t u (after_none symbol.Others u vs a).is_not)

  pub encloses : (t : Token) (us vs : Tokens) → opens x Types ≡ true → symbol_of t.lexeme ≡ symbol.LeftParenthesis → after symbol.Others us ≡ Some vs → Encloses x (t ∷ us) vs t.pos
  encloses t us vs o i a =
      let n = after_some symbol.Others us vs a in
      record {
        by = λ m. open_turn m t us o i ∙ (ap (on_token Refuse (read.inside_turn x m (read.initial x m) t)) n.here ∙ on_symbol Refuse (read.inside_turn x m (read.initial x m) t) symbol.Others n.t vs n.is);
        shorter = omega (arith, ap length n.here);
      }

  -- values in parentheses
  abbrev wraps : List Pos → Initial → Reader Initial
  wraps ps i = got (within ps i)

  pub value_fails_first : (ps : List Pos) (ts : Tokens) (f : Fault)
      → Shows (Reads (at_expr x) ts) (failed f)
      → Shows (Reads (value_within x ps) ts) (failed f)
  value_fails_first ps ts f h1 =
      stops (λ z. z) (read_then (at_expr x)) (λ m z0. got (record { others = ps; value = z0 })) ts f (leads (Initial) (λ z. z) (at_expr x) ts (failed f) h1 tt)

  pub value_read : (ps : List Pos) (ts : Tokens) (v0 : Expr) (u0 : Bor Tokens)
      → Shows (Reads (at_expr x) ts) (read_so v0 u0) → Below ts (read_so v0 u0)
      → Reads (value_within x ps) ts (Got (record { others = ps; value = v0 }) u0.now)
  value_read ps ts v0 u0 h1 h2 =
      goes (λ z. z) (read_then (at_expr x)) (λ m z0. got (record { others = ps; value = z0 })) ts v0 u0 (read_so (record { others = ps; value = v0 }) u0) (leads (Initial) (λ z. z) (at_expr x) ts (read_so v0 u0) h1 (within_below ts (read_so v0 u0) h2)) (
      got_reads (record { others = ps; value = v0 }) u0.now)

  -- a value in no further parentheses
  plain_as : (ps : List Pos) (q : Reading Expr) → goes_on (wraps ps) (goes_on (λ e. got (plain e)) q) ≡ goes_on (λ e. got (record { others = ps; value = e })) q
  plain_as ps (Got e us) = ap (λ qs. Got (record { others = qs; value = e }) us) (append-nil ps)
  plain_as ps (Stuck us) = refl

  pub within_value : (ps : List Pos) (ts : Tokens) (r : Result (Initial × Bor Tokens) Fault) → ((m : ℕ) → read.initial_by x m ts ≡ read.value_by x m ts) → Shows (Reads (value_within x ps) ts) r
      → Shows (Reads (initial_within x ps) ts) r
  within_value ps ts r h s = shows_as_well (value_within x ps) (initial_within x ps) ts r (λ m. ap (goes_on (wraps ps)) (h m) ∙ plain_as ps (at_expr x m ts)) s

  pub within_arrow_fails : (ps : List Pos) (p : Pos) (ts us rest : Tokens) → Encloses x ts us p → expect symbol.Arrow us ≡ Stuck rest → Reads (initial_within x ps) ts (Stuck rest)
  within_arrow_fails ps p ts us rest k e = record { by = λ m l. ap (goes_on (wraps ps)) (k.by m ∙ ap (goes_on (λ _. read.initial x m >>= λ i. skip symbol.RightParenthesis (got (inside p i)))) e) }

  -- what stands in the parenthesis is one deeper
  deeper : (ps : List Pos) (vs : Tokens) (q : Reading Initial) → Reads (initial_within x ps) vs q → (m : ℕ) → length vs < m → (read.initial x m >>= wraps ps) vs ≡ q
  deeper ps vs q r zero h = absurd (omega arith)
  deeper ps vs q r (suc m) h = r.by m (omega arith)

  abbrev closes : Pos → Initial → Reader Initial
  closes p i = skip symbol.RightParenthesis (got (inside p i))

  inside_stuck : (ps : List Pos) (p : Pos) (q : Reading Initial) (rest : Tokens) → goes_on (wraps (ps ++ p ∷ [])) q ≡ Stuck rest → goes_on (wraps ps) (goes_on (closes p) q) ≡ Stuck rest
  inside_stuck ps p (Got i ws) rest h = cc
  inside_stuck ps p (Stuck ws) rest h = h

  inside_got : (ps : List Pos) (p : Pos) (q : Reading Initial) (j : Initial) (ws : Tokens) → goes_on (wraps (ps ++ p ∷ [])) q ≡ Got j ws
      → goes_on (wraps ps) (goes_on (closes p) q) ≡ goes_on (λ _. got j) (expect symbol.RightParenthesis ws)
  inside_got ps p (Got i vs) j ws h =
      let e : vs ≡ ws = cc in
      let f : within (ps ++ p ∷ []) i ≡ j = cc in
      ends (expect symbol.RightParenthesis vs) ∙ (ap (λ z. goes_on (λ _. got (within ps (inside p i))) (expect symbol.RightParenthesis z)) e
      ∙ ap (λ z. goes_on (λ _. got z) (expect symbol.RightParenthesis ws)) (ap (λ qs. record { others = qs; value = i.value }) (sym (append_assoc ps (p ∷ []) i.others)) ∙ f))
    where
      ends : (r : Reading Token) → goes_on (wraps ps) (goes_on (λ _. got (inside p i)) r) ≡ goes_on (λ _. got (within ps (inside p i))) r
      ends (Got t rest) = refl
      ends (Stuck rest) = refl
  inside_got ps p (Stuck vs) j ws h = cc

  arrow_taken : (ps : List Pos) (p : Pos) (ts us vs : Tokens) → Encloses x ts us p → Skipped symbol.Arrow us vs → (m : ℕ)
      → initial_within x ps m ts ≡ goes_on (wraps ps) (goes_on (closes p) (read.initial x m vs))
  arrow_taken ps p ts us vs k a m = ap (goes_on (wraps ps)) (k.by m ∙ got_bind (λ _. read.initial x m >>= closes p) a.here refl)

  pub within_inner_fails : (ps qs : List Pos) (p : Pos) (ts us vs rest : Tokens) → Encloses x ts us p → Skipped symbol.Arrow us vs → qs ≡ ps ++ p ∷ []
      → Reads (initial_within x qs) vs (Stuck rest) → Reads (initial_within x ps) ts (Stuck rest)
  within_inner_fails ps qs p ts us vs rest k a e r =
      let s = subst (λ z. Reads (initial_within x z) vs (Stuck rest)) e r in
      record { by = λ m l. arrow_taken ps p ts us vs k a m ∙ inside_stuck ps p (read.initial x m vs) rest (deeper (ps ++ p ∷ []) vs (Stuck rest) s m (omega (arith, k.shorter, a.shorter))) }

  pub within_close_fails : (ps qs : List Pos) (p : Pos) (ts us vs ws rest : Tokens) (i : Initial) → Encloses x ts us p → Skipped symbol.Arrow us vs → qs ≡ ps ++ p ∷ []
      → Reads (initial_within x qs) vs (Got i ws) → expect symbol.RightParenthesis ws ≡ Stuck rest
      → Reads (initial_within x ps) ts (Stuck rest)
  within_close_fails ps qs p ts us vs ws rest i k a e r c =
      let s = subst (λ z. Reads (initial_within x z) vs (Got i ws)) e r in
      record { by = λ m l. arrow_taken ps p ts us vs k a m ∙ (inside_got ps p (read.initial x m vs) i ws (deeper (ps ++ p ∷ []) vs (Got i ws) s m (omega (arith, k.shorter, a.shorter))) ∙ ap (goes_on (λ _. got i)) c) }

  pub within_read : (ps qs : List Pos) (p : Pos) (ts us vs ws rest : Tokens) (i : Initial) → Encloses x ts us p → Skipped symbol.Arrow us vs → qs ≡ ps ++ p ∷ []
      → Reads (initial_within x qs) vs (Got i ws) → Skipped symbol.RightParenthesis ws rest
      → Reads (initial_within x ps) ts (Got i rest)
  within_read ps qs p ts us vs ws rest i k a e r c =
      let s = subst (λ z. Reads (initial_within x z) vs (Got i ws)) e r in
      record { by = λ m l. arrow_taken ps p ts us vs k a m ∙ (inside_got ps p (read.initial x m vs) i ws (deeper (ps ++ p ∷ []) vs (Got i ws) s m (omega (arith, k.shorter, a.shorter))) ∙ ap (goes_on (λ _. got i)) c.here) }

  nothing_added : (q : Reading Initial) → goes_on (wraps []) q ≡ q
  nothing_added (Got i rest) = refl
  nothing_added (Stuck rest) = refl

  pub within_none : (ps : List Pos) (ts : Tokens) (q : Reading Initial) → ps ≡ [] → Reads (initial_within x ps) ts q → Reads (read.initial_by x) ts q
  within_none ps ts q e r =
      let s = subst (λ z. Reads (initial_within x z) ts q) e r in
      record { by = λ m h. sym (nothing_added (read.initial_by x m ts)) ∙ s.by m h }

  -- what stands in the parenthesis and fails, and what is closed
  inner_fault : (ps qs : List Pos) (p : Pos) (ts us vs : Tokens) (f : Fault) → Encloses x ts us p → Skipped symbol.Arrow us vs → qs ≡ ps ++ p ∷ []
      → Shows (Reads (initial_within x qs) vs) (failed f) → Shows (Reads (initial_within x ps) ts) (failed f)
  inner_fault ps qs p ts us vs (Syntax rest) k a e r = within_inner_fails ps qs p ts us vs rest.now k a e r
  inner_fault ps qs p ts us vs Memory k a e r = tt

  pub within_closed : (ps qs : List Pos) (p : Pos) (ts us vs : Tokens) (i r : Result (Initial × Bor Tokens) Fault) → Encloses x ts us p → Skipped symbol.Arrow us vs → qs ≡ ps ++ p ∷ []
      → Shows (Reads (initial_within x qs) vs) i → Closes symbol.RightParenthesis i r → Shows (Reads (initial_within x ps) ts) r
  within_closed ps qs p ts us vs (Ok i) (Ok y) k a e h c =
      subst (λ z. Reads (initial_within x ps) ts (Got z y.1.now)) (sym c.0) (within_read ps qs p ts us vs i.1.now y.1.now i.0 k a e h c.1)
  within_closed ps qs p ts us vs (Ok i) (Err (Syntax rest)) k a e h c = within_close_fails ps qs p ts us vs i.1.now rest.now i.0 k a e h c
  within_closed ps qs p ts us vs (Ok i) (Err Memory) k a e h c = tt
  within_closed ps qs p ts us vs (Err f) (Ok y) k a e h c = absurd c
  within_closed ps qs p ts us vs (Err f) (Err g) k a e h c = subst (λ z. Shows (Reads (initial_within x ps) ts) (failed z)) (sym c) (inner_fault ps qs p ts us vs f k a e h)

  -- the arrow that fails, whatever the fault
  pub arrow_fault : (ps : List Pos) (p : Pos) (ts us : Tokens) (f : Fault) → Encloses x ts us p → TakesWord symbol.Arrow us (failed f)
      → Shows (Reads (initial_within x ps) ts) (failed f)
  arrow_fault ps p ts us (Syntax rest) k e = within_arrow_fails ps p ts us rest.now k e
  arrow_fault ps p ts us Memory k e = tt

pub ruleset aggregate_rules = (plain_closed, plain_none, plain_other, plain_second, encloses)

pub ruleset initial_rules = (within_none)

pub ruleset within_rules = (within_value, within_arrow_fails, within_closed)
