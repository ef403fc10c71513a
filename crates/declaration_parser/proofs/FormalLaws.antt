-- Formal parameters: reading is local, sound and complete.
use Rattle.std.proofs.Common.{◌≡◌, ℕ, suc, ◌<◌, ◌≤◌, Bool, true, false, cond, List, [], ◌∷◌, ◌++◌, length, refl, ap, sym, ◌∙◌, subst, arith}
use Rattle.ada_lexer.specs.declared.token.Token.{Token}
use Rattle.ada_syntax.specs.Tree.{Name}
use Rattle.ada_syntax.specs.declared.name.Identifier.{Identifier}
use Rattle.ada_syntax.specs.declared.unit.Mode.{Mode}
use Rattle.ada_syntax.specs.declared.unit.Mode.TheVariants as mode
use Rattle.ada_syntax.specs.declared.unit.Specification.{Specification}
use Rattle.ada_syntax.specs.declared.unit.Formal.{Formal}
use Rattle.ada_syntax.specs.declared.unit.FormalKind.{FormalKind}
use Rattle.ada_syntax.specs.declared.unit.FormalKind.TheVariants as formal
use Rattle.expression_parser.specs.declared.symbol.Symbol.{Symbol}
use Rattle.expression_parser.specs.declared.symbol.Symbol.TheVariants as symbol
use Rattle.expression_parser.specs.declared.extent.Extent.{Extent}
use Rattle.expression_parser.specs.declared.extent.Extent.TheVariants.{Generics}
use Rattle.expression_parser.specs.Symbols.{symbol_of, Is, identifier_of}
use Rattle.expression_parser.specs.Extents.{opens}
use Rattle.expression_parser.specs.Reading.{Tokens, Reader, Got, Refuse, Leave, Look, got, ◌>>=◌, turned, on_token, expect, skip}
use Rattle.expression_parser.specs.Depth.{at_name}
use Rattle.expression_parser.specs.Expressions.{IsName}
use Rattle.expression_parser.proofs.Agree.{Local, LocalTurn, got_local, on_local, bind_local, expect_local, skip_local, repeat_local}
use Rattle.expression_parser.proofs.ExpressionLocal.{then_got, then_closed}
use Rattle.expression_parser.proofs.Yields.{Yields, YieldsTurn, bind_yields, turned_yields, Takes, taken, expect_yields, skip_yields, repeat_yields}
use Rattle.expression_parser.proofs.Comes.{ends_at, got_bind, got_then, got_expect, got_skip, got_closed, on_symbol, Comes, comes_leave, comes_look}
use Rattle.expression_parser.proofs.ExpressionLengths.{name_shorter}
use Rattle.expression_parser.proofs.ExpressionComplete.{name_first}
use Rattle.declaration_parser.specs.Specifications.{IsSpecification}
use Rattle.declaration_parser.specs.DeclarationReading.{specification_by}
use Rattle.declaration_parser.specs.Formals.{IsFormalMode, no_formal_mode, formal_in, formed, IsFormal, a_discrete_type, an_integer_type, a_formal_object, a_formal_subprogram, AreFormals, no_formals, more_formals}
use Rattle.declaration_parser.specs.FormalReading as read
use Rattle.declaration_parser.proofs.ExpressionParts.{gated_local, gated_yields, gated_open, at_name_local, at_name_sound, at_name_complete}
use Rattle.declaration_parser.proofs.DeclarationLocal.{specification_local}
use Rattle.declaration_parser.proofs.DeclarationSound.{specification_sound}
use Rattle.declaration_parser.proofs.DeclarationComplete.{specification_shorter, specification_complete}

-- local
mode_turn_local : (found : Symbol) (t : Token) → LocalTurn (read.formal_mode_turn found t)
mode_turn_local symbol.In t = got_local mode.In
mode_turn_local _ t = tt

mode_local : Local read.formal_mode_by
mode_local = on_local (Leave mode.Default) read.formal_mode_turn mode_turn_local

type_turn_local : (i : Identifier) (found : Symbol) (t : Token) → LocalTurn (read.formal_type_turn i found t)
type_turn_local i symbol.LeftParenthesis t = skip_local symbol.Box (skip symbol.RightParenthesis (skip symbol.Semicolon (got (formal.DiscreteType i))))
    (skip_local symbol.RightParenthesis (skip symbol.Semicolon (got (formal.DiscreteType i))) (skip_local symbol.Semicolon (got (formal.DiscreteType i)) (got_local (formal.DiscreteType i))))
type_turn_local i symbol.Range t = skip_local symbol.Box (skip symbol.Semicolon (got (formal.IntegerType i))) (skip_local symbol.Semicolon (got (formal.IntegerType i)) (got_local (formal.IntegerType i)))
type_turn_local i _ t = tt

type_local : (m : ℕ) → Local (read.formal_type_by m)
type_local m = bind_local (expect symbol.Identifier) (λ u. skip symbol.Is (read.formal_type_rest (identifier_of u))) (expect_local symbol.Identifier)
    (λ u. skip_local symbol.Is (read.formal_type_rest (identifier_of u)) (on_local Refuse (read.formal_type_turn (identifier_of u)) (type_turn_local (identifier_of u))))

module _ (x : Extent) (m : ℕ) where
  abbrev marked : Identifier → Mode → Reader FormalKind
  marked i k = at_name x m >>= λ n. skip symbol.Semicolon (got (formal.Object i k n))

  object_local : Local (read.formal_object_by x m)
  object_local = bind_local (expect symbol.Identifier) (λ t. skip symbol.Colon (read.formal_mode_by >>= λ k. marked (identifier_of t) k)) (expect_local symbol.Identifier)
      (λ t. skip_local symbol.Colon (read.formal_mode_by >>= λ k. marked (identifier_of t) k)
      (bind_local read.formal_mode_by (λ k. marked (identifier_of t) k) mode_local (λ k. then_closed (at_name x m) symbol.Semicolon (λ n. formal.Object (identifier_of t) k n) (at_name_local x m))))

  kind_turn_local : (found : Symbol) (t : Token) → LocalTurn (read.formal_kind_turn x m found t)
  kind_turn_local symbol.Type t = type_local m
  kind_turn_local symbol.Identifier t = object_local
  kind_turn_local symbol.With t = then_closed (specification_by x m) symbol.Semicolon (λ s. formal.Subprogram s) (specification_local x m)
  kind_turn_local _ t = tt

  kind_local : Local (read.formal_kind_by x m)
  kind_local = gated_local (opens x Generics) (on_token Refuse (read.formal_kind_turn x m)) (on_local Refuse (read.formal_kind_turn x m) kind_turn_local)

  formal_local : Local (read.formal_by x m)
  formal_local = on_local Refuse (λ found t. Look (read.formal_kind_by x m >>= λ k. got (formed t.pos k))) (λ found t. then_got (read.formal_kind_by x m) (λ k. formed t.pos k) kind_local)

  formals_turn_local : (b : Bool) (fs : List Formal) → LocalTurn (cond b (Look (read.formal_by x m >>= λ f. got (fs ++ f ∷ []))) (Leave fs))
  formals_turn_local true fs = then_got (read.formal_by x m) (λ f. fs ++ f ∷ []) formal_local
  formals_turn_local false fs = tt

  pub formals_local : Local (read.formals_by x m)
  formals_local = repeat_local (read.formals_turn x m) (λ found t fs. formals_turn_local (read.begins_formal found) fs) (suc m) []

-- sound
mode_step : (found : Symbol) (t : Token) (us : Tokens) → Is found t → YieldsTurn (λ k rest. IsFormalMode k (t ∷ us) rest) (read.formal_mode_turn found t) t us
mode_step symbol.In t us h = formal_in h
mode_step _ t us h = no_formal_mode

mode_sound : (ts : Tokens) → Yields (λ k rest. IsFormalMode k ts rest) (read.formal_mode_by ts)
mode_sound [] = no_formal_mode
mode_sound (t ∷ us) = turned_yields (λ k rest. IsFormalMode k (t ∷ us) rest) (read.formal_mode_turn (symbol_of t.lexeme) t) t us (mode_step (symbol_of t.lexeme) t us refl)

module _ (x : Extent) (o : opens x Generics ≡ true) where
  discrete_of : {t u v a b c d : Token} {us vs ws ys zs rest : Tokens} → Is symbol.Type t → Takes symbol.Identifier u us vs → Takes symbol.Is v vs (a ∷ ws) → Is symbol.LeftParenthesis a → Takes symbol.Box b ws ys → Takes symbol.RightParenthesis c ys zs → Takes symbol.Semicolon d zs rest
      → IsFormal x (formed t.pos (formal.DiscreteType (identifier_of u))) (t ∷ us) rest
  discrete_of h (taken i) (taken j) k (taken l) (taken p) (taken q) = a_discrete_type o h i j k l p q

  integer_of : {t u v a b c : Token} {us vs ws ys rest : Tokens} → Is symbol.Type t → Takes symbol.Identifier u us vs → Takes symbol.Is v vs (a ∷ ws) → Is symbol.Range a → Takes symbol.Box b ws ys → Takes symbol.Semicolon c ys rest
      → IsFormal x (formed t.pos (formal.IntegerType (identifier_of u))) (t ∷ us) rest
  integer_of h (taken i) (taken j) k (taken l) (taken p) = an_integer_type o h i j k l p

  object_of : {t s u v : Token} {k : Mode} {n : Name} {us ts vs ws ys rest : Tokens} → Takes symbol.Identifier s (t ∷ us) ts → Takes symbol.Colon u ts vs → IsFormalMode k vs ws → IsName x n ws ys → Takes symbol.Semicolon v ys rest
      → IsFormal x (formed t.pos (formal.Object (identifier_of s) k n)) (t ∷ us) rest
  object_of (taken i) (taken j) d e (taken q) = a_formal_object o i j d e q

  subprogram_of : {t u : Token} {s : Specification} {us vs rest : Tokens} → Is symbol.With t → IsSpecification x s us vs → Takes symbol.Semicolon u vs rest → IsFormal x (formed t.pos (formal.Subprogram s)) (t ∷ us) rest
  subprogram_of h d (taken i) = a_formal_subprogram o h d i

  -- formals whose first token is this one
  module _ (m : ℕ) (t : Token) (us : Tokens) where
    abbrev IsKind : FormalKind → Tokens → Type 0
    IsKind k rest = IsFormal x (formed t.pos k) (t ∷ us) rest

    type_step : Is symbol.Type t → (u v : Token) (vs : Tokens) (found : Symbol) (a : Token) (ws : Tokens) → Takes symbol.Identifier u us vs → Takes symbol.Is v vs (a ∷ ws) → Is found a → YieldsTurn IsKind (read.formal_type_turn (identifier_of u) found a) a ws
    type_step h u v vs symbol.LeftParenthesis a ws i j k =
        skip_yields IsKind symbol.Box (skip symbol.RightParenthesis (skip symbol.Semicolon (got (formal.DiscreteType (identifier_of u))))) ws
        (λ b ys l. skip_yields IsKind symbol.RightParenthesis (skip symbol.Semicolon (got (formal.DiscreteType (identifier_of u)))) ys
        (λ c zs p. skip_yields IsKind symbol.Semicolon (got (formal.DiscreteType (identifier_of u))) zs (λ d rest q. discrete_of h i j k l p q)))
    type_step h u v vs symbol.Range a ws i j k =
        skip_yields IsKind symbol.Box (skip symbol.Semicolon (got (formal.IntegerType (identifier_of u)))) ws
        (λ b ys l. skip_yields IsKind symbol.Semicolon (got (formal.IntegerType (identifier_of u))) ys (λ c rest p. integer_of h i j k l p))
    type_step h u v vs _ a ws i j k = tt

    type_rest_sound : Is symbol.Type t → (u v : Token) (vs ws : Tokens) → Takes symbol.Identifier u us vs → Takes symbol.Is v vs ws → Yields IsKind (read.formal_type_rest (identifier_of u) ws)
    type_rest_sound h u v vs [] i j = tt
    type_rest_sound h u v vs (a ∷ ws) i j = turned_yields IsKind (read.formal_type_turn (identifier_of u) (symbol_of a.lexeme) a) a ws (type_step h u v vs (symbol_of a.lexeme) a ws i j refl)

    kind_step : (found : Symbol) → Is found t → YieldsTurn IsKind (read.formal_kind_turn x m found t) t us
    kind_step symbol.Type h = bind_yields (λ u rest. Takes symbol.Identifier u us rest) IsKind _ (expect symbol.Identifier) us (expect_yields symbol.Identifier us)
        (λ u vs i. skip_yields IsKind symbol.Is (read.formal_type_rest (identifier_of u)) vs (λ v ws j. type_rest_sound h u v vs ws i j))
    kind_step symbol.Identifier h = bind_yields (λ s rest. Takes symbol.Identifier s (t ∷ us) rest) IsKind _ (expect symbol.Identifier) (t ∷ us) (expect_yields symbol.Identifier (t ∷ us))
        (λ s ts i. skip_yields IsKind symbol.Colon (read.formal_mode_by >>= λ k. marked x m (identifier_of s) k) ts
        (λ u vs j. bind_yields (λ k rest. IsFormalMode k vs rest) IsKind _ read.formal_mode_by vs (mode_sound vs)
        (λ k ws d. bind_yields (λ n rest. IsName x n ws rest) IsKind _ (at_name x m) ws (at_name_sound x m ws)
        (λ n ys e. skip_yields IsKind symbol.Semicolon (got (formal.Object (identifier_of s) k n)) ys (λ v rest q. object_of i j d e q)))))
    kind_step symbol.With h = bind_yields (λ s rest. IsSpecification x s us rest) IsKind _ (specification_by x m) us (specification_sound x m us)
        (λ s vs d. skip_yields IsKind symbol.Semicolon (got (formal.Subprogram s)) vs (λ u rest i. subprogram_of h d i))
    kind_step _ h = tt

module _ (x : Extent) (m : ℕ) where
  formal_sound : (ts : Tokens) → Yields (λ f rest. IsFormal x f ts rest) (read.formal_by x m ts)
  formal_sound [] = tt
  formal_sound (t ∷ us) = bind_yields (λ k rest. IsFormal x (formed t.pos k) (t ∷ us) rest) (λ f rest. IsFormal x f (t ∷ us) rest) (λ k. got (formed t.pos k)) (read.formal_kind_by x m) (t ∷ us)
      (gated_yields (λ k rest. IsFormal x (formed t.pos k) (t ∷ us) rest) (opens x Generics) (on_token Refuse (read.formal_kind_turn x m)) (t ∷ us)
      (λ o. turned_yields (λ k rest. IsFormal x (formed t.pos k) (t ∷ us) rest) (read.formal_kind_turn x m (symbol_of t.lexeme) t) t us (kind_step x o m t us (symbol_of t.lexeme) refl))) (λ k rest d. d)

  formals_step : (ts : Tokens) (b : Bool) (t : Token) (fs : List Formal) (us : Tokens) → AreFormals x fs ts (t ∷ us) → YieldsTurn (λ zs rest. AreFormals x zs ts rest) (cond b (Look (read.formal_by x m >>= λ f. got (fs ++ f ∷ []))) (Leave fs)) t us
  formals_step ts true t fs us l = bind_yields (λ f rest. IsFormal x f (t ∷ us) rest) (λ zs rest. AreFormals x zs ts rest) _ (read.formal_by x m) (t ∷ us) (formal_sound (t ∷ us)) (λ f rest e. more_formals l e)
  formals_step ts false t fs us l = l

  pub formals_sound : (ts : Tokens) → Yields (λ fs rest. AreFormals x fs ts rest) (read.formals_by x m ts)
  formals_sound ts = repeat_yields (λ zs rest. AreFormals x zs ts rest) (read.formals_turn x m) (λ found t fs us h l. formals_step ts (read.begins_formal found) t fs us l) (suc m) [] ts no_formals

-- lengths
mode_shorter : {k : Mode} {ts rest : Tokens} → IsFormalMode k ts rest → length rest ≤ length ts
mode_shorter no_formal_mode = omega arith
mode_shorter (formal_in i) = omega arith

module _ (x : Extent) where
  formal_shorter : {f : Formal} {ts rest : Tokens} → IsFormal x f ts rest → length rest < length ts
  formal_shorter (a_discrete_type o h i j k l p q) = omega arith
  formal_shorter (an_integer_type o h i j k l p) = omega arith
  formal_shorter (a_formal_object o i j d e q) = omega (arith, mode_shorter d, name_shorter x e)
  formal_shorter (a_formal_subprogram o h d i) = omega (arith, specification_shorter x d)

  pub formals_shorter : {fs : List Formal} {ts rest : Tokens} → AreFormals x fs ts rest → length rest ≤ length ts
  formals_shorter no_formals = omega arith
  formals_shorter (more_formals l d) = omega (arith, formals_shorter l, formal_shorter d)

  -- the first token of a formal
  record Forms (ts : Tokens) : Type 0 where
    pub t : Token
    pub us : Tokens
    pub here : ts ≡ t ∷ us
    pub first : read.begins_formal (symbol_of t.lexeme) ≡ true

  formal_first : {f : Formal} {ts rest : Tokens} → IsFormal x f ts rest → Forms ts
  formal_first (a_discrete_type {t = t} {u = u} {v = v} {a = a} {b = b} {c = c} {d = d} {rest = rest} o h i j k l p q) = record { t = t; us = u ∷ v ∷ a ∷ b ∷ c ∷ d ∷ rest; here = refl; first = ap read.begins_formal h }
  formal_first (an_integer_type {t = t} {u = u} {v = v} {a = a} {b = b} {c = c} {rest = rest} o h i j k l p) = record { t = t; us = u ∷ v ∷ a ∷ b ∷ c ∷ rest; here = refl; first = ap read.begins_formal h }
  formal_first (a_formal_object {t = t} {u = u} {ts = ts} o i j d e q) = record { t = t; us = u ∷ ts; here = refl; first = ap read.begins_formal i }
  formal_first (a_formal_subprogram {t = t} {ts = ts} o h d i) = record { t = t; us = ts; here = refl; first = ap read.begins_formal h }

  -- complete
  mode_complete : {k : Mode} {us vs : Tokens} → IsFormalMode k us vs → (t : Token) (ws : Tokens) → vs ≡ t ∷ ws → Is symbol.Identifier t → read.formal_mode_by us ≡ Got k vs
  mode_complete no_formal_mode t ws h i = ap read.formal_mode_by h ∙ (on_symbol (Leave mode.Default) read.formal_mode_turn symbol.Identifier t ws i ∙ ap (Got mode.Default) (sym h))
  mode_complete (formal_in {t = u} {rest = rest} j) t ws h i = on_symbol (Leave mode.Default) read.formal_mode_turn symbol.In u rest j

  module _ (m : ℕ) where
    forms : (s : Symbol) (t : Token) (us : Tokens) → opens x Generics ≡ true → Is s t → read.formal_kind_by x m (t ∷ us) ≡ turned (read.formal_kind_turn x m s t) t us
    forms s t us o i = gated_open (opens x Generics) (on_token Refuse (read.formal_kind_turn x m)) (t ∷ us) o ∙ on_symbol Refuse (read.formal_kind_turn x m) s t us i

    formal_complete : {f : Formal} {ts rest : Tokens} → IsFormal x f ts rest → length ts ≤ m → read.formal_by x m ts ≡ Got f rest
    formal_complete (a_discrete_type {t = t} {u = u} {v = v} {a = a} {b = b} {c = c} {d = d} {rest = rest} o h i j k l p q) n =
        let kind = formal.DiscreteType (identifier_of u) in
        got_then (λ z. formed t.pos z)
        (forms symbol.Type t (u ∷ v ∷ a ∷ b ∷ c ∷ d ∷ rest) o h
        ∙ got_bind (λ z. skip symbol.Is (read.formal_type_rest (identifier_of z))) (got_expect symbol.Identifier u (v ∷ a ∷ b ∷ c ∷ d ∷ rest) i)
        (got_skip symbol.Is (read.formal_type_rest (identifier_of u)) v (a ∷ b ∷ c ∷ d ∷ rest) j
        (on_symbol Refuse (read.formal_type_turn (identifier_of u)) symbol.LeftParenthesis a (b ∷ c ∷ d ∷ rest) k
        ∙ got_skip symbol.Box (skip symbol.RightParenthesis (skip symbol.Semicolon (got kind))) b (c ∷ d ∷ rest) l
        (got_skip symbol.RightParenthesis (skip symbol.Semicolon (got kind)) c (d ∷ rest) p (got_skip symbol.Semicolon (got kind) d rest q refl)))))
    formal_complete (an_integer_type {t = t} {u = u} {v = v} {a = a} {b = b} {c = c} {rest = rest} o h i j k l p) n =
        let kind = formal.IntegerType (identifier_of u) in
        got_then (λ z. formed t.pos z)
        (forms symbol.Type t (u ∷ v ∷ a ∷ b ∷ c ∷ rest) o h
        ∙ got_bind (λ z. skip symbol.Is (read.formal_type_rest (identifier_of z))) (got_expect symbol.Identifier u (v ∷ a ∷ b ∷ c ∷ rest) i)
        (got_skip symbol.Is (read.formal_type_rest (identifier_of u)) v (a ∷ b ∷ c ∷ rest) j
        (on_symbol Refuse (read.formal_type_turn (identifier_of u)) symbol.Range a (b ∷ c ∷ rest) k
        ∙ got_skip symbol.Box (skip symbol.Semicolon (got kind)) b (c ∷ rest) l (got_skip symbol.Semicolon (got kind) c rest p refl))))
    formal_complete (a_formal_object {t = t} {u = u} {v = v} {k = k} {ts = ts} {rest = rest} o i j d e q) n =
        let g = name_first x e in
        got_then (λ z. formed t.pos z)
        (forms symbol.Identifier t (u ∷ ts) o i
        ∙ got_bind (λ z. skip symbol.Colon (read.formal_mode_by >>= λ y. marked x m (identifier_of z) y)) (got_expect symbol.Identifier t (u ∷ ts) i)
        (got_skip symbol.Colon (read.formal_mode_by >>= λ y. marked x m (identifier_of t) y) u ts j
        (got_bind (λ y. marked x m (identifier_of t) y) (mode_complete d g.t g.us g.here g.first)
        (got_closed (λ z. formal.Object (identifier_of t) k z) symbol.Semicolon v (at_name_complete x m e (omega (arith, mode_shorter d)) (ends_at 0 symbol.Semicolon v rest q (omega arith))) q))))
    formal_complete (a_formal_subprogram {t = t} {u = u} {ts = ts} {rest = rest} o h d i) n =
        got_then (λ z. formed t.pos z)
        (forms symbol.With t ts o h ∙ got_closed (λ s. formal.Subprogram s) symbol.Semicolon u (specification_complete x m d (omega arith) (ends_at 0 symbol.Semicolon u rest i (omega arith))) i)

    formals_come : {fs : List Formal} {ts rest : Tokens} → AreFormals x fs ts rest → length ts ≤ m → Comes (read.formals_turn x m) (read.formals_by x m ts) fs rest
    formals_come (no_formals {ts = ts}) h = record { turns = suc m; room = omega arith; here = refl }
    formals_come (more_formals {f = last} {fs = fs} {ts = ts} {us = us} {rest = rest} l d) h =
        let f = formal_first d in
        comes_look (read.formals_turn x m) f.t f.us rest (read.formal_by x m >>= λ z. got (fs ++ z ∷ []))
        (subst (λ z. Comes (read.formals_turn x m) (read.formals_by x m ts) fs z) f.here (formals_come l h))
        (ap (λ b. cond b (Look (read.formal_by x m >>= λ z. got (fs ++ z ∷ []))) (Leave fs)) f.first)
        (subst (λ z. (read.formal_by x m >>= λ y. got (fs ++ y ∷ [])) z ≡ Got (fs ++ last ∷ []) rest) f.here (got_then (λ y. fs ++ y ∷ []) (formal_complete d (omega (arith, formals_shorter l)))))
        (subst (λ z. length rest < length z) f.here (formal_shorter d))

    -- before a token that begins none
    pub formals_complete : {fs : List Formal} {ts us : Tokens} {t : Token} → AreFormals x fs ts (t ∷ us) → read.begins_formal (symbol_of t.lexeme) ≡ false → length ts ≤ m → read.formals_by x m ts ≡ Got fs (t ∷ us)
    formals_complete {fs = fs} {t = t} d b h = comes_leave (read.formals_turn x m) (formals_come d h) (ap (λ z. cond z (Look (read.formal_by x m >>= λ y. got (fs ++ y ∷ []))) (Leave fs)) b)
