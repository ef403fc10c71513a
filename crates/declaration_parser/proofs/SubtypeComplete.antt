-- What derives an initial value, a range, a subtype or a type definition is read so.
use Rattle.std.proofs.Common.{◌≡◌, ℕ, zero, suc, ◌<◌, ◌≤◌, Bool, true, false, cond, List, [], ◌∷◌, ◌++◌, length, Option, Some, None, refl, ap, sym, ◌∙◌, subst, arith}
use Rattle.ada_lexer.specs.declared.token.Token.{Token}
use Rattle.ada_syntax.specs.Tree.{Expr, named, Name, name_pos}
use Rattle.ada_syntax.specs.declared.declaration.Bounds.{Bounds}
use Rattle.ada_syntax.specs.declared.declaration.DiscreteRange.{DiscreteRange}
use Rattle.ada_syntax.specs.declared.declaration.DiscreteRange.TheVariants as range
use Rattle.ada_syntax.specs.declared.declaration.SubtypeIndication.{SubtypeIndication}
use Rattle.ada_syntax.specs.declared.declaration.Initial.{Initial}
use Rattle.ada_syntax.specs.declared.declaration.TypeDefinition.{TypeDefinition}
use Rattle.ada_syntax.specs.declared.declaration.TypeDefinition.TheVariants as definition
use Rattle.ada_syntax.specs.declared.declaration.Component.{Component}
use Rattle.expression_parser.specs.declared.symbol.Symbol.{Symbol}
use Rattle.expression_parser.specs.declared.symbol.Symbol.TheVariants as symbol
use Rattle.expression_parser.specs.declared.extent.Extent.{Extent}
use Rattle.expression_parser.specs.declared.extent.Extent.TheVariants.{Types}
use Rattle.expression_parser.specs.Symbols.{symbol_of, Is, same}
use Rattle.expression_parser.specs.Extents.{opens}
use Rattle.expression_parser.specs.Reading.{Tokens, Reading, Reader, Got, Refuse, Leave, Take, Look, got, goes_on, ◌>>=◌, turned, on_token, provided, skip, repeat}
use Rattle.expression_parser.specs.Shows.{after}
use Rattle.expression_parser.specs.Depth.{at_simple}
use Rattle.expression_parser.specs.Expressions.{sums, expression, IsExpr, a_name, a_primary, a_factor, a_term, a_first_term, IsName}
use Rattle.declaration_parser.specs.Subtypes.{plain, inside, IsInitial, a_value, an_aggregate, AreBounds, low_and_high, IsRange, a_mark, a_range, IsConstraint, no_constraint, a_constraint, IsIndication, an_indication, IsComponent, a_component, AreComponents, one_component, more_components, IsDefinition, an_integer, an_enumeration, an_array, a_record}
use Rattle.declaration_parser.specs.SubtypeReading as read
use Rattle.expression_parser.proofs.Comes.{Ends, ends_less, ends_at, got_bind, got_then, got_skip, got_closed, on_symbol, Comes, comes_leave, comes_look}
use Rattle.expression_parser.proofs.ExpressionLengths.{shorter, name_shorter}
use Rattle.expression_parser.proofs.NameCode.{after_none}
use Rattle.declaration_parser.proofs.ExpressionParts.{gated_open, types_open_objects, at_name_complete, at_simple_complete, at_expr_complete}
use Rattle.declaration_parser.proofs.SubtypeLocal.{parenthesis_alone, enclosed_others}
use Rattle.declaration_parser.proofs.IdentifierLaws.{identifiers_shorter, identifiers_first, IsIdentified, identifiers_complete}

-- a known token is no other
pub not_next : (s r : Symbol) (t : Token) (us : Tokens) → Is s t → same s r ≡ false → after r (t ∷ us) ≡ None
not_next s r t us i h = ap (λ z. cond (same z r) (Some us) None) i ∙ ap (λ b. cond b (Some us) None) h

module _ (x : Extent) where
  -- lengths
  pub bounds_shorter : {b : Bounds} {ts rest : Tokens} → AreBounds x b ts rest → length rest < length ts
  bounds_shorter (low_and_high d i e) = omega (arith, shorter x d, shorter x e)

  pub range_shorter : {r : DiscreteRange} {ts rest : Tokens} → IsRange x r ts rest → length rest < length ts
  range_shorter (a_mark o d) = name_shorter x d
  range_shorter (a_range o d) = bounds_shorter d

  constraint_shorter : {c : Option Bounds} {ts rest : Tokens} → IsConstraint x c ts rest → length rest ≤ length ts
  constraint_shorter no_constraint = omega arith
  constraint_shorter (a_constraint o i d) = omega (arith, bounds_shorter d)

  pub indication_shorter : {s : SubtypeIndication} {ts rest : Tokens} → IsIndication x s ts rest → length rest < length ts
  indication_shorter (an_indication d e) = omega (arith, name_shorter x d, constraint_shorter e)

  component_shorter : {c : Component} {ts rest : Tokens} → IsComponent x c ts rest → length rest < length ts
  component_shorter (a_component d i e j) = omega (arith, identifiers_shorter d, indication_shorter e)

  components_shorter : {cs : List Component} {ts rest : Tokens} → AreComponents x cs ts rest → length rest < length ts
  components_shorter (one_component d) = component_shorter d
  components_shorter (more_components l d) = omega (arith, components_shorter l, component_shorter d)

  pub definition_shorter : {d : TypeDefinition} {ts rest : Tokens} → IsDefinition x d ts rest → length rest < length ts
  definition_shorter (an_integer o i d) = omega (arith, bounds_shorter d)
  definition_shorter (an_enumeration o i d j) = omega (arith, identifiers_shorter d)
  definition_shorter (an_array o i j d k l e) = omega (arith, range_shorter d, indication_shorter e)
  definition_shorter (a_record o i d j k) = omega (arith, components_shorter d)

  pub initial_shorter : {i : Initial} {ts rest : Tokens} → IsInitial x i ts rest → length rest < length ts
  initial_shorter (a_value d) = shorter x d
  initial_shorter (an_aggregate o i j k d l) = omega (arith, initial_shorter d)

  -- complete
  module _ (m : ℕ) where
    pub bounds_complete : {b : Bounds} {ts rest : Tokens} → AreBounds x b ts rest → length ts ≤ m → Ends 2 rest → read.bounds_by x m ts ≡ Got b rest
    bounds_complete (low_and_high {t = t} {a = a} {b = b} {us = us} d i e) h ends =
        got_bind (λ z. skip symbol.DoubleDot (at_simple x m >>= λ y. got (record { low = z; high = y }))) (at_simple_complete x m d h (ends_at 2 symbol.DoubleDot t us i (omega arith)))
        (got_skip symbol.DoubleDot (at_simple x m >>= λ y. got (record { low = a; high = y })) t us i (got_then (λ y. record { low = a; high = y }) (at_simple_complete x m e (omega (arith, shorter x d)) ends)))

    mark_leaves : (p : _) (n : Name) (s : Symbol) (t : Token) → same s symbol.DoubleDot ≡ false → read.range_turn x m (named p n) s t ≡ Leave (range.Mark n)
    mark_leaves p n symbol.DoubleDot t h = cc
    mark_leaves p n _ t h = refl

    mark_rest : (p : _) (n : Name) (rest : Tokens) → after symbol.DoubleDot rest ≡ None → read.range_rest x m (named p n) rest ≡ Got (range.Mark n) rest
    mark_rest p n [] a = refl
    mark_rest p n (t ∷ us) a = ap (λ z. turned z t us) (mark_leaves p n (symbol_of t.lexeme) t (after_none symbol.DoubleDot t us a).is_not)

    as_sums : {n : Name} {ts rest : Tokens} → opens x Types ≡ true → IsName x n ts rest → IsExpr x sums (named (name_pos n) n) ts rest
    as_sums o d = a_first_term (a_term (a_factor (a_primary (a_name (types_open_objects x o) d))))

    pub range_complete : {r : DiscreteRange} {ts rest : Tokens} → IsRange x r ts rest → length ts ≤ m → Ends 2 rest → after symbol.DoubleDot rest ≡ None → read.range_by x m ts ≡ Got r rest
    range_complete (a_mark {n = n} {ts = ts} {rest = rest} o d) h ends a =
        gated_open (opens x Types) (at_simple x m >>= read.range_rest x m) ts o
        ∙ got_bind (read.range_rest x m) (at_simple_complete x m (as_sums o d) h ends) (mark_rest (name_pos n) n rest a)
    range_complete (a_range {ts = ts} {rest = rest} o (low_and_high {t = t} {a = a} {b = b} {us = us} d i e)) h ends n =
        gated_open (opens x Types) (at_simple x m >>= read.range_rest x m) ts o
        ∙ got_bind (read.range_rest x m) (at_simple_complete x m d h (ends_at 2 symbol.DoubleDot t us i (omega arith)))
        (on_symbol (read.mark_turn (read.name_alone a)) (read.range_turn x m a) symbol.DoubleDot t us i
        ∙ got_then (λ y. range.Bounds (record { low = a; high = y })) (at_simple_complete x m e (omega (arith, shorter x d)) ends))

    constraint_leaves : (s : Symbol) (t : Token) → same s symbol.Range ≡ false → read.constraint_turn x m s t ≡ Leave None
    constraint_leaves symbol.Range t h = cc
    constraint_leaves _ t h = refl

    without_constraint : (rest : Tokens) → after symbol.Range rest ≡ None → read.constraint_by x m rest ≡ Got None rest
    without_constraint [] a = refl
    without_constraint (t ∷ us) a = ap (λ z. turned z t us) (constraint_leaves (symbol_of t.lexeme) t (after_none symbol.Range t us a).is_not)

    constraint_complete : {c : Option Bounds} {ts rest : Tokens} → IsConstraint x c ts rest → length ts ≤ m → Ends 2 rest → after symbol.Range rest ≡ None → read.constraint_by x m ts ≡ Got c rest
    constraint_complete (no_constraint {ts = ts}) h ends a = without_constraint ts a
    constraint_complete (a_constraint {t = t} {b = b} {ts = ts} o i d) h ends a =
        on_symbol (Leave None) (read.constraint_turn x m) symbol.Range t ts i
        ∙ (ap (λ z. turned (provided z (Take (read.bounds_by x m >>= λ y. got (Some y)))) t ts) o ∙ got_then (λ y. Some y) (bounds_complete d (omega arith) ends))

    -- a mark ends before its constraint, or before what follows
    mark_ends : {c : Option Bounds} {ts rest : Tokens} → IsConstraint x c ts rest → Ends 2 rest → Ends 0 ts
    mark_ends no_constraint ends = ends_less 0 (omega arith) ends
    mark_ends (a_constraint {t = t} {ts = ts} o i d) ends = ends_at 0 symbol.Range t ts i (omega arith)

    pub indication_complete : {s : SubtypeIndication} {ts rest : Tokens} → IsIndication x s ts rest → length ts ≤ m → Ends 2 rest → after symbol.Range rest ≡ None → read.indication_by x m ts ≡ Got s rest
    indication_complete (an_indication {n = n} d e) h ends a =
        got_bind (λ z. read.constraint_by x m >>= λ c. got (record { mark = z; constraint = c })) (at_name_complete x m d h (mark_ends e ends))
        (got_then (λ c. record { mark = n; constraint = c }) (constraint_complete e (omega (arith, name_shorter x d)) ends a))

    -- before a semicolon
    pub indication_closes : {s : SubtypeIndication} {ts us : Tokens} {t : Token} → IsIndication x s ts (t ∷ us) → Is symbol.Semicolon t → length ts ≤ m → read.indication_by x m ts ≡ Got s (t ∷ us)
    indication_closes {ts = ts} {us = us} {t = t} d i h = indication_complete d h (ends_at 2 symbol.Semicolon t us i (omega arith)) (not_next symbol.Semicolon symbol.Range t us i refl)

    component_complete : {c : Component} {ts rest : Tokens} → IsComponent x c ts rest → length ts ≤ m → read.component_by x m ts ≡ Got c rest
    component_complete (a_component {t = t} {u = u} {is = is} {us = us} d i e j) h =
        got_bind (λ zs. skip symbol.Colon (read.indication_by x m >>= λ s. skip symbol.Semicolon (got (record { names = zs; indication = s })))) (identifiers_complete symbol.Colon d i (λ zs. refl) m h)
        (got_skip symbol.Colon (read.indication_by x m >>= λ s. skip symbol.Semicolon (got (record { names = is; indication = s }))) t us i
        (got_closed (λ s. record { names = is; indication = s }) symbol.Semicolon u (indication_closes e j (omega (arith, identifiers_shorter d))) j))

    component_first : {c : Component} {ts rest : Tokens} → IsComponent x c ts rest → IsIdentified ts
    component_first (a_component d i e j) = identifiers_first d

    components_come : {cs : List Component} {ts rest : Tokens} → AreComponents x cs ts rest → length ts ≤ m → Comes (read.components_turn x m) (read.components_by x m ts) cs rest
    components_come (one_component d) h = record {
      turns = suc m;
      room = omega (arith, component_shorter d);
      here = got_bind (λ c. repeat (read.components_turn x m) (suc m) (c ∷ [])) (component_complete d h) refl;
    }
    components_come (more_components {c = last} {cs = cs} {ts = ts} {us = us} {rest = rest} l d) h =
        let f = component_first d in
        comes_look (read.components_turn x m) f.t f.us rest (read.component_by x m >>= λ c. got (cs ++ c ∷ []))
        (subst (λ z. Comes (read.components_turn x m) (read.components_by x m ts) cs z) f.here (components_come l h))
        (ap (λ z. read.components_turn x m z f.t cs) f.first)
        (subst (λ z. (read.component_by x m >>= λ c. got (cs ++ c ∷ [])) z ≡ Got (cs ++ last ∷ []) rest) f.here (got_then (λ c. cs ++ c ∷ []) (component_complete d (omega (arith, components_shorter l)))))
        (subst (λ z. length rest < length z) f.here (component_shorter d))

    array_complete : {r : DiscreteRange} {s : SubtypeIndication} {v w : Token} {ts us rest : Tokens} (u : Token) → Is symbol.LeftParenthesis u → IsRange x r ts (v ∷ w ∷ us) → Is symbol.RightParenthesis v → Is symbol.Of w → IsIndication x s us rest
        → length (u ∷ ts) ≤ m → Ends 2 rest → after symbol.Range rest ≡ None → read.array_by x m (u ∷ ts) ≡ Got (definition.Array r s) rest
    array_complete {r} {s} {v} {w} {ts} {us} {rest} u j d k l e h ends a =
        let element : DiscreteRange → Reader TypeDefinition = λ z. read.indication_by x m >>= λ y. got (definition.Array z y) in
        got_skip symbol.LeftParenthesis (read.range_by x m >>= λ z. skip symbol.RightParenthesis (skip symbol.Of (element z))) u ts j
        (got_bind (λ z. skip symbol.RightParenthesis (skip symbol.Of (element z)))
        (range_complete d (omega arith) (ends_at 2 symbol.RightParenthesis v (w ∷ us) k (omega arith)) (not_next symbol.RightParenthesis symbol.DoubleDot v (w ∷ us) k refl))
        (got_skip symbol.RightParenthesis (skip symbol.Of (element r)) v (w ∷ us) k
        (got_skip symbol.Of (element r) w us l (got_then (λ y. definition.Array r y) (indication_complete e (omega (arith, range_shorter d)) ends a)))))

    record_complete : {cs : List Component} {u v : Token} {ts rest : Tokens} → AreComponents x cs ts (u ∷ v ∷ rest) → Is symbol.End u → Is symbol.Record v → length ts ≤ m → read.record_by x m ts ≡ Got (definition.Record cs) rest
    record_complete {cs} {u} {v} {ts} {rest} d j k h =
        got_bind (λ zs. skip symbol.End (skip symbol.Record (got (definition.Record zs)))) (comes_leave (read.components_turn x m) (components_come d h) (ap (λ z. read.components_turn x m z u cs) j))
        (got_skip symbol.End (skip symbol.Record (got (definition.Record cs))) u (v ∷ rest) j (got_skip symbol.Record (got (definition.Record cs)) v rest k refl))

    abbrev defines : Symbol → Token → Tokens → Reading TypeDefinition
    defines s t us = turned (read.definition_turn x m s t) t us

    defined : (s : Symbol) (t : Token) (us : Tokens) → opens x Types ≡ true → Is s t → read.definition_by x m (t ∷ us) ≡ defines s t us
    defined s t us o i = gated_open (opens x Types) (on_token Refuse (read.definition_turn x m)) (t ∷ us) o ∙ on_symbol Refuse (read.definition_turn x m) s t us i

    pub definition_complete : {d : TypeDefinition} {ts rest : Tokens} → IsDefinition x d ts rest → length ts ≤ m → Ends 2 rest → after symbol.Range rest ≡ None → read.definition_by x m ts ≡ Got d rest
    definition_complete (an_integer {t = t} {ts = ts} o i d) h ends a = defined symbol.Range t ts o i ∙ got_then (λ b. definition.Integer b) (bounds_complete d (omega arith) ends)
    definition_complete (an_enumeration {t = t} {u = u} {is = is} {ts = ts} {rest = rest} o i d j) h ends a =
        defined symbol.LeftParenthesis t ts o i ∙ got_closed (λ zs. definition.Enumeration zs) symbol.RightParenthesis u (identifiers_complete symbol.RightParenthesis d j (λ zs. refl) m (omega arith)) j
    definition_complete (an_array {t = t} {u = u} {ts = ts} o i j d k l e) h ends a = defined symbol.Array t (u ∷ ts) o i ∙ array_complete u j d k l e (omega arith) ends a
    definition_complete (a_record {t = t} {ts = ts} o i d j k) h ends a = defined symbol.Record t ts o i ∙ record_complete d j k (omega arith)

  -- initial values
  module _ (m : ℕ) where
    value_complete : {e : Expr} {ts rest : Tokens} → IsExpr x expression e ts rest → length ts ≤ m → Ends 4 rest → read.value_by x m ts ≡ Got (plain e) rest
    value_complete d h ends = got_then plain (at_expr_complete x m d h ends)

    module _ (inner : Reader Initial) where
      -- a value is read as an initial value
      second_reads : (t u : Token) (vs rest : Tokens) (i : Initial) (s : Symbol) → Is symbol.LeftParenthesis t → opens x Types ≡ true → Is s u → read.value_by x m (t ∷ u ∷ vs) ≡ Got i rest → turned (read.inside_turn x m inner t s u) u vs ≡ Got i rest
      second_reads t u vs rest i symbol.Others k o h g = let p = sym g ∙ ap (goes_on (λ e. got (plain e))) (enclosed_others x m t u vs k (types_open_objects x o) h) in cc
      second_reads t u vs rest i _ k o h g = g

      enclosed_reads : (t : Token) (us rest : Tokens) (i : Initial) → Is symbol.LeftParenthesis t → opens x Types ≡ true → read.value_by x m (t ∷ us) ≡ Got i rest → on_token Refuse (read.inside_turn x m inner t) us ≡ Got i rest
      enclosed_reads t [] rest i k o g = let p = sym g ∙ ap (goes_on (λ e. got (plain e))) (parenthesis_alone x m t k (types_open_objects x o)) in cc
      enclosed_reads t (u ∷ vs) rest i k o g = second_reads t u vs rest i (symbol_of u.lexeme) k o refl g

      first_reads : (t : Token) (us rest : Tokens) (i : Initial) → Is symbol.LeftParenthesis t → (b : Bool) → opens x Types ≡ b → read.value_by x m (t ∷ us) ≡ Got i rest
          → turned (cond b (Take (on_token Refuse (read.inside_turn x m inner t))) (Look (read.value_by x m))) t us ≡ Got i rest
      first_reads t us rest i k true o g = enclosed_reads t us rest i k o g
      first_reads t us rest i k false o g = g

      token_reads : (s : Symbol) (t : Token) (us rest : Tokens) (i : Initial) → Is s t → read.value_by x m (t ∷ us) ≡ Got i rest → turned (read.initial_turn x m inner s t) t us ≡ Got i rest
      token_reads symbol.LeftParenthesis t us rest i h g = first_reads t us rest i h (opens x Types) refl g
      token_reads _ t us rest i h g = g

      value_reads : (ts rest : Tokens) (i : Initial) → read.value_by x m ts ≡ Got i rest → read.initial_with x m inner ts ≡ Got i rest
      value_reads [] rest i g = g
      value_reads (t ∷ us) rest i g = token_reads (symbol_of t.lexeme) t us rest i refl g

      aggregate_reads : (t u v w : Token) (ts rest : Tokens) (i : Initial) → opens x Types ≡ true → Is symbol.LeftParenthesis t → Is symbol.Others u → Is symbol.Arrow v → inner ts ≡ Got i (w ∷ rest) → Is symbol.RightParenthesis w
          → read.initial_with x m inner (t ∷ u ∷ v ∷ ts) ≡ Got (inside t.pos i) rest
      aggregate_reads t u v w ts rest i o a b c g d =
          on_symbol Refuse (read.initial_turn x m inner) symbol.LeftParenthesis t (u ∷ v ∷ ts) a
          ∙ (ap (λ z. turned (cond z (Take (on_token Refuse (read.inside_turn x m inner t))) (Look (read.value_by x m))) t (u ∷ v ∷ ts)) o
          ∙ (on_symbol Refuse (read.inside_turn x m inner t) symbol.Others u (v ∷ ts) b
          ∙ got_skip symbol.Arrow (inner >>= λ z. skip symbol.RightParenthesis (got (inside t.pos z))) v ts c (got_closed (λ z. inside t.pos z) symbol.RightParenthesis w g d)))

  -- what stands in `( OTHERS => .. )` is one deeper
  inner_at : {i : Initial} (ts : Tokens) {rest : Tokens} → ((m : ℕ) → length ts ≤ m → Ends 4 rest → read.initial_by x m ts ≡ Got i rest) → (m : ℕ) → length ts < m → Ends 4 rest → read.initial x m ts ≡ Got i rest
  inner_at ts f zero h ends = absurd (omega arith)
  inner_at ts f (suc m) h ends = f m (omega arith) ends

  pub initial_complete : {i : Initial} {ts rest : Tokens} → IsInitial x i ts rest → (m : ℕ) → length ts ≤ m → Ends 4 rest → read.initial_by x m ts ≡ Got i rest
  initial_complete (a_value {e = e} {ts = ts} {rest = rest} d) m h ends = value_reads m (read.initial x m) ts rest (plain e) (value_complete m d h ends)
  initial_complete (an_aggregate {t = t} {u = u} {v = v} {w = w} {i = i} {ts = ts} {rest = rest} o a b c d q) m h ends =
      aggregate_reads m (read.initial x m) t u v w ts rest i o a b c (inner_at ts (initial_complete d) m (omega arith) (ends_at 4 symbol.RightParenthesis w rest q (omega arith))) q
