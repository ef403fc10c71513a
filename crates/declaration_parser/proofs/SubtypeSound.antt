-- What is read of initial values, ranges, subtypes and type definitions derives the tokens.
use Rattle.std.proofs.Common.{◌≡◌, ℕ, zero, suc, Bool, true, false, cond, List, [], ◌∷◌, refl}
use Rattle.ada_lexer.specs.declared.token.Token.{Token}
use Rattle.ada_syntax.specs.Tree.{Expr, named, Name}
use Rattle.ada_syntax.specs.declared.name.Identifier.{Identifier}
use Rattle.ada_syntax.specs.declared.declaration.DiscreteRange.{DiscreteRange}
use Rattle.ada_syntax.specs.declared.declaration.SubtypeIndication.{SubtypeIndication}
use Rattle.ada_syntax.specs.declared.declaration.Initial.{Initial}
use Rattle.ada_syntax.specs.declared.declaration.TypeDefinition.TheVariants as definition
use Rattle.ada_syntax.specs.declared.declaration.Component.{Component}
use Rattle.expression_parser.specs.declared.symbol.Symbol.{Symbol}
use Rattle.expression_parser.specs.declared.symbol.Symbol.TheVariants as symbol
use Rattle.expression_parser.specs.declared.extent.Extent.{Extent}
use Rattle.expression_parser.specs.declared.extent.Extent.TheVariants.{Types}
use Rattle.expression_parser.specs.Symbols.{symbol_of, Is}
use Rattle.expression_parser.specs.Extents.{opens}
use Rattle.expression_parser.specs.Reading.{Tokens, Reader, Refuse, Take, Look, got, ◌>>=◌, ended, on_token, skip}
use Rattle.expression_parser.specs.Depth.{at_name, at_expr, at_simple}
use Rattle.expression_parser.specs.Expressions.{primary, factor, term, signed, sums, expression, IsExpr, a_name, a_primary, a_factor, a_term, a_first_term, IsName}
use Rattle.declaration_parser.specs.Identifiers.{AreIdentifiers, identifiers_by}
use Rattle.declaration_parser.specs.Subtypes.{inside, IsInitial, a_value, an_aggregate, AreBounds, low_and_high, IsRange, a_mark, a_range, IsConstraint, no_constraint, a_constraint, IsIndication, an_indication, IsComponent, a_component, AreComponents, one_component, more_components, IsDefinition, an_integer, an_enumeration, an_array, a_record}
use Rattle.declaration_parser.specs.SubtypeReading as read
use Rattle.expression_parser.proofs.Yields.{Yields, YieldsTurn, bind_yields, turned_yields, provided_yields, Takes, taken, skip_yields, repeat_yields}
use Rattle.declaration_parser.proofs.ExpressionParts.{gated_yields, at_name_sound, at_simple_sound, at_expr_sound}
use Rattle.declaration_parser.proofs.IdentifierLaws.{identifiers_sound}

module _ (x : Extent) where
  -- the name that a sum is
  primary_name : {n : Name} {p : _} {ts rest : Tokens} → IsExpr x primary (named p n) ts rest → IsName x n ts rest
  primary_name (a_name o d) = d

  factor_name : {n : Name} {p : _} {ts rest : Tokens} → IsExpr x factor (named p n) ts rest → IsName x n ts rest
  factor_name (a_primary d) = primary_name d

  term_name : {n : Name} {p : _} {ts rest : Tokens} → IsExpr x term (named p n) ts rest → IsName x n ts rest
  term_name (a_factor d) = factor_name d

  signed_name : {n : Name} {p : _} {ts rest : Tokens} → IsExpr x signed (named p n) ts rest → IsName x n ts rest
  signed_name (a_term d) = term_name d

  sums_name : {n : Name} {p : _} {ts rest : Tokens} → IsExpr x sums (named p n) ts rest → IsName x n ts rest
  sums_name (a_first_term d) = signed_name d

  bounds_of : {a b : Expr} {t : Token} {ts us vs rest : Tokens} → IsExpr x sums a ts us → Takes symbol.DoubleDot t us vs → IsExpr x sums b vs rest → AreBounds x (record { low = a; high = b }) ts rest
  bounds_of d (taken i) e = low_and_high d i e

  component_of : {is : List Identifier} {s : SubtypeIndication} {t u : Token} {ts us vs ws rest : Tokens} → AreIdentifiers is ts us → Takes symbol.Colon t us vs → IsIndication x s vs ws → Takes symbol.Semicolon u ws rest
      → IsComponent x (record { names = is; indication = s }) ts rest
  component_of d (taken i) e (taken j) = a_component d i e j

  enumeration_of : {is : List Identifier} {t u : Token} {us vs rest : Tokens} → opens x Types ≡ true → Is symbol.LeftParenthesis t → AreIdentifiers is us vs → Takes symbol.RightParenthesis u vs rest → IsDefinition x (definition.Enumeration is) (t ∷ us) rest
  enumeration_of o i d (taken j) = an_enumeration o i d j

  array_of : {r : DiscreteRange} {s : SubtypeIndication} {t u v w : Token} {us vs ws ys zs rest : Tokens} → opens x Types ≡ true → Is symbol.Array t → Takes symbol.LeftParenthesis u us vs → IsRange x r vs ws → Takes symbol.RightParenthesis v ws ys
      → Takes symbol.Of w ys zs → IsIndication x s zs rest → IsDefinition x (definition.Array r s) (t ∷ us) rest
  array_of o i (taken j) d (taken k) (taken l) e = an_array o i j d k l e

  record_of : {cs : List Component} {t u v : Token} {us vs ws rest : Tokens} → opens x Types ≡ true → Is symbol.Record t → AreComponents x cs us vs → Takes symbol.End u vs ws → Takes symbol.Record v ws rest → IsDefinition x (definition.Record cs) (t ∷ us) rest
  record_of o i d (taken j) (taken k) = a_record o i d j k

  aggregate_of : {i : Initial} {t u v w : Token} {us vs ws rest : Tokens} → opens x Types ≡ true → Is symbol.LeftParenthesis t → Is symbol.Others u → Takes symbol.Arrow v us vs → IsInitial x i vs ws → Takes symbol.RightParenthesis w ws rest
      → IsInitial x (inside t.pos i) (t ∷ u ∷ us) rest
  aggregate_of o h k (taken p) d (taken q) = an_aggregate o h k p d q

  module _ (m : ℕ) where
    bounds_sound : (ts : Tokens) → Yields (λ b rest. AreBounds x b ts rest) (read.bounds_by x m ts)
    bounds_sound ts = bind_yields (λ e rest. IsExpr x sums e ts rest) (λ b rest. AreBounds x b ts rest) _ (at_simple x m) ts (at_simple_sound x m ts)
        (λ a us d. skip_yields (λ b rest. AreBounds x b ts rest) symbol.DoubleDot (at_simple x m >>= λ b. got (record { low = a; high = b })) us
        (λ t vs p. bind_yields (λ e rest. IsExpr x sums e vs rest) (λ b rest. AreBounds x b ts rest) _ (at_simple x m) vs (at_simple_sound x m vs) (λ b rest e. bounds_of d p e)))

    mark_step : (e : Expr) (ts : Tokens) (t : Token) (us : Tokens) → opens x Types ≡ true → IsExpr x sums e ts (t ∷ us) → YieldsTurn (λ r rest. IsRange x r ts rest) (read.mark_turn (read.name_alone e)) t us
    mark_step (named p n) ts t us o d = a_mark o (sums_name d)
    mark_step _ ts t us o d = tt

    mark_end : (e : Expr) (ts : Tokens) → opens x Types ≡ true → IsExpr x sums e ts [] → Yields (λ r rest. IsRange x r ts rest) (ended (read.mark_turn (read.name_alone e)))
    mark_end (named p n) ts o d = a_mark o (sums_name d)
    mark_end _ ts o d = tt

    range_step : (ts : Tokens) (a : Expr) → opens x Types ≡ true → (found : Symbol) (t : Token) (us : Tokens) → Is found t → IsExpr x sums a ts (t ∷ us) → YieldsTurn (λ r rest. IsRange x r ts rest) (read.range_turn x m a found t) t us
    range_step ts a o symbol.DoubleDot t us h d = bind_yields (λ e rest. IsExpr x sums e us rest) (λ r rest. IsRange x r ts rest) _ (at_simple x m) us (at_simple_sound x m us) (λ b rest e. a_range o (low_and_high d h e))
    range_step ts a o _ t us h d = mark_step a ts t us o d

    range_rest_sound : (ts mid : Tokens) (a : Expr) → opens x Types ≡ true → IsExpr x sums a ts mid → Yields (λ r rest. IsRange x r ts rest) (read.range_rest x m a mid)
    range_rest_sound ts [] a o d = mark_end a ts o d
    range_rest_sound ts (t ∷ us) a o d = turned_yields (λ r rest. IsRange x r ts rest) (read.range_turn x m a (symbol_of t.lexeme) t) t us (range_step ts a o (symbol_of t.lexeme) t us refl d)

    pub range_sound : (ts : Tokens) → Yields (λ r rest. IsRange x r ts rest) (read.range_by x m ts)
    range_sound ts = gated_yields (λ r rest. IsRange x r ts rest) (opens x Types) (at_simple x m >>= read.range_rest x m) ts
        (λ o. bind_yields (λ e rest. IsExpr x sums e ts rest) (λ r rest. IsRange x r ts rest) _ (at_simple x m) ts (at_simple_sound x m ts) (λ a mid d. range_rest_sound ts mid a o d))

    constraint_step : (found : Symbol) (t : Token) (us : Tokens) → Is found t → YieldsTurn (λ c rest. IsConstraint x c (t ∷ us) rest) (read.constraint_turn x m found t) t us
    constraint_step symbol.Range t us h = provided_yields (λ c rest. IsConstraint x c (t ∷ us) rest) (opens x Types) _ t us
        (λ o. bind_yields (λ b rest. AreBounds x b us rest) (λ c rest. IsConstraint x c (t ∷ us) rest) _ (read.bounds_by x m) us (bounds_sound us) (λ b rest d. a_constraint o h d))
    constraint_step _ t us h = no_constraint

    constraint_sound : (ts : Tokens) → Yields (λ c rest. IsConstraint x c ts rest) (read.constraint_by x m ts)
    constraint_sound [] = no_constraint
    constraint_sound (t ∷ us) = turned_yields (λ c rest. IsConstraint x c (t ∷ us) rest) (read.constraint_turn x m (symbol_of t.lexeme) t) t us (constraint_step (symbol_of t.lexeme) t us refl)

    pub indication_sound : (ts : Tokens) → Yields (λ s rest. IsIndication x s ts rest) (read.indication_by x m ts)
    indication_sound ts = bind_yields (λ n rest. IsName x n ts rest) (λ s rest. IsIndication x s ts rest) _ (at_name x m) ts (at_name_sound x m ts)
        (λ n mid d. bind_yields (λ c rest. IsConstraint x c mid rest) (λ s rest. IsIndication x s ts rest) _ (read.constraint_by x m) mid (constraint_sound mid) (λ c rest e. an_indication d e))

    component_sound : (ts : Tokens) → Yields (λ c rest. IsComponent x c ts rest) (read.component_by x m ts)
    component_sound ts = bind_yields (λ is rest. AreIdentifiers is ts rest) (λ c rest. IsComponent x c ts rest) _ (identifiers_by m) ts (identifiers_sound m ts)
        (λ is us d. skip_yields (λ c rest. IsComponent x c ts rest) symbol.Colon (read.indication_by x m >>= λ s. skip symbol.Semicolon (got (record { names = is; indication = s }))) us
        (λ t vs p. bind_yields (λ s rest. IsIndication x s vs rest) (λ c rest. IsComponent x c ts rest) _ (read.indication_by x m) vs (indication_sound vs)
        (λ s ws e. skip_yields (λ c rest. IsComponent x c ts rest) symbol.Semicolon (got (record { names = is; indication = s })) ws (λ u rest q. component_of d p e q))))

    components_step : (ts : Tokens) (found : Symbol) (t : Token) (cs : List Component) (us : Tokens) → Is found t → AreComponents x cs ts (t ∷ us) → YieldsTurn (λ zs rest. AreComponents x zs ts rest) (read.components_turn x m found t cs) t us
    components_step ts symbol.Identifier t cs us h d = bind_yields (λ c rest. IsComponent x c (t ∷ us) rest) (λ zs rest. AreComponents x zs ts rest) _ (read.component_by x m) (t ∷ us) (component_sound (t ∷ us)) (λ c rest p. more_components d p)
    components_step ts _ t cs us h d = d

    components_sound : (ts : Tokens) → Yields (λ cs rest. AreComponents x cs ts rest) (read.components_by x m ts)
    components_sound ts = bind_yields (λ c rest. IsComponent x c ts rest) (λ zs rest. AreComponents x zs ts rest) _ (read.component_by x m) ts (component_sound ts)
        (λ c mid p. repeat_yields (λ zs rest. AreComponents x zs ts rest) (read.components_turn x m) (components_step ts) (suc m) (c ∷ []) mid (one_component p))

    definition_step : (found : Symbol) (t : Token) (us : Tokens) → opens x Types ≡ true → Is found t → YieldsTurn (λ d rest. IsDefinition x d (t ∷ us) rest) (read.definition_turn x m found t) t us
    definition_step symbol.Range t us o h = bind_yields (λ b rest. AreBounds x b us rest) (λ d rest. IsDefinition x d (t ∷ us) rest) _ (read.bounds_by x m) us (bounds_sound us) (λ b rest d. an_integer o h d)
    definition_step symbol.LeftParenthesis t us o h = bind_yields (λ is rest. AreIdentifiers is us rest) (λ d rest. IsDefinition x d (t ∷ us) rest) _ (identifiers_by m) us (identifiers_sound m us)
        (λ is mid d. skip_yields (λ z rest. IsDefinition x z (t ∷ us) rest) symbol.RightParenthesis (got (definition.Enumeration is)) mid (λ u rest q. enumeration_of o h d q))
    definition_step symbol.Array t us o h = skip_yields (λ d rest. IsDefinition x d (t ∷ us) rest) symbol.LeftParenthesis (read.range_by x m >>= λ r. skip symbol.RightParenthesis (skip symbol.Of (read.indication_by x m >>= λ s. got (definition.Array r s)))) us
        (λ u vs j. bind_yields (λ r rest. IsRange x r vs rest) (λ d rest. IsDefinition x d (t ∷ us) rest) _ (read.range_by x m) vs (range_sound vs)
        (λ r ws d. skip_yields (λ z rest. IsDefinition x z (t ∷ us) rest) symbol.RightParenthesis (skip symbol.Of (read.indication_by x m >>= λ s. got (definition.Array r s))) ws
        (λ v ys k. skip_yields (λ z rest. IsDefinition x z (t ∷ us) rest) symbol.Of (read.indication_by x m >>= λ s. got (definition.Array r s)) ys
        (λ w zs l. bind_yields (λ s rest. IsIndication x s zs rest) (λ z rest. IsDefinition x z (t ∷ us) rest) _ (read.indication_by x m) zs (indication_sound zs) (λ s rest e. array_of o h j d k l e)))))
    definition_step symbol.Record t us o h = bind_yields (λ cs rest. AreComponents x cs us rest) (λ d rest. IsDefinition x d (t ∷ us) rest) _ (read.components_by x m) us (components_sound us)
        (λ cs vs d. skip_yields (λ z rest. IsDefinition x z (t ∷ us) rest) symbol.End (skip symbol.Record (got (definition.Record cs))) vs
        (λ u ws j. skip_yields (λ z rest. IsDefinition x z (t ∷ us) rest) symbol.Record (got (definition.Record cs)) ws (λ v rest k. record_of o h d j k)))
    definition_step _ t us o h = tt

    definition_token_sound : (ts : Tokens) → opens x Types ≡ true → Yields (λ d rest. IsDefinition x d ts rest) (on_token Refuse (read.definition_turn x m) ts)
    definition_token_sound [] o = tt
    definition_token_sound (t ∷ us) o = turned_yields (λ d rest. IsDefinition x d (t ∷ us) rest) (read.definition_turn x m (symbol_of t.lexeme) t) t us (definition_step (symbol_of t.lexeme) t us o refl)

    pub definition_sound : (ts : Tokens) → Yields (λ d rest. IsDefinition x d ts rest) (read.definition_by x m ts)
    definition_sound ts = gated_yields (λ d rest. IsDefinition x d ts rest) (opens x Types) (on_token Refuse (read.definition_turn x m)) ts (definition_token_sound ts)

    -- initial values
    value_sound : (ts : Tokens) → Yields (λ i rest. IsInitial x i ts rest) (read.value_by x m ts)
    value_sound ts = bind_yields (λ e rest. IsExpr x expression e ts rest) (λ i rest. IsInitial x i ts rest) _ (at_expr x m) ts (at_expr_sound x m ts) (λ e rest d. a_value d)

    module _ (inner : Reader Initial) (inner_sound : (ts : Tokens) → Yields (λ i rest. IsInitial x i ts rest) (inner ts)) where
      inside_step : (t : Token) → opens x Types ≡ true → Is symbol.LeftParenthesis t → (found : Symbol) (u : Token) (us : Tokens) → Is found u → YieldsTurn (λ i rest. IsInitial x i (t ∷ u ∷ us) rest) (read.inside_turn x m inner t found u) u us
      inside_step t o h symbol.Others u us k = skip_yields (λ i rest. IsInitial x i (t ∷ u ∷ us) rest) symbol.Arrow (inner >>= λ i. skip symbol.RightParenthesis (got (inside t.pos i))) us
          (λ v vs p. bind_yields (λ i rest. IsInitial x i vs rest) (λ i rest. IsInitial x i (t ∷ u ∷ us) rest) _ inner vs (inner_sound vs)
          (λ i ws d. skip_yields (λ z rest. IsInitial x z (t ∷ u ∷ us) rest) symbol.RightParenthesis (got (inside t.pos i)) ws (λ w rest q. aggregate_of o h k p d q)))
      inside_step t o h _ u us k = value_sound (t ∷ u ∷ us)

      inside_rest_sound : (t : Token) (us : Tokens) → opens x Types ≡ true → Is symbol.LeftParenthesis t → Yields (λ i rest. IsInitial x i (t ∷ us) rest) (on_token Refuse (read.inside_turn x m inner t) us)
      inside_rest_sound t [] o h = tt
      inside_rest_sound t (u ∷ us) o h = turned_yields (λ i rest. IsInitial x i (t ∷ u ∷ us) rest) (read.inside_turn x m inner t (symbol_of u.lexeme) u) u us (inside_step t o h (symbol_of u.lexeme) u us refl)

      aggregate_step : (t : Token) (us : Tokens) → Is symbol.LeftParenthesis t → (b : Bool) → opens x Types ≡ b → YieldsTurn (λ i rest. IsInitial x i (t ∷ us) rest) (cond b (Take (on_token Refuse (read.inside_turn x m inner t))) (Look (read.value_by x m))) t us
      aggregate_step t us h true o = inside_rest_sound t us o h
      aggregate_step t us h false o = value_sound (t ∷ us)

      initial_step : (found : Symbol) (t : Token) (us : Tokens) → Is found t → YieldsTurn (λ i rest. IsInitial x i (t ∷ us) rest) (read.initial_turn x m inner found t) t us
      initial_step symbol.LeftParenthesis t us h = aggregate_step t us h (opens x Types) refl
      initial_step _ t us h = value_sound (t ∷ us)

      initial_with_sound : (ts : Tokens) → Yields (λ i rest. IsInitial x i ts rest) (read.initial_with x m inner ts)
      initial_with_sound [] = tt
      initial_with_sound (t ∷ us) = turned_yields (λ i rest. IsInitial x i (t ∷ us) rest) (read.initial_turn x m inner (symbol_of t.lexeme) t) t us (initial_step (symbol_of t.lexeme) t us refl)

  initial_sound : (m : ℕ) (ts : Tokens) → Yields (λ i rest. IsInitial x i ts rest) (read.initial x m ts)
  initial_sound zero ts = tt
  initial_sound (suc m) ts = initial_with_sound m (read.initial x m) (initial_sound m) ts

  pub initial_by_sound : (m : ℕ) (ts : Tokens) → Yields (λ i rest. IsInitial x i ts rest) (read.initial_by x m ts)
  initial_by_sound m ts = initial_with_sound m (read.initial x m) (initial_sound m) ts
