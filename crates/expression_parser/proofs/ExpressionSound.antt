-- What is read of a name or an expression derives the tokens.
use Rattle.std.proofs.Common.{◌≡◌, ℕ, zero, suc, Bool, true, false, List, [], ◌∷◌, Option, Some, None, refl, ap, subst}
use denote.Enum.Bare.{same_true}
use Rattle.ada_lexer.specs.declared.token.Token.{Token}
use Rattle.ada_syntax.specs.Tree.{Expr, named, parenthesized, logical, expr_pos, Name, simple, selected, attribute, applied, name_pos}
use Rattle.ada_syntax.specs.TreeView.{exprs_of}
use Rattle.ada_syntax.specs.declared.expr.UnaryOperator.{UnaryOperator}
use Rattle.ada_syntax.specs.declared.expr.BinaryOperator.{BinaryOperator}
use Rattle.ada_syntax.specs.declared.expr.RelationalOperator.{RelationalOperator}
use Rattle.ada_syntax.specs.declared.expr.LogicalOperator.{LogicalOperator}
use Rattle.ada_syntax.specs.declared.expr.LogicalOperator.TheVariants as operator
use Rattle.expression_parser.specs.declared.symbol.Symbol.{Symbol}
use Rattle.expression_parser.specs.declared.symbol.Symbol.TheVariants as symbol
use Rattle.expression_parser.specs.contracts.symbol.Symbol.{the_type}
use Rattle.expression_parser.specs.declared.extent.Extent.{Extent}
use Rattle.expression_parser.specs.declared.extent.Extent.TheVariants.{Objects, Decisions, ShortCircuit}
use Rattle.expression_parser.specs.Symbols.{symbol_of, Is, same, identifier_of, sign_of, multiplying, adding, relational_of, first_word}
use Rattle.expression_parser.specs.Extents.{opens}
use Rattle.expression_parser.specs.Reading.{Tokens, Reader, Refuse, got, on_token, expect, repeat}
use Rattle.expression_parser.specs.Expressions.{Level, primary, factor, term, signed, sums, related, expression, IsExpr, a_numeral, a_name, in_parentheses, a_primary, an_abs, a_not, a_factor, a_product, a_term, a_signed_term, a_first_term, a_sum, a_simple, a_relation, a_single, a_chain, IsChain, a_pair, a_longer, Joins, by_and, by_or, by_xor, by_and_then, by_or_else, IsName, an_identifier, a_selection, an_attribute, an_application, AreExprs, one_expr, more_exprs}
use Rattle.expression_parser.specs.ExpressionReading as read
use Rattle.expression_parser.proofs.Yields.{Yields, YieldsTurn, bind_yields, turned_yields, provided_yields, Takes, taken, expect_yields, skip_yields, repeat_yields, weaken}

-- an expression that follows these tokens derives them
abbrev pub ReadsExpr : Extent → Level → Reader Expr → Type 0
ReadsExpr x l r = (ts : Tokens) → Yields (λ e rest. IsExpr x l e ts rest) (r ts)

module _ (x : Extent) where
  selection : {n : Name} {t u : Token} {ts us rest : Tokens} → IsName x n ts (t ∷ us) → Is symbol.Dot t → Takes symbol.Identifier u us rest → IsName x (selected n (identifier_of u)) ts rest
  selection d h (taken i) = a_selection d h i

  attributed : {n : Name} {t u : Token} {ts us rest : Tokens} → opens x Objects ≡ true → IsName x n ts (t ∷ us) → Is symbol.Tick t → Takes symbol.Identifier u us rest → IsName x (attribute n (identifier_of u)) ts rest
  attributed o d h (taken i) = an_attribute o d h i

  application : {n : Name} {es : List Expr} {t u : Token} {ts us vs rest : Tokens} → IsName x n ts (t ∷ us) → Is symbol.LeftParenthesis t → AreExprs x es us vs → Takes symbol.RightParenthesis u vs rest → IsName x (applied n (exprs_of es)) ts rest
  application d h es (taken i) = an_application d h es i

  identified : {t : Token} {ts rest : Tokens} → Takes symbol.Identifier t ts rest → IsName x (simple (identifier_of t)) ts rest
  identified (taken i) = an_identifier i

  enclosed : {e : Expr} {t u : Token} {ts us rest : Tokens} → opens x Objects ≡ true → Is symbol.LeftParenthesis t → IsExpr x expression e ts us → Takes symbol.RightParenthesis u us rest → IsExpr x primary (parenthesized t.pos e) (t ∷ ts) rest
  enclosed o h d (taken i) = in_parentheses o h d i

  -- the place of a name is that of its first token
  pub first_of_name : {n : Name} {t : Token} {ts rest : Tokens} → IsName x n (t ∷ ts) rest → name_pos n ≡ t.pos
  first_of_name (an_identifier i) = refl
  first_of_name (a_selection d h i) = first_of_name d
  first_of_name (an_attribute o d h i) = first_of_name d
  first_of_name (an_application d h es i) = first_of_name d

  and_then : {t u : Token} {us rest : Tokens} → opens x Decisions ≡ true → opens x ShortCircuit ≡ true → Is symbol.And t → Takes symbol.Then u us rest → Joins x operator.AndThen (t ∷ us) rest
  and_then o p h (taken i) = by_and_then o p h i

  or_else : {t u : Token} {us rest : Tokens} → opens x Decisions ≡ true → opens x ShortCircuit ≡ true → Is symbol.Or t → Takes symbol.Else u us rest → Joins x operator.OrElse (t ∷ us) rest
  or_else o p h (taken i) = by_or_else o p h i

  -- the extents that an operator asks for
  abbrev AreOpen : LogicalOperator → Type 0
  AreOpen operator.And = opens x Decisions ≡ true
  AreOpen operator.Or = opens x Decisions ≡ true
  AreOpen operator.Xor = opens x Decisions ≡ true
  AreOpen operator.AndThen = (opens x Decisions ≡ true) × (opens x ShortCircuit ≡ true)
  AreOpen operator.OrElse = (opens x Decisions ≡ true) × (opens x ShortCircuit ≡ true)

  module _ (inner : Reader Expr) (n : ℕ) (inner_sound : ReadsExpr x expression inner) where
    comma_step : (ts : Tokens) (found : Symbol) (t : Token) (es : List Expr) (us : Tokens) → Is found t → AreExprs x es ts (t ∷ us) → YieldsTurn (λ zs rest. AreExprs x zs ts rest) (read.comma_turn x inner n found t es) t us
    comma_step ts symbol.Comma t es us h d = bind_yields (λ e rest. IsExpr x expression e us rest) _ _ inner us (inner_sound us) (λ e rest p. more_exprs d h p)
    comma_step ts _ t es us h d = d

    pub exprs_sound : (ts : Tokens) → Yields (λ es rest. AreExprs x es ts rest) (read.exprs_by x inner n ts)
    exprs_sound ts = bind_yields (λ e rest. IsExpr x expression e ts rest) _ _ inner ts (inner_sound ts)
        (λ e mid p. repeat_yields (λ zs rest. AreExprs x zs ts rest) (read.comma_turn x inner n) (comma_step ts) n (e ∷ []) mid (one_expr p))

    suffix_step : (ts : Tokens) (found : Symbol) (t : Token) (m : Name) (us : Tokens) → Is found t → IsName x m ts (t ∷ us) → YieldsTurn (λ z rest. IsName x z ts rest) (read.suffix_turn x inner n found t m) t us
    suffix_step ts symbol.Dot t m us h d = bind_yields (λ u rest. Takes symbol.Identifier u us rest) _ _ (expect symbol.Identifier) us (expect_yields symbol.Identifier us) (λ u rest p. selection d h p)
    suffix_step ts symbol.Tick t m us h d = provided_yields (λ z rest. IsName x z ts rest) (opens x Objects) _ t us (λ o. bind_yields (λ u rest. Takes symbol.Identifier u us rest) _ _ (expect symbol.Identifier) us (expect_yields symbol.Identifier us) (λ u rest p. attributed o d h p))
    suffix_step ts symbol.LeftParenthesis t m us h d = bind_yields (λ es rest. AreExprs x es us rest) _ _ (read.exprs_by x inner n) us (exprs_sound us)
        (λ es mid p. skip_yields (λ z rest. IsName x z ts rest) symbol.RightParenthesis (got (applied m (exprs_of es))) mid (λ u rest q. application d h p q))
    suffix_step ts _ t m us h d = d

    pub name_sound : (ts : Tokens) → Yields (λ m rest. IsName x m ts rest) (read.name_by x inner n ts)
    name_sound ts = bind_yields (λ t rest. Takes symbol.Identifier t ts rest) _ _ (expect symbol.Identifier) ts (expect_yields symbol.Identifier ts)
        (λ t mid p. repeat_yields (λ z rest. IsName x z ts rest) (read.suffix_turn x inner n) (suffix_step ts) n (simple (identifier_of t)) mid (identified p))

    named_here : {m : Name} {t : Token} {us rest : Tokens} → opens x Objects ≡ true → IsName x m (t ∷ us) rest → IsExpr x primary (named t.pos m) (t ∷ us) rest
    named_here {m} {t} {us} {rest} o d = subst (λ p. IsExpr x primary (named p m) (t ∷ us) rest) (first_of_name d) (a_name o d)

    primary_step : (found : Symbol) (t : Token) (us : Tokens) → Is found t → YieldsTurn (λ e rest. IsExpr x primary e (t ∷ us) rest) (read.primary_turn x inner n found t) t us
    primary_step symbol.Numeral t us h = a_numeral h
    primary_step symbol.Identifier t us h = provided_yields (λ e rest. IsExpr x primary e (t ∷ us) rest) (opens x Objects) _ t us (λ o. bind_yields (λ m rest. IsName x m (t ∷ us) rest) _ _ (read.name_by x inner n) (t ∷ us) (name_sound (t ∷ us)) (λ m rest d. named_here o d))
    primary_step symbol.LeftParenthesis t us h = provided_yields (λ e rest. IsExpr x primary e (t ∷ us) rest) (opens x Objects) _ t us (λ o. bind_yields (λ e rest. IsExpr x expression e us rest) _ _ inner us (inner_sound us)
        (λ e mid d. skip_yields (λ z rest. IsExpr x primary z (t ∷ us) rest) symbol.RightParenthesis (got (parenthesized t.pos e)) mid (λ u rest q. enclosed o h d q)))
    primary_step _ t us h = tt

    primary_sound : ReadsExpr x primary (read.primary_by x inner n)
    primary_sound [] = tt
    primary_sound (t ∷ us) = turned_yields (λ e rest. IsExpr x primary e (t ∷ us) rest) (read.primary_turn x inner n (symbol_of t.lexeme) t) t us (primary_step (symbol_of t.lexeme) t us refl)

    factor_step : (found : Symbol) (t : Token) (us : Tokens) → Is found t → YieldsTurn (λ e rest. IsExpr x factor e (t ∷ us) rest) (read.factor_turn x inner n found t) t us
    factor_step symbol.Abs t us h = provided_yields (λ e rest. IsExpr x factor e (t ∷ us) rest) (opens x Objects) _ t us (λ o. bind_yields (λ e rest. IsExpr x primary e us rest) _ _ (read.primary_by x inner n) us (primary_sound us) (λ e rest d. an_abs o h d))
    factor_step symbol.Not t us h = provided_yields (λ e rest. IsExpr x factor e (t ∷ us) rest) (opens x Decisions) _ t us (λ o. bind_yields (λ e rest. IsExpr x primary e us rest) _ _ (read.primary_by x inner n) us (primary_sound us) (λ e rest d. a_not o h d))
    factor_step _ t us h = weaken (λ e rest. IsExpr x primary e (t ∷ us) rest) (λ e rest. IsExpr x factor e (t ∷ us) rest) (read.primary_by x inner n (t ∷ us)) (primary_sound (t ∷ us)) (λ e rest d. a_primary d)

    factor_sound : ReadsExpr x factor (read.factor_by x inner n)
    factor_sound [] = tt
    factor_sound (t ∷ us) = turned_yields (λ e rest. IsExpr x factor e (t ∷ us) rest) (read.factor_turn x inner n (symbol_of t.lexeme) t) t us (factor_step (symbol_of t.lexeme) t us refl)

    product_step : (ts : Tokens) (op : Option BinaryOperator) (t : Token) (a : Expr) (us : Tokens) → multiplying (symbol_of t.lexeme) ≡ op → IsExpr x term a ts (t ∷ us)
        → YieldsTurn (λ e rest. IsExpr x term e ts rest) (read.operand_turn x inner n op (read.factor_by x inner n) a) t us
    product_step ts None t a us h d = d
    product_step ts (Some op) t a us h d = provided_yields (λ e rest. IsExpr x term e ts rest) (opens x Objects) _ t us (λ o. bind_yields (λ e rest. IsExpr x factor e us rest) _ _ (read.factor_by x inner n) us (factor_sound us) (λ b rest p. a_product o d h p))

    term_sound : ReadsExpr x term (read.term_by x inner n)
    term_sound ts = bind_yields (λ e rest. IsExpr x factor e ts rest) (λ e rest. IsExpr x term e ts rest) _ (read.factor_by x inner n) ts (factor_sound ts)
        (λ a mid p. repeat_yields (λ e rest. IsExpr x term e ts rest) (read.product_turn x inner n)
        (λ found t b us h d. product_step ts (multiplying found) t b us (ap multiplying h) d) n a mid (a_factor p))

    sign_step : (op : Option UnaryOperator) (t : Token) (us : Tokens) → sign_of (symbol_of t.lexeme) ≡ op → YieldsTurn (λ e rest. IsExpr x signed e (t ∷ us) rest) (read.sign_turn x inner n op t) t us
    sign_step None t us h = weaken (λ e rest. IsExpr x term e (t ∷ us) rest) (λ e rest. IsExpr x signed e (t ∷ us) rest) (read.term_by x inner n (t ∷ us)) (term_sound (t ∷ us)) (λ e rest d. a_term d)
    sign_step (Some op) t us h = provided_yields (λ e rest. IsExpr x signed e (t ∷ us) rest) (opens x Objects) _ t us (λ o. bind_yields (λ e rest. IsExpr x term e us rest) _ _ (read.term_by x inner n) us (term_sound us) (λ e rest d. a_signed_term o h d))

    signed_sound : ReadsExpr x signed (read.signed_by x inner n)
    signed_sound [] = tt
    signed_sound (t ∷ us) = turned_yields (λ e rest. IsExpr x signed e (t ∷ us) rest) (read.sign_turn x inner n (sign_of (symbol_of t.lexeme)) t) t us (sign_step (sign_of (symbol_of t.lexeme)) t us refl)

    sum_step : (ts : Tokens) (op : Option BinaryOperator) (t : Token) (a : Expr) (us : Tokens) → adding (symbol_of t.lexeme) ≡ op → IsExpr x sums a ts (t ∷ us)
        → YieldsTurn (λ e rest. IsExpr x sums e ts rest) (read.operand_turn x inner n op (read.term_by x inner n) a) t us
    sum_step ts None t a us h d = d
    sum_step ts (Some op) t a us h d = provided_yields (λ e rest. IsExpr x sums e ts rest) (opens x Objects) _ t us (λ o. bind_yields (λ e rest. IsExpr x term e us rest) _ _ (read.term_by x inner n) us (term_sound us) (λ b rest p. a_sum o d h p))

    pub simple_sound : ReadsExpr x sums (read.simple_by x inner n)
    simple_sound ts = bind_yields (λ e rest. IsExpr x signed e ts rest) (λ e rest. IsExpr x sums e ts rest) _ (read.signed_by x inner n) ts (signed_sound ts)
        (λ a mid p. repeat_yields (λ e rest. IsExpr x sums e ts rest) (read.sum_turn x inner n)
        (λ found t b us h d. sum_step ts (adding found) t b us (ap adding h) d) n a mid (a_first_term p))

    relation_step : (ts : Tokens) (op : Option RelationalOperator) (t : Token) (a : Expr) (us : Tokens) → relational_of (symbol_of t.lexeme) ≡ op → IsExpr x sums a ts (t ∷ us)
        → YieldsTurn (λ e rest. IsExpr x related e ts rest) (read.relation_turn x inner n op a) t us
    relation_step ts None t a us h d = a_simple d
    relation_step ts (Some op) t a us h d = provided_yields (λ e rest. IsExpr x related e ts rest) (opens x Decisions) _ t us (λ o. bind_yields (λ e rest. IsExpr x sums e us rest) _ _ (read.simple_by x inner n) us (simple_sound us) (λ b rest p. a_relation o d h p))

    relation_rest_sound : (ts mid : Tokens) (a : Expr) → IsExpr x sums a ts mid → Yields (λ e rest. IsExpr x related e ts rest) (read.relation_rest x inner n a mid)
    relation_rest_sound ts [] a d = a_simple d
    relation_rest_sound ts (t ∷ us) a d = turned_yields (λ e rest. IsExpr x related e ts rest) (read.relation_turn x inner n (relational_of (symbol_of t.lexeme)) a) t us (relation_step ts (relational_of (symbol_of t.lexeme)) t a us refl d)

    relation_sound : ReadsExpr x related (read.relation_by x inner n)
    relation_sound ts = bind_yields (λ e rest. IsExpr x sums e ts rest) (λ e rest. IsExpr x related e ts rest) _ (read.simple_by x inner n) ts (simple_sound ts) (λ a mid d. relation_rest_sound ts mid a d)

    -- what follows an operator of a chain
    joined_sound : (op : LogicalOperator) (a : Expr) (us : Tokens) (Q : Expr → Tokens → Type 0) → ((b : Expr) (rest : Tokens) → IsExpr x related b us rest → Q (logical (expr_pos a) a op b) rest) → Yields Q (read.joined_by x inner n op a us)
    joined_sound op a us Q h = bind_yields (λ e rest. IsExpr x related e us rest) Q _ (read.relation_by x inner n) us (relation_sound us) (λ b rest d. h b rest d)

    another_step : (ts : Tokens) (op : LogicalOperator) → AreOpen op → (found : Bool) (t : Token) (a : Expr) (us : Tokens) → same (symbol_of t.lexeme) (first_word op) ≡ found → IsChain x op a ts (t ∷ us)
        → YieldsTurn (λ e rest. IsChain x op e ts rest) (read.another_turn x inner n found op a) t us
    another_step ts op o false t a us h d = d
    another_step ts operator.And o true t a us h d = joined_sound operator.And a us _ (λ b rest p. a_longer d (by_and o (same_true the_type tt _ _ h)) p)
    another_step ts operator.Or o true t a us h d = joined_sound operator.Or a us _ (λ b rest p. a_longer d (by_or o (same_true the_type tt _ _ h)) p)
    another_step ts operator.Xor o true t a us h d = joined_sound operator.Xor a us _ (λ b rest p. a_longer d (by_xor o (same_true the_type tt _ _ h)) p)
    another_step ts operator.AndThen o true t a us h d = skip_yields (λ e rest. IsChain x operator.AndThen e ts rest) symbol.Then (read.joined_by x inner n operator.AndThen a) us
        (λ u mid q. joined_sound operator.AndThen a mid _ (λ b rest p. a_longer d (and_then o.0 o.1 (same_true the_type tt _ _ h) q) p))
    another_step ts operator.OrElse o true t a us h d = skip_yields (λ e rest. IsChain x operator.OrElse e ts rest) symbol.Else (read.joined_by x inner n operator.OrElse a) us
        (λ u mid q. joined_sound operator.OrElse a mid _ (λ b rest p. a_longer d (or_else o.0 o.1 (same_true the_type tt _ _ h) q) p))

    chain_sound : (op : LogicalOperator) → AreOpen op → (ts us vs : Tokens) (a : Expr) → IsExpr x related a ts us → Joins x op us vs → Yields (λ e rest. IsExpr x expression e ts rest) (read.chain_by x inner n op a vs)
    chain_sound op o ts us vs a d j =
        bind_yields (λ e rest. IsChain x op e ts rest) (λ e rest. IsExpr x expression e ts rest) _ (read.joined_by x inner n op a) vs
        (joined_sound op a vs (λ e rest. IsChain x op e ts rest) (λ b rest p. a_pair d j p))
        (λ e mid c. weaken (λ z rest. IsChain x op z ts rest) (λ z rest. IsExpr x expression z ts rest) (repeat (read.chain_turn x inner n op) n e mid)
        (repeat_yields (λ z rest. IsChain x op z ts rest) (read.chain_turn x inner n op)
        (λ found t b ws h p. another_step ts op o (same found (first_word op)) t b ws (ap (λ s. same s (first_word op)) h) p) n e mid c) (λ z rest p. a_chain p))

    and_step : (ts : Tokens) (t : Token) (us : Tokens) (a : Expr) → opens x Decisions ≡ true → Is symbol.And t → IsExpr x related a ts (t ∷ us) → (found : Symbol) (u : Token) (vs : Tokens) → Is found u → us ≡ u ∷ vs
        → YieldsTurn (λ e rest. IsExpr x expression e ts rest) (read.and_turn x inner n a found u) u vs
    and_step ts t us a o h d symbol.Then u vs i e = provided_yields (λ z rest. IsExpr x expression z ts rest) (opens x ShortCircuit) _ u vs
        (λ p. chain_sound operator.AndThen (o, p) ts (t ∷ us) vs a d (rw e (by_and_then o p h i)))
    and_step ts t us a o h d _ u vs i e = chain_sound operator.And o ts (t ∷ us) (u ∷ vs) a d (rw e (by_and o h))

    or_step : (ts : Tokens) (t : Token) (us : Tokens) (a : Expr) → opens x Decisions ≡ true → Is symbol.Or t → IsExpr x related a ts (t ∷ us) → (found : Symbol) (u : Token) (vs : Tokens) → Is found u → us ≡ u ∷ vs
        → YieldsTurn (λ e rest. IsExpr x expression e ts rest) (read.or_turn x inner n a found u) u vs
    or_step ts t us a o h d symbol.Else u vs i e = provided_yields (λ z rest. IsExpr x expression z ts rest) (opens x ShortCircuit) _ u vs
        (λ p. chain_sound operator.OrElse (o, p) ts (t ∷ us) vs a d (rw e (by_or_else o p h i)))
    or_step ts t us a o h d _ u vs i e = chain_sound operator.Or o ts (t ∷ us) (u ∷ vs) a d (rw e (by_or o h))

    and_rest_sound : (ts : Tokens) (t : Token) (us : Tokens) (a : Expr) → opens x Decisions ≡ true → Is symbol.And t → IsExpr x related a ts (t ∷ us) → Yields (λ e rest. IsExpr x expression e ts rest) (on_token Refuse (read.and_turn x inner n a) us)
    and_rest_sound ts t [] a o h d = tt
    and_rest_sound ts t (u ∷ vs) a o h d = turned_yields (λ e rest. IsExpr x expression e ts rest) (read.and_turn x inner n a (symbol_of u.lexeme) u) u vs (and_step ts t (u ∷ vs) a o h d (symbol_of u.lexeme) u vs refl refl)

    or_rest_sound : (ts : Tokens) (t : Token) (us : Tokens) (a : Expr) → opens x Decisions ≡ true → Is symbol.Or t → IsExpr x related a ts (t ∷ us) → Yields (λ e rest. IsExpr x expression e ts rest) (on_token Refuse (read.or_turn x inner n a) us)
    or_rest_sound ts t [] a o h d = tt
    or_rest_sound ts t (u ∷ vs) a o h d = turned_yields (λ e rest. IsExpr x expression e ts rest) (read.or_turn x inner n a (symbol_of u.lexeme) u) u vs (or_step ts t (u ∷ vs) a o h d (symbol_of u.lexeme) u vs refl refl)

    logical_step : (ts : Tokens) (found : Symbol) (t : Token) (us : Tokens) (a : Expr) → Is found t → IsExpr x related a ts (t ∷ us) → YieldsTurn (λ e rest. IsExpr x expression e ts rest) (read.logical_turn x inner n a found t) t us
    logical_step ts symbol.And t us a h d = provided_yields (λ z rest. IsExpr x expression z ts rest) (opens x Decisions) _ t us (λ o. and_rest_sound ts t us a o h d)
    logical_step ts symbol.Or t us a h d = provided_yields (λ z rest. IsExpr x expression z ts rest) (opens x Decisions) _ t us (λ o. or_rest_sound ts t us a o h d)
    logical_step ts symbol.Xor t us a h d = provided_yields (λ z rest. IsExpr x expression z ts rest) (opens x Decisions) _ t us (λ o. chain_sound operator.Xor o ts (t ∷ us) us a d (by_xor o h))
    logical_step ts _ t us a h d = a_single d

    logical_rest_sound : (ts mid : Tokens) (a : Expr) → IsExpr x related a ts mid → Yields (λ e rest. IsExpr x expression e ts rest) (read.logical_rest x inner n a mid)
    logical_rest_sound ts [] a d = a_single d
    logical_rest_sound ts (t ∷ us) a d = turned_yields (λ e rest. IsExpr x expression e ts rest) (read.logical_turn x inner n a (symbol_of t.lexeme) t) t us (logical_step ts (symbol_of t.lexeme) t us a refl d)

    expression_sound : ReadsExpr x expression (read.expression_by x inner n)
    expression_sound ts = bind_yields (λ e rest. IsExpr x related e ts rest) (λ e rest. IsExpr x expression e ts rest) _ (read.relation_by x inner n) ts (relation_sound ts) (λ a mid d. logical_rest_sound ts mid a d)

  pub expr_sound : (n : ℕ) → ReadsExpr x expression (read.expr x n)
  expr_sound zero ts = tt
  expr_sound (suc n) ts = expression_sound (read.expr x n) (suc n) (expr_sound n) ts
