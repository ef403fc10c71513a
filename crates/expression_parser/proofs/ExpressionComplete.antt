-- What derives tokens is read of them.
use Rattle.std.proofs.Common.{◌≡◌, ℕ, zero, suc, ◌<◌, ◌≤◌, Bool, true, false, List, [], ◌∷◌, ◌++◌, length, Some, None, refl, ap, sym, ◌∙◌, subst, arith}
use denote.Enum.Bare.{true_same}
use Rattle.ada_lexer.specs.declared.token.Token.{Token}
use Rattle.ada_syntax.specs.Tree.{Expr, named, parenthesized, unary, binary, relation, logical, expr_pos, Name, simple, selected, attribute, applied, name_pos}
use Rattle.ada_syntax.specs.TreeView.{exprs_of}
use Rattle.ada_syntax.specs.declared.expr.UnaryOperator.{UnaryOperator}
use Rattle.ada_syntax.specs.declared.expr.UnaryOperator.TheVariants as unary_operator
use Rattle.ada_syntax.specs.declared.expr.BinaryOperator.{BinaryOperator}
use Rattle.ada_syntax.specs.declared.expr.RelationalOperator.{RelationalOperator}
use Rattle.ada_syntax.specs.declared.expr.LogicalOperator.{LogicalOperator}
use Rattle.ada_syntax.specs.declared.expr.LogicalOperator.TheVariants as operator
use Rattle.expression_parser.specs.declared.symbol.Symbol.{Symbol}
use Rattle.expression_parser.specs.declared.symbol.Symbol.TheVariants as symbol
use Rattle.expression_parser.specs.contracts.symbol.Symbol.{the_type}
use Rattle.expression_parser.specs.declared.extent.Extent.{Extent}
use Rattle.expression_parser.specs.declared.extent.Extent.TheVariants.{Objects}
use Rattle.expression_parser.specs.Symbols.{symbol_of, Is, same, identifier_of, sign_of, multiplying, adding, relational_of, first_word}
use Rattle.expression_parser.specs.Extents.{opens}
use Rattle.expression_parser.specs.Reading.{Tokens, Reading, Reader, Got, Refuse, Leave, Take, Look, got, ◌>>=◌, turned, on_token, provided, expect, skip, repeat}
use Rattle.expression_parser.specs.Expressions.{Level, primary, factor, term, signed, sums, related, expression, IsExpr, a_numeral, a_name, in_parentheses, a_primary, an_abs, a_not, a_factor, a_product, a_term, a_signed_term, a_first_term, a_sum, a_simple, a_relation, a_single, a_chain, IsChain, a_pair, a_longer, Joins, by_and, by_or, by_xor, by_and_then, by_or_else, IsName, an_identifier, a_selection, an_attribute, an_application, AreExprs, one_expr, more_exprs}
use Rattle.expression_parser.specs.ExpressionReading as read
use Rattle.expression_parser.proofs.Comes.{binding, Ends, ends_less, ends_at, got_bind, got_then, got_expect, got_skip, got_closed, on_symbol, Comes, Leaves, comes_leave, comes_take}
use Rattle.expression_parser.proofs.ExpressionLengths.{shorter, chain_shorter, name_shorter, exprs_shorter, joins_shorter}
use Rattle.expression_parser.proofs.ExpressionSound.{first_of_name}

-- no token that begins an operand, and none that follows one, is an operator of a tighter level
no_multiplying : (s : Symbol) → 1 < binding s → multiplying s ≡ None
no_multiplying symbol.Star h = absurd (omega arith)
no_multiplying symbol.Slash h = absurd (omega arith)
no_multiplying symbol.Mod h = absurd (omega arith)
no_multiplying symbol.Rem h = absurd (omega arith)
no_multiplying _ h = refl

no_adding : (s : Symbol) → 2 < binding s → adding s ≡ None
no_adding symbol.Plus h = absurd (omega arith)
no_adding symbol.Minus h = absurd (omega arith)
no_adding _ h = refl

no_relational : (s : Symbol) → 3 < binding s → relational_of s ≡ None
no_relational symbol.Equal h = absurd (omega arith)
no_relational symbol.NotEqual h = absurd (omega arith)
no_relational symbol.Less h = absurd (omega arith)
no_relational symbol.LessOrEqual h = absurd (omega arith)
no_relational symbol.Greater h = absurd (omega arith)
no_relational symbol.GreaterOrEqual h = absurd (omega arith)
no_relational _ h = refl

-- how tightly an operator binds
binds_multiplying : (s : Symbol) (op : BinaryOperator) → multiplying s ≡ Some op → binding s ≡ 1
binds_multiplying symbol.Star op h = refl
binds_multiplying symbol.Slash op h = refl
binds_multiplying symbol.Mod op h = refl
binds_multiplying symbol.Rem op h = refl
binds_multiplying _ op h = cc

binds_adding : (s : Symbol) (op : BinaryOperator) → adding s ≡ Some op → binding s ≡ 2
binds_adding symbol.Plus op h = refl
binds_adding symbol.Minus op h = refl
binds_adding _ op h = cc

binds_relational : (s : Symbol) (op : RelationalOperator) → relational_of s ≡ Some op → binding s ≡ 3
binds_relational symbol.Equal op h = refl
binds_relational symbol.NotEqual op h = refl
binds_relational symbol.Less op h = refl
binds_relational symbol.LessOrEqual op h = refl
binds_relational symbol.Greater op h = refl
binds_relational symbol.GreaterOrEqual op h = refl
binds_relational _ op h = cc

-- the tokens that begin a primary are no sign, no `abs`, no `not`, and no second word of an operator
abbrev begins_primary : Symbol → Bool
begins_primary symbol.Numeral = true
begins_primary symbol.Identifier = true
begins_primary symbol.LeftParenthesis = true
begins_primary _ = false

abbrev begins_factor : Symbol → Bool
begins_factor symbol.Abs = true
begins_factor symbol.Not = true
begins_factor s = begins_primary s

abbrev begins_signed : Symbol → Bool
begins_signed symbol.Plus = true
begins_signed symbol.Minus = true
begins_signed s = begins_factor s

-- the first token of what begins at a level
abbrev begins : Level → Symbol → Bool
begins primary s = begins_primary s
begins factor s = begins_factor s
begins term s = begins_factor s
begins signed s = begins_signed s
begins sums s = begins_signed s
begins related s = begins_signed s
begins expression s = begins_signed s

pub record Begins (p : Symbol → Bool) (ts : Tokens) : Type 0 where
  pub t : Token
  pub us : Tokens
  pub here : ts ≡ t ∷ us
  pub first : p (symbol_of t.lexeme) ≡ true

begins_at : (p : Symbol → Bool) (s : Symbol) (t : Token) (us : Tokens) → Is s t → p s ≡ true → Begins p (t ∷ us)
begins_at p s t us i h = record { t = t; us = us; here = refl; first = ap p i ∙ h }

as_factor : (s : Symbol) → begins_primary s ≡ true → begins_factor s ≡ true
as_factor symbol.Abs h = refl
as_factor symbol.Not h = refl
as_factor symbol.Numeral h = refl
as_factor symbol.Identifier h = refl
as_factor symbol.LeftParenthesis h = refl
as_factor _ h = h

as_signed : (s : Symbol) → begins_factor s ≡ true → begins_signed s ≡ true
as_signed symbol.Plus h = refl
as_signed symbol.Minus h = refl
as_signed symbol.Numeral h = refl
as_signed symbol.Identifier h = refl
as_signed symbol.LeftParenthesis h = refl
as_signed symbol.Abs h = refl
as_signed symbol.Not h = refl
as_signed _ h = h

begins_sign : (s : Symbol) (op : UnaryOperator) → sign_of s ≡ Some op → begins_signed s ≡ true
begins_sign symbol.Plus op h = refl
begins_sign symbol.Minus op h = refl
begins_sign _ op h = cc

begins_map : {p q : Symbol → Bool} {ts : Tokens} → ((s : Symbol) → p s ≡ true → q s ≡ true) → Begins p ts → Begins q ts
begins_map f b = record { t = b.t; us = b.us; here = b.here; first = f (symbol_of b.t.lexeme) b.first }

module _ (x : Extent) where
  first_of_list : {n : Name} {ts rest : Tokens} → IsName x n ts rest → Begins begins_primary ts
  first_of_list (an_identifier {t = t} {rest = rest} i) = begins_at begins_primary symbol.Identifier t rest i refl
  first_of_list (a_selection d h i) = first_of_list d
  first_of_list (an_attribute o d h i) = first_of_list d
  first_of_list (an_application d h es i) = first_of_list d

  mutual
    pub first_token : {l : Level} {e : Expr} {ts rest : Tokens} → IsExpr x l e ts rest → Begins (begins l) ts
    first_token (a_numeral {t = t} {rest = rest} i) = begins_at begins_primary symbol.Numeral t rest i refl
    first_token (a_name o d) = first_of_list d
    first_token (in_parentheses {t = t} {ts = ts} o i d j) = begins_at begins_primary symbol.LeftParenthesis t ts i refl
    first_token (a_primary d) = begins_map as_factor (first_token d)
    first_token (an_abs {t = t} {ts = ts} o i d) = begins_at begins_factor symbol.Abs t ts i refl
    first_token (a_not {t = t} {ts = ts} o i d) = begins_at begins_factor symbol.Not t ts i refl
    first_token (a_factor d) = first_token d
    first_token (a_product o d h b) = first_token d
    first_token (a_term d) = begins_map as_signed (first_token d)
    first_token (a_signed_term {t = t} {op = op} {ts = ts} o h d) = record { t = t; us = ts; here = refl; first = begins_sign (symbol_of t.lexeme) op h }
    first_token (a_first_term d) = first_token d
    first_token (a_sum o d h b) = first_token d
    first_token (a_simple d) = first_token d
    first_token (a_relation o d h b) = first_token d
    first_token (a_single d) = first_token d
    first_token (a_chain c) = first_of_chain c

    first_of_chain : {op : LogicalOperator} {e : Expr} {ts rest : Tokens} → IsChain x op e ts rest → Begins begins_signed ts
    first_of_chain (a_pair d j b) = first_token d
    first_of_chain (a_longer c j b) = first_of_chain c

  pub record IsNamed (ts : Tokens) : Type 0 where
    pub t : Token
    pub us : Tokens
    pub here : ts ≡ t ∷ us
    pub first : Is symbol.Identifier t

  pub name_first : {n : Name} {ts rest : Tokens} → IsName x n ts rest → IsNamed ts
  name_first (an_identifier {t = t} {rest = rest} i) = record { t = t; us = rest; here = refl; first = i }
  name_first (a_selection d h i) = name_first d
  name_first (an_attribute o d h i) = name_first d
  name_first (an_application d h es i) = name_first d

  -- readers of a known depth
  module _ (m : ℕ) where
    abbrev inner : Reader Expr
    inner = read.expr x m

    abbrev n : ℕ
    n = suc m

    leaves_product : (a : Expr) (rest : Tokens) → Ends 1 rest → Leaves (read.product_turn x inner n) a rest
    leaves_product a [] e = tt
    leaves_product a (t ∷ us) e = ap (λ op. read.operand_turn x inner n op (read.factor_by x inner n) a) (no_multiplying (symbol_of t.lexeme) e.by)

    leaves_sum : (a : Expr) (rest : Tokens) → Ends 2 rest → Leaves (read.sum_turn x inner n) a rest
    leaves_sum a [] e = tt
    leaves_sum a (t ∷ us) e = ap (λ op. read.operand_turn x inner n op (read.term_by x inner n) a) (no_adding (symbol_of t.lexeme) e.by)

    relation_leaves : (a : Expr) (rest : Tokens) → Ends 3 rest → read.relation_rest x inner n a rest ≡ Got a rest
    relation_leaves a [] e = refl
    relation_leaves a (t ∷ us) e = ap (λ op. turned (read.relation_turn x inner n op a) t us) (no_relational (symbol_of t.lexeme) e.by)

    logical_leaves_at : (s : Symbol) (t : Token) (a : Expr) → 4 < binding s → read.logical_turn x inner n a s t ≡ Leave a
    logical_leaves_at symbol.And t a h = absurd (omega arith)
    logical_leaves_at symbol.Or t a h = absurd (omega arith)
    logical_leaves_at symbol.Xor t a h = absurd (omega arith)
    logical_leaves_at _ t a h = refl

    logical_leaves : (a : Expr) (rest : Tokens) → Ends 4 rest → read.logical_rest x inner n a rest ≡ Got a rest
    logical_leaves a [] e = refl
    logical_leaves a (t ∷ us) e = ap (λ z. turned z t us) (logical_leaves_at (symbol_of t.lexeme) t a e.by)

    no_join : (op : LogicalOperator) (s : Symbol) → 4 < binding s → same s (first_word op) ≡ false
    no_join operator.And symbol.And h = absurd (omega arith)
    no_join operator.AndThen symbol.And h = absurd (omega arith)
    no_join operator.Or symbol.Or h = absurd (omega arith)
    no_join operator.OrElse symbol.Or h = absurd (omega arith)
    no_join operator.Xor symbol.Xor h = absurd (omega arith)
    no_join operator.And _ h = refl
    no_join operator.AndThen _ h = refl
    no_join operator.Or _ h = refl
    no_join operator.OrElse _ h = refl
    no_join operator.Xor _ h = refl

    leaves_chain : (op : LogicalOperator) (a : Expr) (rest : Tokens) → Ends 4 rest → Leaves (read.chain_turn x inner n op) a rest
    leaves_chain op a [] e = tt
    leaves_chain op a (t ∷ us) e = ap (λ b. read.another_turn x inner n b op a) (no_join op (symbol_of t.lexeme) e.by)

    leaves_suffix_at : (s : Symbol) (t : Token) (a : Name) → 0 < binding s → read.suffix_turn x inner n s t a ≡ Leave a
    leaves_suffix_at symbol.Dot t a h = absurd (omega arith)
    leaves_suffix_at symbol.Tick t a h = absurd (omega arith)
    leaves_suffix_at symbol.LeftParenthesis t a h = absurd (omega arith)
    leaves_suffix_at _ t a h = refl

    pub leaves_suffix : (a : Name) (rest : Tokens) → Ends 0 rest → Leaves (read.suffix_turn x inner n) a rest
    leaves_suffix a [] e = tt
    leaves_suffix a (t ∷ us) e = leaves_suffix_at (symbol_of t.lexeme) t a e.by

    factor_looks_at : (s : Symbol) (t : Token) → begins_primary s ≡ true → read.factor_turn x inner n s t ≡ Look (read.primary_by x inner n)
    factor_looks_at symbol.Abs t h = cc
    factor_looks_at symbol.Not t h = cc
    factor_looks_at _ t h = refl

    factor_looks : {ts : Tokens} → Begins begins_primary ts → read.factor_by x inner n ts ≡ read.primary_by x inner n ts
    factor_looks b = rw b.here (ap (λ z. turned z b.t b.us) (factor_looks_at (symbol_of b.t.lexeme) b.t b.first))

    no_sign : (s : Symbol) → begins_factor s ≡ true → sign_of s ≡ None
    no_sign symbol.Plus h = cc
    no_sign symbol.Minus h = cc
    no_sign _ h = refl

    signed_looks : {ts : Tokens} → Begins begins_factor ts → read.signed_by x inner n ts ≡ read.term_by x inner n ts
    signed_looks b = rw b.here (ap (λ z. turned (read.sign_turn x inner n z b.t) b.t b.us) (no_sign (symbol_of b.t.lexeme) b.first))

    and_looks_at : (a : Expr) (s : Symbol) (t : Token) → begins_signed s ≡ true → read.and_turn x inner n a s t ≡ Look (read.chain_by x inner n operator.And a)
    and_looks_at a symbol.Then t h = cc
    and_looks_at a _ t h = refl

    and_looks : {ts : Tokens} (a : Expr) → Begins begins_signed ts → on_token Refuse (read.and_turn x inner n a) ts ≡ read.chain_by x inner n operator.And a ts
    and_looks a b = rw b.here (ap (λ z. turned z b.t b.us) (and_looks_at a (symbol_of b.t.lexeme) b.t b.first))

    or_looks_at : (a : Expr) (s : Symbol) (t : Token) → begins_signed s ≡ true → read.or_turn x inner n a s t ≡ Look (read.chain_by x inner n operator.Or a)
    or_looks_at a symbol.Else t h = cc
    or_looks_at a _ t h = refl

    or_looks : {ts : Tokens} (a : Expr) → Begins begins_signed ts → on_token Refuse (read.or_turn x inner n a) ts ≡ read.chain_by x inner n operator.Or a ts
    or_looks a b = rw b.here (ap (λ z. turned z b.t b.us) (or_looks_at a (symbol_of b.t.lexeme) b.t b.first))

    -- after the operator of a chain
    after_join : {op : LogicalOperator} {us vs : Tokens} (a : Expr) → Joins x op us vs → Begins begins_signed vs → read.logical_rest x inner n a us ≡ read.chain_by x inner n op a vs
    after_join a (by_and {t = t} {rest = vs} o i) b = on_symbol (Leave a) (read.logical_turn x inner n a) symbol.And t vs i
        ∙ (ap (λ z. turned (provided z (Take (on_token Refuse (read.and_turn x inner n a)))) t vs) o ∙ and_looks a b)
    after_join a (by_or {t = t} {rest = vs} o i) b = on_symbol (Leave a) (read.logical_turn x inner n a) symbol.Or t vs i
        ∙ (ap (λ z. turned (provided z (Take (on_token Refuse (read.or_turn x inner n a)))) t vs) o ∙ or_looks a b)
    after_join a (by_xor {t = t} {rest = vs} o i) b = on_symbol (Leave a) (read.logical_turn x inner n a) symbol.Xor t vs i
        ∙ ap (λ z. turned (provided z (Take (read.chain_by x inner n operator.Xor a))) t vs) o
    after_join a (by_and_then {t = t} {u = u} {rest = vs} o p i j) b = on_symbol (Leave a) (read.logical_turn x inner n a) symbol.And t (u ∷ vs) i
        ∙ (ap (λ z. turned (provided z (Take (on_token Refuse (read.and_turn x inner n a)))) t (u ∷ vs)) o
        ∙ (on_symbol Refuse (read.and_turn x inner n a) symbol.Then u vs j ∙ ap (λ z. turned (provided z (Take (read.chain_by x inner n operator.AndThen a))) u vs) p))
    after_join a (by_or_else {t = t} {u = u} {rest = vs} o p i j) b = on_symbol (Leave a) (read.logical_turn x inner n a) symbol.Or t (u ∷ vs) i
        ∙ (ap (λ z. turned (provided z (Take (on_token Refuse (read.or_turn x inner n a)))) t (u ∷ vs)) o
        ∙ (on_symbol Refuse (read.or_turn x inner n a) symbol.Else u vs j ∙ ap (λ z. turned (provided z (Take (read.chain_by x inner n operator.OrElse a))) u vs) p))

    -- one more relation of a chain
    one_more : {op : LogicalOperator} {q : Reading Expr} {a e : Expr} {us vs rest : Tokens} → Joins x op us vs → Comes (read.chain_turn x inner n op) q a us → read.joined_by x inner n op a vs ≡ Got e rest → length rest ≤ length vs
        → Comes (read.chain_turn x inner n op) q e rest
    one_more {a = a} {rest = rest} (by_and {t = t} {rest = vs} o i) c g l = comes_take (read.chain_turn x inner n operator.And) t vs rest (read.joined_by x inner n operator.And a) c (ap (λ z. read.another_turn x inner n z operator.And a) (true_same the_type _ _ i)) g l
    one_more {a = a} {rest = rest} (by_or {t = t} {rest = vs} o i) c g l = comes_take (read.chain_turn x inner n operator.Or) t vs rest (read.joined_by x inner n operator.Or a) c (ap (λ z. read.another_turn x inner n z operator.Or a) (true_same the_type _ _ i)) g l
    one_more {a = a} {rest = rest} (by_xor {t = t} {rest = vs} o i) c g l = comes_take (read.chain_turn x inner n operator.Xor) t vs rest (read.joined_by x inner n operator.Xor a) c (ap (λ z. read.another_turn x inner n z operator.Xor a) (true_same the_type _ _ i)) g l
    one_more {a = a} {rest = rest} (by_and_then {t = t} {u = u} {rest = vs} o p i j) c g l = comes_take (read.chain_turn x inner n operator.AndThen) t (u ∷ vs) rest (skip symbol.Then (read.joined_by x inner n operator.AndThen a)) c
        (ap (λ z. read.another_turn x inner n z operator.AndThen a) (true_same the_type _ _ i)) (got_skip symbol.Then (read.joined_by x inner n operator.AndThen a) u vs j g) (omega arith)
    one_more {a = a} {rest = rest} (by_or_else {t = t} {u = u} {rest = vs} o p i j) c g l = comes_take (read.chain_turn x inner n operator.OrElse) t (u ∷ vs) rest (skip symbol.Else (read.joined_by x inner n operator.OrElse a)) c
        (ap (λ z. read.another_turn x inner n z operator.OrElse a) (true_same the_type _ _ i)) (got_skip symbol.Else (read.joined_by x inner n operator.OrElse a) u vs j g) (omega arith)

    of_name : {a : Name} {t : Token} {us rest : Tokens} → opens x Objects ≡ true → IsName x a (t ∷ us) rest → Is symbol.Identifier t → read.name_by x inner n (t ∷ us) ≡ Got a rest
        → read.primary_by x inner n (t ∷ us) ≡ Got (named (name_pos a) a) rest
    of_name {a} {t} {us} {rest} o d i g = on_symbol Refuse (read.primary_turn x inner n) symbol.Identifier t us i
        ∙ (ap (λ b. turned (provided b (Look (read.name_by x inner n >>= λ z. got (named t.pos z)))) t us) o
        ∙ (got_then (λ z. named t.pos z) g ∙ ap (λ p. Got (named p a) rest) (sym (first_of_name x d))))

  -- the operator of a chain ends a relation
  ends_join : {op : LogicalOperator} {us vs : Tokens} → Joins x op us vs → Ends 3 us
  ends_join (by_and {t = t} {rest = vs} o i) = ends_at 3 symbol.And t vs i (omega arith)
  ends_join (by_or {t = t} {rest = vs} o i) = ends_at 3 symbol.Or t vs i (omega arith)
  ends_join (by_xor {t = t} {rest = vs} o i) = ends_at 3 symbol.Xor t vs i (omega arith)
  ends_join (by_and_then {t = t} {u = u} {rest = vs} o p i j) = ends_at 3 symbol.And t (u ∷ vs) i (omega arith)
  ends_join (by_or_else {t = t} {u = u} {rest = vs} o p i j) = ends_at 3 symbol.Or t (u ∷ vs) i (omega arith)

  -- what reading of at most this many tokens does, level by level
  abbrev Fact : Level → Expr → Tokens → Tokens → ℕ → Type 0
  Fact primary e ts rest m = Ends 0 rest → read.primary_by x (read.expr x m) (suc m) ts ≡ Got e rest
  Fact factor e ts rest m = Ends 0 rest → read.factor_by x (read.expr x m) (suc m) ts ≡ Got e rest
  Fact term e ts rest m = Ends 0 rest → Comes (read.product_turn x (read.expr x m) (suc m)) (read.term_by x (read.expr x m) (suc m) ts) e rest
  Fact signed e ts rest m = Ends 1 rest → read.signed_by x (read.expr x m) (suc m) ts ≡ Got e rest
  Fact sums e ts rest m = Ends 1 rest → Comes (read.sum_turn x (read.expr x m) (suc m)) (read.simple_by x (read.expr x m) (suc m) ts) e rest
  Fact related e ts rest m = Ends 3 rest → read.relation_by x (read.expr x m) (suc m) ts ≡ Got e rest
  Fact expression e ts rest m = Ends 4 rest → read.expression_by x (read.expr x m) (suc m) ts ≡ Got e rest

  pub inside : {e : Expr} (ts : Tokens) {rest : Tokens} → ((m : ℕ) → length ts ≤ m → Fact expression e ts rest m) → (m : ℕ) → length ts < m → Ends 4 rest → read.expr x m ts ≡ Got e rest
  inside ts f zero h e = absurd (omega arith)
  inside ts f (suc m) h e = f m (omega arith) e

  mutual
    pub complete : {l : Level} {e : Expr} {ts rest : Tokens} → IsExpr x l e ts rest → (m : ℕ) → length ts ≤ m → Fact l e ts rest m
    complete (a_numeral {t = t} {rest = rest} i) m h = λ ends. on_symbol Refuse (read.primary_turn x (read.expr x m) (suc m)) symbol.Numeral t rest i
    complete (a_name {n = a} {ts = ts} {rest = rest} o d) m h = λ ends.
        let f = name_first d in
        let g = comes_leave (read.suffix_turn x (read.expr x m) (suc m)) (complete_name d m h) (leaves_suffix m a rest ends) in
        subst (λ z. read.primary_by x (read.expr x m) (suc m) z ≡ Got (named (name_pos a) a) rest) (sym f.here)
        (of_name m o (subst (λ z. IsName x a z rest) f.here d) f.first (subst (λ z. read.name_by x (read.expr x m) (suc m) z ≡ Got a rest) f.here g))
    complete (in_parentheses {t = t} {u = u} {ts = ts} {rest = rest} o i d j) m h = λ ends.
        on_symbol Refuse (read.primary_turn x (read.expr x m) (suc m)) symbol.LeftParenthesis t ts i
        ∙ (ap (λ b. turned (provided b (Take (read.expr x m >>= λ e. skip symbol.RightParenthesis (got (parenthesized t.pos e))))) t ts) o
        ∙ got_closed (λ e. parenthesized t.pos e) symbol.RightParenthesis u (inside ts (complete d) m (omega arith) (ends_at 4 symbol.RightParenthesis u rest j (omega arith))) j)
    complete (a_primary d) m h = λ ends. factor_looks m (first_token d) ∙ complete d m h ends
    complete (an_abs {t = t} {ts = ts} o i d) m h = λ ends.
        on_symbol Refuse (read.factor_turn x (read.expr x m) (suc m)) symbol.Abs t ts i
        ∙ (ap (λ b. turned (provided b (Take (read.primary_by x (read.expr x m) (suc m) >>= λ e. got (unary t.pos unary_operator.Abs e)))) t ts) o
        ∙ got_then (λ e. unary t.pos unary_operator.Abs e) (complete d m (omega arith) ends))
    complete (a_not {t = t} {ts = ts} o i d) m h = λ ends.
        on_symbol Refuse (read.factor_turn x (read.expr x m) (suc m)) symbol.Not t ts i
        ∙ (ap (λ b. turned (provided b (Take (read.primary_by x (read.expr x m) (suc m) >>= λ e. got (unary t.pos unary_operator.Not e)))) t ts) o
        ∙ got_then (λ e. unary t.pos unary_operator.Not e) (complete d m (omega arith) ends))
    complete (a_factor d) m h = λ ends. record {
      turns = suc m;
      room = omega (arith, shorter x d);
      here = got_bind (repeat (read.product_turn x (read.expr x m) (suc m)) (suc m)) (complete d m h ends) refl;
    }
    complete (a_product {t = t} {op = op} {a = a} {us = us} {rest = rest} o d s p) m h = λ ends.
        comes_take (read.product_turn x (read.expr x m) (suc m)) t us rest (read.factor_by x (read.expr x m) (suc m) >>= λ b. got (binary (expr_pos a) a op b))
        (complete d m h (record { by = omega (arith, binds_multiplying (symbol_of t.lexeme) op s) }))
        (ap (λ z. read.operand_turn x (read.expr x m) (suc m) z (read.factor_by x (read.expr x m) (suc m)) a) s ∙ ap (λ b. provided b (Take (read.factor_by x (read.expr x m) (suc m) >>= λ b. got (binary (expr_pos a) a op b)))) o)
        (got_then (λ b. binary (expr_pos a) a op b) (complete p m (omega (arith, shorter x d)) ends)) (omega (arith, shorter x p))
    complete (a_term {e = e} {rest = rest} d) m h = λ ends.
        signed_looks m (first_token d) ∙ comes_leave (read.product_turn x (read.expr x m) (suc m)) (complete d m h (ends_less 0 (omega arith) ends)) (leaves_product m e rest ends)
    complete (a_signed_term {t = t} {op = op} {e = e} {ts = ts} {rest = rest} o s d) m h = λ ends.
        ap (λ z. turned (read.sign_turn x (read.expr x m) (suc m) z t) t ts) s
        ∙ (ap (λ b. turned (provided b (Take (read.term_by x (read.expr x m) (suc m) >>= λ a. got (unary t.pos op a)))) t ts) o
        ∙ got_then (λ a. unary t.pos op a) (comes_leave (read.product_turn x (read.expr x m) (suc m)) (complete d m (omega arith) (ends_less 0 (omega arith) ends)) (leaves_product m e rest ends)))
    complete (a_first_term d) m h = λ ends. record {
      turns = suc m;
      room = omega (arith, shorter x d);
      here = got_bind (repeat (read.sum_turn x (read.expr x m) (suc m)) (suc m)) (complete d m h ends) refl;
    }
    complete (a_sum {t = t} {op = op} {a = a} {b = b} {us = us} {rest = rest} o d s p) m h = λ ends.
        comes_take (read.sum_turn x (read.expr x m) (suc m)) t us rest (read.term_by x (read.expr x m) (suc m) >>= λ b. got (binary (expr_pos a) a op b))
        (complete d m h (record { by = omega (arith, binds_adding (symbol_of t.lexeme) op s) }))
        (ap (λ z. read.operand_turn x (read.expr x m) (suc m) z (read.term_by x (read.expr x m) (suc m)) a) s ∙ ap (λ b. provided b (Take (read.term_by x (read.expr x m) (suc m) >>= λ b. got (binary (expr_pos a) a op b)))) o)
        (got_then (λ b. binary (expr_pos a) a op b) (comes_leave (read.product_turn x (read.expr x m) (suc m)) (complete p m (omega (arith, shorter x d)) (ends_less 0 (omega arith) ends)) (leaves_product m b rest ends)))
        (omega (arith, shorter x p))
    complete (a_simple {e = e} {rest = rest} d) m h = λ ends.
        got_bind (read.relation_rest x (read.expr x m) (suc m))
        (comes_leave (read.sum_turn x (read.expr x m) (suc m)) (complete d m h (ends_less 1 (omega arith) ends)) (leaves_sum m e rest (ends_less 2 (omega arith) ends)))
        (relation_leaves m e rest ends)
    complete (a_relation {t = t} {op = op} {a = a} {b = b} {us = us} {rest = rest} o d s p) m h = λ ends.
        let at : Ends 2 (t ∷ us) = record { by = omega (arith, binds_relational (symbol_of t.lexeme) op s) } in
        got_bind (read.relation_rest x (read.expr x m) (suc m))
        (comes_leave (read.sum_turn x (read.expr x m) (suc m)) (complete d m h (ends_less 1 (omega arith) at)) (leaves_sum m a (t ∷ us) at))
        (ap (λ z. turned (read.relation_turn x (read.expr x m) (suc m) z a) t us) s
        ∙ (ap (λ b. turned (provided b (Take (read.simple_by x (read.expr x m) (suc m) >>= λ b. got (relation (expr_pos a) a op b)))) t us) o
        ∙ got_then (λ b. relation (expr_pos a) a op b)
        (comes_leave (read.sum_turn x (read.expr x m) (suc m)) (complete p m (omega (arith, shorter x d)) (ends_less 1 (omega arith) ends)) (leaves_sum m b rest (ends_less 2 (omega arith) ends)))))
    complete (a_single {e = e} {rest = rest} d) m h = λ ends.
        got_bind (read.logical_rest x (read.expr x m) (suc m)) (complete d m h (ends_less 3 (omega arith) ends)) (logical_leaves m e rest ends)
    complete (a_chain {op = op} {e = e} {rest = rest} c) m h = λ ends.
        comes_leave (read.chain_turn x (read.expr x m) (suc m) op) (complete_chain c m h (ends_less 3 (omega arith) ends)) (leaves_chain m op e rest ends)

    complete_chain : {op : LogicalOperator} {e : Expr} {ts rest : Tokens} → IsChain x op e ts rest → (m : ℕ) → length ts ≤ m → Ends 3 rest
        → Comes (read.chain_turn x (read.expr x m) (suc m) op) (read.expression_by x (read.expr x m) (suc m) ts) e rest
    complete_chain (a_pair {op = op} {a = a} d j p) m h ends = record {
      turns = suc m;
      room = omega (arith, shorter x d, joins_shorter x j, shorter x p);
      here =
          got_bind (read.logical_rest x (read.expr x m) (suc m)) (complete d m h (ends_join j))
          (after_join m a j (first_token p)
          ∙ got_bind (repeat (read.chain_turn x (read.expr x m) (suc m) op) (suc m)) (got_then (λ b. logical (expr_pos a) a op b) (complete p m (omega (arith, shorter x d, joins_shorter x j)) ends)) refl);
    }
    complete_chain (a_longer {op = op} {a = a} c j p) m h ends =
        one_more m j (complete_chain c m h (ends_join j)) (got_then (λ b. logical (expr_pos a) a op b) (complete p m (omega (arith, chain_shorter x c, joins_shorter x j)) ends)) (omega (arith, shorter x p))

    pub complete_name : {a : Name} {ts rest : Tokens} → IsName x a ts rest → (m : ℕ) → length ts ≤ m → Comes (read.suffix_turn x (read.expr x m) (suc m)) (read.name_by x (read.expr x m) (suc m) ts) a rest
    complete_name (an_identifier {t = t} {rest = rest} i) m h = record {
      turns = suc m;
      room = omega arith;
      here = got_bind (λ z. repeat (read.suffix_turn x (read.expr x m) (suc m)) (suc m) (simple (identifier_of z))) (got_expect symbol.Identifier t rest i) refl;
    }
    complete_name (a_selection {t = t} {u = u} {n = a} {rest = rest} d i j) m h =
        comes_take (read.suffix_turn x (read.expr x m) (suc m)) t (u ∷ rest) rest (expect symbol.Identifier >>= λ z. got (selected a (identifier_of z))) (complete_name d m h)
        (ap (λ z. read.suffix_turn x (read.expr x m) (suc m) z t a) i) (got_then (λ z. selected a (identifier_of z)) (got_expect symbol.Identifier u rest j)) (omega arith)
    complete_name (an_attribute {t = t} {u = u} {n = a} {rest = rest} o d i j) m h =
        comes_take (read.suffix_turn x (read.expr x m) (suc m)) t (u ∷ rest) rest (expect symbol.Identifier >>= λ z. got (attribute a (identifier_of z))) (complete_name d m h)
        (ap (λ z. read.suffix_turn x (read.expr x m) (suc m) z t a) i ∙ ap (λ b. provided b (Take (expect symbol.Identifier >>= λ z. got (attribute a (identifier_of z))))) o)
        (got_then (λ z. attribute a (identifier_of z)) (got_expect symbol.Identifier u rest j)) (omega arith)
    complete_name (an_application {t = t} {u = u} {n = a} {es = es} {us = us} {rest = rest} d i l j) m h =
        comes_take (read.suffix_turn x (read.expr x m) (suc m)) t us rest (read.exprs_by x (read.expr x m) (suc m) >>= λ zs. skip symbol.RightParenthesis (got (applied a (exprs_of zs)))) (complete_name d m h)
        (ap (λ z. read.suffix_turn x (read.expr x m) (suc m) z t a) i)
        (got_closed (λ zs. applied a (exprs_of zs)) symbol.RightParenthesis u
        (comes_leave (read.comma_turn x (read.expr x m) (suc m)) (complete_exprs l m (omega (arith, name_shorter x d)) (ends_at 4 symbol.RightParenthesis u rest j (omega arith))) (ap (λ z. read.comma_turn x (read.expr x m) (suc m) z u es) j))
        j)
        (omega (arith, exprs_shorter x l))

    pub complete_exprs : {es : List Expr} {ts rest : Tokens} → AreExprs x es ts rest → (m : ℕ) → length ts < m → Ends 4 rest → Comes (read.comma_turn x (read.expr x m) (suc m)) (read.exprs_by x (read.expr x m) (suc m) ts) es rest
    complete_exprs (one_expr {e = e} {ts = ts} d) m h ends = record {
      turns = suc m;
      room = omega (arith, shorter x d);
      here = got_bind (λ z. repeat (read.comma_turn x (read.expr x m) (suc m)) (suc m) (z ∷ [])) (inside ts (complete d) m h ends) refl;
    }
    complete_exprs (more_exprs {t = t} {es = es} {us = us} {rest = rest} l i d) m h ends =
        comes_take (read.comma_turn x (read.expr x m) (suc m)) t us rest (read.expr x m >>= λ z. got (es ++ z ∷ [])) (complete_exprs l m h (ends_at 4 symbol.Comma t us i (omega arith)))
        (ap (λ z. read.comma_turn x (read.expr x m) (suc m) z t es) i) (got_then (λ z. es ++ z ∷ []) (inside us (complete d) m (omega (arith, exprs_shorter x l)) ends)) (omega (arith, shorter x d))

  pub expr_complete : {e : Expr} {ts rest : Tokens} → IsExpr x expression e ts rest → (m : ℕ) → length ts < m → Ends 4 rest → read.expr x m ts ≡ Got e rest
  expr_complete {e} {ts} {rest} d m h ends = inside ts (complete d) m h ends
