-- The levels of an expression, as the code reads them.
use Rattle.std.proofs.Common.{◌≡◌, ℕ, zero, suc, ◌<◌, true, false, List, [], ◌∷◌, ◌++◌, length, Option, Some, None, refl, ap, sym, ◌∙◌, subst, arith}
use denote.Enum.Bare.{true_same}
use Rattle.ada_lexer.specs.declared.token.Token.{Token}
use Rattle.ada_syntax.specs.Tree.{Expr, numeral, named, parenthesized, unary, binary, relation, logical, expr_pos, Name}
use Rattle.ada_syntax.specs.TreeView.{with_operands, joined}
use Rattle.ada_syntax.specs.declared.expr.Operand.{Operand}
use Rattle.ada_syntax.specs.declared.expr.UnaryOperator.{UnaryOperator}
use Rattle.ada_syntax.specs.declared.expr.UnaryOperator.TheVariants as unary_operator
use Rattle.ada_syntax.specs.declared.expr.BinaryOperator.{BinaryOperator}
use Rattle.ada_syntax.specs.declared.expr.RelationalOperator.{RelationalOperator}
use Rattle.ada_syntax.specs.declared.expr.LogicalOperator.{LogicalOperator}
use Rattle.ada_syntax.proofs.Places.{expr_pos-with_operands, expr_pos-joined, with_operands-push, joined-push}
use Rattle.expression_parser.specs.declared.symbol.Symbol.{Symbol}
use Rattle.expression_parser.specs.declared.symbol.Symbol.TheVariants as symbol
use Rattle.expression_parser.specs.contracts.symbol.Symbol.{the_type}
use Rattle.expression_parser.specs.declared.extent.Extent.{Extent}
use Rattle.expression_parser.specs.declared.extent.Extent.TheVariants.{Objects, Decisions}
use Rattle.expression_parser.specs.Symbols.{symbol_of, Is, value_of, sign_of, multiplying, adding, relational_of, first_word}
use Rattle.expression_parser.specs.Extents.{opens}
use Rattle.expression_parser.specs.Reading.{Tokens, Reading, Reader, Got, Stuck, Turn, Refuse, Take, Look, got, goes_on, ◌>>=◌, turned, provided, expect, skip, repeat}
use Rattle.expression_parser.specs.ExpressionReading as read
use Rattle.expression_parser.specs.Depth as at
use Rattle.expression_parser.specs.Shows.{Reads, More, Skipped, after}
use Rattle.expression_parser.specs.Operators.{next_operator, Operates, IsClosed, Joint, HalfJoint, Chains}
use Rattle.expression_parser.proofs.Comes.{got_bind, got_then, on_symbol}
use Rattle.expression_parser.proofs.Loops.{more_end, more_leave, more_refuse, more_take, more_take_stuck}
use Rattle.expression_parser.proofs.NameCode.{after_some, after_none}

module _ (x : Extent) where
  -- what stands in parentheses is one deeper
  inner_at : (us : Tokens) (q : Reading Expr) → Reads (at.at_expr x) us q → (m : ℕ) → length us < m → read.expr x m us ≡ q
  inner_at us q r zero h = absurd (omega arith)
  inner_at us q r (suc m) h = r.by m (omega arith)

  -- primaries
  abbrev primary_on : ℕ → Symbol → Token → Turn Expr
  primary_on m = read.primary_turn x (read.expr x m) (suc m)

  abbrev closes : Token → Expr → Reader Expr
  closes t e = skip symbol.RightParenthesis (got (parenthesized t.pos e))

  pub no_primary : Reads (at.at_primary x) [] (Stuck [])
  no_primary = record { by = λ m h. refl }

  pub primary_numeral : (t : Token) (us : Tokens) → Is symbol.Numeral t → Reads (at.at_primary x) (t ∷ us) (Got (numeral t.pos (value_of t.lexeme)) us)
  primary_numeral t us i = record { by = λ m h. on_symbol Refuse (primary_on m) symbol.Numeral t us i }

  named_turn : (t : Token) (us : Tokens) (b : _) → Is symbol.Identifier t → opens x Objects ≡ b → (m : ℕ) → at.at_primary x m (t ∷ us) ≡ turned (provided b (Look (at.at_name x m >>= λ n. got (named t.pos n)))) t us
  named_turn t us b i o m = on_symbol Refuse (primary_on m) symbol.Identifier t us i ∙ ap (λ b. turned (provided b (Look (at.at_name x m >>= λ n. got (named t.pos n)))) t us) o

  pub primary_name : (t : Token) (us rest : Tokens) (n : Name) → Is symbol.Identifier t → opens x Objects ≡ true → Reads (at.at_name x) (t ∷ us) (Got n rest) → Reads (at.at_primary x) (t ∷ us) (Got (named t.pos n) rest)
  primary_name t us rest n i o r = record { by = λ m h. named_turn t us true i o m ∙ got_then (λ z. named t.pos z) (r.by m h) }

  pub primary_name_fail : (t : Token) (us rest : Tokens) → Is symbol.Identifier t → opens x Objects ≡ true → Reads (at.at_name x) (t ∷ us) (Stuck rest) → Reads (at.at_primary x) (t ∷ us) (Stuck rest)
  primary_name_fail t us rest i o r = record { by = λ m h. named_turn t us true i o m ∙ ap (goes_on (λ z. got (named t.pos z))) (r.by m h) }

  pub primary_name_closed : (t : Token) (us : Tokens) → Is symbol.Identifier t → opens x Objects ≡ false → Reads (at.at_primary x) (t ∷ us) (Stuck (t ∷ us))
  primary_name_closed t us i o = record { by = λ m h. named_turn t us false i o m }

  inner_turn : (t : Token) (us : Tokens) (b : _) → Is symbol.LeftParenthesis t → opens x Objects ≡ b → (m : ℕ) → at.at_primary x m (t ∷ us) ≡ turned (provided b (Take (read.expr x m >>= closes t))) t us
  inner_turn t us b i o m = on_symbol Refuse (primary_on m) symbol.LeftParenthesis t us i ∙ ap (λ b. turned (provided b (Take (read.expr x m >>= closes t))) t us) o

  pub primary_inner : (t : Token) (us vs rest : Tokens) (e : Expr) → Is symbol.LeftParenthesis t → opens x Objects ≡ true → Reads (at.at_expr x) us (Got e vs) → Skipped symbol.RightParenthesis vs rest → Reads (at.at_primary x) (t ∷ us) (Got (parenthesized t.pos e) rest)
  primary_inner t us vs rest e i o r k = record { by = λ m h. inner_turn t us true i o m ∙ got_bind (closes t) (inner_at us (Got e vs) r m (omega arith)) (got_bind (λ _. got (parenthesized t.pos e)) k.here refl) }

  pub primary_inner_fail : (t : Token) (us rest : Tokens) → Is symbol.LeftParenthesis t → opens x Objects ≡ true → Reads (at.at_expr x) us (Stuck rest) → Reads (at.at_primary x) (t ∷ us) (Stuck rest)
  primary_inner_fail t us rest i o r = record { by = λ m h. inner_turn t us true i o m ∙ ap (goes_on (closes t)) (inner_at us (Stuck rest) r m (omega arith)) }

  pub primary_open : (t : Token) (us vs rest : Tokens) (e : Expr) → Is symbol.LeftParenthesis t → opens x Objects ≡ true → Reads (at.at_expr x) us (Got e vs) → expect symbol.RightParenthesis vs ≡ Stuck rest → Reads (at.at_primary x) (t ∷ us) (Stuck rest)
  primary_open t us vs rest e i o r k = record { by = λ m h. inner_turn t us true i o m ∙ got_bind (closes t) (inner_at us (Got e vs) r m (omega arith)) (ap (goes_on (λ _. got (parenthesized t.pos e))) k) }

  pub primary_inner_closed : (t : Token) (us : Tokens) → Is symbol.LeftParenthesis t → opens x Objects ≡ false → Reads (at.at_primary x) (t ∷ us) (Stuck (t ∷ us))
  primary_inner_closed t us i o = record { by = λ m h. inner_turn t us false i o m }

  other_primary : (m : ℕ) (s : Symbol) (t : Token) → (s ≡ symbol.Numeral → ⊥) → (s ≡ symbol.Identifier → ⊥) → (s ≡ symbol.LeftParenthesis → ⊥) → primary_on m s t ≡ Refuse
  other_primary m symbol.Numeral t a b c = absurd (a refl)
  other_primary m symbol.Identifier t a b c = absurd (b refl)
  other_primary m symbol.LeftParenthesis t a b c = absurd (c refl)
  other_primary m _ t a b c = refl

  pub primary_other : (t : Token) (us : Tokens) → (symbol_of t.lexeme ≡ symbol.Numeral → ⊥) → (symbol_of t.lexeme ≡ symbol.Identifier → ⊥) → (symbol_of t.lexeme ≡ symbol.LeftParenthesis → ⊥) → Reads (at.at_primary x) (t ∷ us) (Stuck (t ∷ us))
  primary_other t us a b c = record { by = λ m h. ap (λ z. turned z t us) (other_primary m (symbol_of t.lexeme) t a b c) }

  -- factors
  abbrev factor_on : ℕ → Symbol → Token → Turn Expr
  factor_on m = read.factor_turn x (read.expr x m) (suc m)

  abbrev applies : ℕ → Token → UnaryOperator → Reader Expr
  applies m t op = at.at_primary x m >>= λ e. got (unary t.pos op e)

  pub no_factor : Reads (at.at_factor x) [] (Stuck [])
  no_factor = record { by = λ m h. refl }

  abs_turn : (t : Token) (us : Tokens) (b : _) → Is symbol.Abs t → opens x Objects ≡ b → (m : ℕ) → at.at_factor x m (t ∷ us) ≡ turned (provided b (Take (applies m t unary_operator.Abs))) t us
  abs_turn t us b i o m = on_symbol Refuse (factor_on m) symbol.Abs t us i ∙ ap (λ b. turned (provided b (Take (applies m t unary_operator.Abs))) t us) o

  not_turn : (t : Token) (us : Tokens) (b : _) → Is symbol.Not t → opens x Decisions ≡ b → (m : ℕ) → at.at_factor x m (t ∷ us) ≡ turned (provided b (Take (applies m t unary_operator.Not))) t us
  not_turn t us b i o m = on_symbol Refuse (factor_on m) symbol.Not t us i ∙ ap (λ b. turned (provided b (Take (applies m t unary_operator.Not))) t us) o

  pub factor_abs : (t : Token) (us rest : Tokens) (e : Expr) → Is symbol.Abs t → opens x Objects ≡ true → Reads (at.at_primary x) us (Got e rest) → Reads (at.at_factor x) (t ∷ us) (Got (unary t.pos unary_operator.Abs e) rest)
  factor_abs t us rest e i o r = record { by = λ m h. abs_turn t us true i o m ∙ got_then (λ z. unary t.pos unary_operator.Abs z) (r.by m (omega arith)) }

  pub factor_abs_fail : (t : Token) (us rest : Tokens) → Is symbol.Abs t → opens x Objects ≡ true → Reads (at.at_primary x) us (Stuck rest) → Reads (at.at_factor x) (t ∷ us) (Stuck rest)
  factor_abs_fail t us rest i o r = record { by = λ m h. abs_turn t us true i o m ∙ ap (goes_on (λ z. got (unary t.pos unary_operator.Abs z))) (r.by m (omega arith)) }

  pub factor_abs_closed : (t : Token) (us : Tokens) → Is symbol.Abs t → opens x Objects ≡ false → Reads (at.at_factor x) (t ∷ us) (Stuck (t ∷ us))
  factor_abs_closed t us i o = record { by = λ m h. abs_turn t us false i o m }

  pub factor_not : (t : Token) (us rest : Tokens) (e : Expr) → Is symbol.Not t → opens x Decisions ≡ true → Reads (at.at_primary x) us (Got e rest) → Reads (at.at_factor x) (t ∷ us) (Got (unary t.pos unary_operator.Not e) rest)
  factor_not t us rest e i o r = record { by = λ m h. not_turn t us true i o m ∙ got_then (λ z. unary t.pos unary_operator.Not z) (r.by m (omega arith)) }

  pub factor_not_fail : (t : Token) (us rest : Tokens) → Is symbol.Not t → opens x Decisions ≡ true → Reads (at.at_primary x) us (Stuck rest) → Reads (at.at_factor x) (t ∷ us) (Stuck rest)
  factor_not_fail t us rest i o r = record { by = λ m h. not_turn t us true i o m ∙ ap (goes_on (λ z. got (unary t.pos unary_operator.Not z))) (r.by m (omega arith)) }

  pub factor_not_closed : (t : Token) (us : Tokens) → Is symbol.Not t → opens x Decisions ≡ false → Reads (at.at_factor x) (t ∷ us) (Stuck (t ∷ us))
  factor_not_closed t us i o = record { by = λ m h. not_turn t us false i o m }

  other_factor : (m : ℕ) (s : Symbol) (t : Token) → (s ≡ symbol.Abs → ⊥) → (s ≡ symbol.Not → ⊥) → factor_on m s t ≡ Look (at.at_primary x m)
  other_factor m symbol.Abs t a b = absurd (a refl)
  other_factor m symbol.Not t a b = absurd (b refl)
  other_factor m _ t a b = refl

  pub factor_primary : (t : Token) (us : Tokens) (q : Reading Expr) → (symbol_of t.lexeme ≡ symbol.Abs → ⊥) → (symbol_of t.lexeme ≡ symbol.Not → ⊥) → Reads (at.at_primary x) (t ∷ us) q → Reads (at.at_factor x) (t ∷ us) q
  factor_primary t us q a b r = record { by = λ m h. ap (λ z. turned z t us) (other_factor m (symbol_of t.lexeme) t a b) ∙ r.by m h }

  -- operands of one level, with the operators of that level between them
  module _ (of : Symbol → Option BinaryOperator) (operand : ℕ → Reader Expr) where
    abbrev turns : ℕ → Symbol → Token → Expr → Turn Expr
    turns m found t a = read.operand_turn x (read.expr x m) (suc m) (of found) (operand m) a

    abbrev joins : BinaryOperator → Expr → ℕ → Reader Expr
    joins op a m = operand m >>= λ b. got (binary (expr_pos a) a op b)

    operand_on : (b : _) (t : Token) (op : BinaryOperator) (a : Expr) → of (symbol_of t.lexeme) ≡ Some op → opens x Objects ≡ b → (m : ℕ) → turns m (symbol_of t.lexeme) t a ≡ provided b (Take (joins op a m))
    operand_on b t op a i o m = ap (λ z. read.operand_turn x (read.expr x m) (suc m) z (operand m) a) i ∙ ap (λ b. provided b (Take (joins op a m))) o

    step : (ts us rest : Tokens) (op : BinaryOperator) (a b : Expr) → Operates of x Objects ts us op → Reads operand us (Got b rest) → length rest < length us → (q : Reading Expr) → More turns rest (binary (expr_pos a) a op b) q → More turns ts a q
    step ts us rest op a b o r l q f = rw o.here
        (more_take turns a (binary (expr_pos a) a op b) o.t us rest (joins op a) q (operand_on true o.t op a o.is o.opened) (λ m h. got_then (λ z. binary (expr_pos a) a op z) (r.by m (omega arith))) (omega arith) f)

    push : (ts us rest : Tokens) (a : Expr) (os : List Operand) (o : Operand) → Operates of x Objects ts us o.operator → Reads operand us (Got o.operand rest) → length rest < length us → (q : Reading Expr)
        → More turns rest (with_operands (expr_pos a) a (os ++ o ∷ [])) q → More turns ts (with_operands (expr_pos a) a os) q
    push ts us rest a os o h r l q f =
        let e = with_operands (expr_pos a) a os in
        step ts us rest o.operator e o.operand h r l q
        (subst (λ z. More turns rest z q) (with_operands-push (expr_pos a) a os o ∙ ap (λ p. binary p e o.operator o.operand) (sym (expr_pos-with_operands (expr_pos a) a os refl))) f)

    step_fail : (ts us rest : Tokens) (op : BinaryOperator) (a : Expr) → Operates of x Objects ts us op → Reads operand us (Stuck rest) → More turns ts a (Stuck rest)
    step_fail ts us rest op a o r = rw o.here
        (more_take_stuck turns a o.t us rest (joins op a) (operand_on true o.t op a o.is o.opened) (λ m h. ap (goes_on (λ z. got (binary (expr_pos a) a op z))) (r.by m (omega arith))))

    ends : (ts : Tokens) (a : Expr) → next_operator of ts ≡ None → More turns ts a (Got a ts)
    ends [] a h = more_end turns a
    ends (t ∷ us) a h = more_leave turns a t us (λ m. ap (λ z. read.operand_turn x (read.expr x m) (suc m) z (operand m) a) h)

    closed : (ts rest : Tokens) (a : Expr) → IsClosed of x Objects ts rest → More turns ts a (Stuck rest)
    closed ts rest a c = rw c.place (rw c.here (more_refuse turns a c.t c.us (operand_on false c.t c.op a c.is c.closed)))

    begin : (ts rest : Tokens) (a : Expr) (first : ℕ → Reader Expr) → Reads first ts (Got a rest) → length rest < length ts → (q : Reading Expr) → More turns rest a q → Reads (λ m. first m >>= repeat (turns m) (suc m)) ts q
    begin ts rest a first r l q f = record { by = λ m h. got_bind (repeat (turns m) (suc m)) (r.by m h) (f.by m (suc m) (omega arith) (omega arith)) }

    fail : (ts rest : Tokens) (first : ℕ → Reader Expr) → Reads first ts (Stuck rest) → Reads (λ m. first m >>= repeat (turns m) (suc m)) ts (Stuck rest)
    fail ts rest first r = record { by = λ m h. ap (goes_on (repeat (turns m) (suc m))) (r.by m h) }

  -- terms
  pub term_begin : (ts rest : Tokens) (a : Expr) → Reads (at.at_factor x) ts (Got a rest) → length rest < length ts → (q : Reading Expr) → More (at.product_turns x) rest a q → Reads (at.at_term x) ts q
  term_begin ts rest a r l q f = begin multiplying (at.at_factor x) ts rest a (at.at_factor x) r l q f

  pub term_fail : (ts rest : Tokens) → Reads (at.at_factor x) ts (Stuck rest) → Reads (at.at_term x) ts (Stuck rest)
  term_fail ts rest r = fail multiplying (at.at_factor x) ts rest (at.at_factor x) r

  pub product_push : (ts us rest : Tokens) (a : Expr) (os : List Operand) (o : Operand) → Operates multiplying x Objects ts us o.operator → Reads (at.at_factor x) us (Got o.operand rest) → length rest < length us → (q : Reading Expr)
      → More (at.product_turns x) rest (with_operands (expr_pos a) a (os ++ o ∷ [])) q → More (at.product_turns x) ts (with_operands (expr_pos a) a os) q
  product_push ts us rest a os o h r l q f = push multiplying (at.at_factor x) ts us rest a os o h r l q f

  pub product_fail : (ts us rest : Tokens) (op : BinaryOperator) (a : Expr) → Operates multiplying x Objects ts us op → Reads (at.at_factor x) us (Stuck rest) → More (at.product_turns x) ts a (Stuck rest)
  product_fail ts us rest op a o r = step_fail multiplying (at.at_factor x) ts us rest op a o r

  pub product_end : (ts : Tokens) (a : Expr) → next_operator multiplying ts ≡ None → More (at.product_turns x) ts a (Got a ts)
  product_end ts a h = ends multiplying (at.at_factor x) ts a h

  pub product_closed : (ts rest : Tokens) (a : Expr) → IsClosed multiplying x Objects ts rest → More (at.product_turns x) ts a (Stuck rest)
  product_closed ts rest a c = closed multiplying (at.at_factor x) ts rest a c

  -- signs
  abbrev signs : ℕ → Token → UnaryOperator → Reader Expr
  signs m t op = at.at_term x m >>= λ e. got (unary t.pos op e)

  sign_on : (t : Token) (us : Tokens) (op : UnaryOperator) (b : _) → sign_of (symbol_of t.lexeme) ≡ Some op → opens x Objects ≡ b → (m : ℕ) → at.at_signed x m (t ∷ us) ≡ turned (provided b (Take (signs m t op))) t us
  sign_on t us op b i o m = ap (λ z. turned (read.sign_turn x (read.expr x m) (suc m) z t) t us) i ∙ ap (λ b. turned (provided b (Take (signs m t op))) t us) o

  pub no_signed : Reads (at.at_signed x) [] (Stuck [])
  no_signed = record { by = λ m h. refl }

  pub signed_sign : (t : Token) (us rest : Tokens) (op : UnaryOperator) (e : Expr) → sign_of (symbol_of t.lexeme) ≡ Some op → opens x Objects ≡ true → Reads (at.at_term x) us (Got e rest) → Reads (at.at_signed x) (t ∷ us) (Got (unary t.pos op e) rest)
  signed_sign t us rest op e i o r = record { by = λ m h. sign_on t us op true i o m ∙ got_then (λ z. unary t.pos op z) (r.by m (omega arith)) }

  pub signed_fail : (t : Token) (us rest : Tokens) (op : UnaryOperator) → sign_of (symbol_of t.lexeme) ≡ Some op → opens x Objects ≡ true → Reads (at.at_term x) us (Stuck rest) → Reads (at.at_signed x) (t ∷ us) (Stuck rest)
  signed_fail t us rest op i o r = record { by = λ m h. sign_on t us op true i o m ∙ ap (goes_on (λ z. got (unary t.pos op z))) (r.by m (omega arith)) }

  pub signed_closed : (t : Token) (us : Tokens) (op : UnaryOperator) → sign_of (symbol_of t.lexeme) ≡ Some op → opens x Objects ≡ false → Reads (at.at_signed x) (t ∷ us) (Stuck (t ∷ us))
  signed_closed t us op i o = record { by = λ m h. sign_on t us op false i o m }

  pub signed_term : (t : Token) (us : Tokens) (q : Reading Expr) → sign_of (symbol_of t.lexeme) ≡ None → Reads (at.at_term x) (t ∷ us) q → Reads (at.at_signed x) (t ∷ us) q
  signed_term t us q i r = record { by = λ m h. ap (λ z. turned (read.sign_turn x (read.expr x m) (suc m) z t) t us) i ∙ r.by m h }

  -- sums
  pub simple_begin : (ts rest : Tokens) (a : Expr) → Reads (at.at_signed x) ts (Got a rest) → length rest < length ts → (q : Reading Expr) → More (at.sum_turns x) rest a q → Reads (at.at_simple x) ts q
  simple_begin ts rest a r l q f = begin adding (at.at_term x) ts rest a (at.at_signed x) r l q f

  pub simple_fail : (ts rest : Tokens) → Reads (at.at_signed x) ts (Stuck rest) → Reads (at.at_simple x) ts (Stuck rest)
  simple_fail ts rest r = fail adding (at.at_term x) ts rest (at.at_signed x) r

  pub sum_push : (ts us rest : Tokens) (a : Expr) (os : List Operand) (o : Operand) → Operates adding x Objects ts us o.operator → Reads (at.at_term x) us (Got o.operand rest) → length rest < length us → (q : Reading Expr)
      → More (at.sum_turns x) rest (with_operands (expr_pos a) a (os ++ o ∷ [])) q → More (at.sum_turns x) ts (with_operands (expr_pos a) a os) q
  sum_push ts us rest a os o h r l q f = push adding (at.at_term x) ts us rest a os o h r l q f

  pub sum_fail : (ts us rest : Tokens) (op : BinaryOperator) (a : Expr) → Operates adding x Objects ts us op → Reads (at.at_term x) us (Stuck rest) → More (at.sum_turns x) ts a (Stuck rest)
  sum_fail ts us rest op a o r = step_fail adding (at.at_term x) ts us rest op a o r

  pub sum_end : (ts : Tokens) (a : Expr) → next_operator adding ts ≡ None → More (at.sum_turns x) ts a (Got a ts)
  sum_end ts a h = ends adding (at.at_term x) ts a h

  pub sum_closed : (ts rest : Tokens) (a : Expr) → IsClosed adding x Objects ts rest → More (at.sum_turns x) ts a (Stuck rest)
  sum_closed ts rest a c = closed adding (at.at_term x) ts rest a c

  -- relations
  abbrev relates : ℕ → RelationalOperator → Expr → Reader Expr
  relates m op a = at.at_simple x m >>= λ b. got (relation (expr_pos a) a op b)

  abbrev relation_after : ℕ → Expr → Reader Expr
  relation_after m = read.relation_rest x (read.expr x m) (suc m)

  relation_on : (ts us : Tokens) (t : Token) (op : RelationalOperator) (a : Expr) (b : _) → ts ≡ t ∷ us → relational_of (symbol_of t.lexeme) ≡ Some op → opens x Decisions ≡ b → (m : ℕ) → relation_after m a ts ≡ turned (provided b (Take (relates m op a))) t us
  relation_on ts us t op a b e i o m = ap (relation_after m a) e ∙ (ap (λ z. turned (read.relation_turn x (read.expr x m) (suc m) z a) t us) i ∙ ap (λ b. turned (provided b (Take (relates m op a))) t us) o)

  relation_ends : (us : Tokens) (a : Expr) → next_operator relational_of us ≡ None → (m : ℕ) → relation_after m a us ≡ Got a us
  relation_ends [] a h m = refl
  relation_ends (t ∷ us) a h m = ap (λ z. turned (read.relation_turn x (read.expr x m) (suc m) z a) t us) h

  pub relation_fail : (ts rest : Tokens) → Reads (at.at_simple x) ts (Stuck rest) → Reads (at.at_relation x) ts (Stuck rest)
  relation_fail ts rest r = record { by = λ m h. ap (goes_on (relation_after m)) (r.by m h) }

  pub relation_one : (ts us : Tokens) (a : Expr) → Reads (at.at_simple x) ts (Got a us) → next_operator relational_of us ≡ None → Reads (at.at_relation x) ts (Got a us)
  relation_one ts us a r h = record { by = λ m l. got_bind (relation_after m) (r.by m l) (relation_ends us a h m) }

  pub relation_closed : (ts us rest : Tokens) (a : Expr) → Reads (at.at_simple x) ts (Got a us) → IsClosed relational_of x Decisions us rest → Reads (at.at_relation x) ts (Stuck rest)
  relation_closed ts us rest a r c = record { by = λ m l. got_bind (relation_after m) (r.by m l) (relation_on us c.us c.t c.op a false c.here c.is c.closed m ∙ ap Stuck (sym c.here ∙ sym c.place)) }

  pub relation_two : (ts us vs rest : Tokens) (a b : Expr) (op : RelationalOperator) → Reads (at.at_simple x) ts (Got a us) → length us < length ts → Operates relational_of x Decisions us vs op → Reads (at.at_simple x) vs (Got b rest)
      → Reads (at.at_relation x) ts (Got (relation (expr_pos a) a op b) rest)
  relation_two ts us vs rest a b op r l o s = record { by = λ m h. got_bind (relation_after m) (r.by m h) (relation_on us vs o.t op a true o.here o.is o.opened m ∙ got_then (λ z. relation (expr_pos a) a op z) (s.by m (omega (arith, ap length o.here)))) }

  pub relation_second_fail : (ts us vs rest : Tokens) (a : Expr) (op : RelationalOperator) → Reads (at.at_simple x) ts (Got a us) → length us < length ts → Operates relational_of x Decisions us vs op → Reads (at.at_simple x) vs (Stuck rest)
      → Reads (at.at_relation x) ts (Stuck rest)
  relation_second_fail ts us vs rest a op r l o s = record { by = λ m h. got_bind (relation_after m) (r.by m h) (relation_on us vs o.t op a true o.here o.is o.opened m ∙ ap (goes_on (λ z. got (relation (expr_pos a) a op z))) (s.by m (omega (arith, ap length o.here)))) }

  -- chains of relations
  abbrev links : LogicalOperator → Expr → ℕ → Reader Expr
  links op a m = read.joined_by x (read.expr x m) (suc m) op a

  pub chain_begin : (op : LogicalOperator) (ts rest : Tokens) (a b : Expr) → Reads (at.at_relation x) ts (Got b rest) → length rest < length ts → (q : Reading Expr) → More (at.chain_turns x op) rest (logical (expr_pos a) a op b) q → Reads (at.at_chain x op a) ts q
  chain_begin op ts rest a b r l q f = record { by = λ m h. got_bind (repeat (at.chain_turns x op m) (suc m)) (got_then (λ z. logical (expr_pos a) a op z) (r.by m h)) (f.by m (suc m) (omega arith) (omega arith)) }

  pub chain_fail : (op : LogicalOperator) (ts rest : Tokens) (a : Expr) → Reads (at.at_relation x) ts (Stuck rest) → Reads (at.at_chain x op a) ts (Stuck rest)
  chain_fail op ts rest a r = record { by = λ m h. ap (λ z. goes_on (repeat (at.chain_turns x op m) (suc m)) (goes_on (λ z. got (logical (expr_pos a) a op z)) z)) (r.by m h) }

  abbrev linked : LogicalOperator → Expr → ℕ → Reader Expr
  linked op a m = read.second_word x (read.expr x m) (suc m) op (links op a m)

  chain_on : (op : LogicalOperator) (t : Token) (a : Expr) → Is (first_word op) t → (m : ℕ) → at.chain_turns x op m (symbol_of t.lexeme) t a ≡ Take (linked op a m)
  chain_on op t a i m = ap (λ b. read.another_turn x (read.expr x m) (suc m) b op a) (true_same the_type (symbol_of t.lexeme) (first_word op) i)

  chain_step : (op : LogicalOperator) (ts us rest : Tokens) (a b : Expr) → Joint x op ts us → Reads (at.at_relation x) us (Got b rest) → length rest < length us → (q : Reading Expr) → More (at.chain_turns x op) rest (logical (expr_pos a) a op b) q
      → More (at.chain_turns x op) ts a q
  chain_step op ts us rest a b j r l q f =
      let n = after_some (first_word op) ts j.us j.first in
      subst (λ z. More (at.chain_turns x op) z a q) (sym n.here)
      (more_take (at.chain_turns x op) a (logical (expr_pos a) a op b) n.t j.us rest (linked op a) q (chain_on op n.t a n.is)
      (λ m h. j.second m (links op a m) ∙ got_then (λ z. logical (expr_pos a) a op z) (r.by m (omega (arith, j.shorter, ap length n.here)))) (omega (arith, j.shorter, ap length n.here)) f)

  pub chain_push : (op : LogicalOperator) (ts us rest : Tokens) (a b : Expr) (bs : List Expr) → Joint x op ts us → Reads (at.at_relation x) us (Got b rest) → length rest < length us → (q : Reading Expr)
      → More (at.chain_turns x op) rest (joined (expr_pos a) op a (bs ++ b ∷ [])) q → More (at.chain_turns x op) ts (joined (expr_pos a) op a bs) q
  chain_push op ts us rest a b bs j r l q f =
      let e = joined (expr_pos a) op a bs in
      chain_step op ts us rest e b j r l q
      (subst (λ z. More (at.chain_turns x op) rest z q) (joined-push (expr_pos a) op a bs b ∙ ap (λ p. logical p e op b) (sym (expr_pos-joined (expr_pos a) op a bs refl))) f)

  pub chain_step_fail : (op : LogicalOperator) (ts us rest : Tokens) (a : Expr) → Joint x op ts us → Reads (at.at_relation x) us (Stuck rest) → More (at.chain_turns x op) ts a (Stuck rest)
  chain_step_fail op ts us rest a j r =
      let n = after_some (first_word op) ts j.us j.first in
      subst (λ z. More (at.chain_turns x op) z a (Stuck rest)) (sym n.here)
      (more_take_stuck (at.chain_turns x op) a n.t j.us rest (linked op a) (chain_on op n.t a n.is)
      (λ m h. j.second m (links op a m) ∙ ap (goes_on (λ z. got (logical (expr_pos a) a op z))) (r.by m (omega (arith, j.shorter, ap length n.here)))))

  pub chain_half : (op : LogicalOperator) (ts rest : Tokens) (a : Expr) → HalfJoint x op ts rest → More (at.chain_turns x op) ts a (Stuck rest)
  chain_half op ts rest a j =
      let n = after_some (first_word op) ts j.us j.first in
      subst (λ z. More (at.chain_turns x op) z a (Stuck rest)) (sym n.here)
      (more_take_stuck (at.chain_turns x op) a n.t j.us rest (linked op a) (chain_on op n.t a n.is) (λ m h. j.second m (links op a m)))

  pub chain_end : (op : LogicalOperator) (ts : Tokens) (a : Expr) → after (first_word op) ts ≡ None → More (at.chain_turns x op) ts a (Got a ts)
  chain_end op [] a h = more_end (at.chain_turns x op) a
  chain_end op (t ∷ us) a h = more_leave (at.chain_turns x op) a t us (λ m. ap (λ b. read.another_turn x (read.expr x m) (suc m) b op a) (after_none (first_word op) t us h).is_not)

  -- expressions
  pub expr_fail : (ts rest : Tokens) → Reads (at.at_relation x) ts (Stuck rest) → Reads (at.at_expr x) ts (Stuck rest)
  expr_fail ts rest r = record { by = λ m h. ap (goes_on (λ a. at.at_logical_rest x a m)) (r.by m h) }

  pub expr_single : (ts us : Tokens) (a : Expr) → Reads (at.at_relation x) ts (Got a us) → ((a : Expr) (m : ℕ) → at.at_logical_rest x a m us ≡ Got a us) → Reads (at.at_expr x) ts (Got a us)
  expr_single ts us a r e = record { by = λ m h. got_bind (λ a. at.at_logical_rest x a m) (r.by m h) (e a m) }

  pub expr_operator_fail : (ts us rest : Tokens) (a : Expr) → Reads (at.at_relation x) ts (Got a us) → ((a : Expr) (m : ℕ) → at.at_logical_rest x a m us ≡ Stuck rest) → Reads (at.at_expr x) ts (Stuck rest)
  expr_operator_fail ts us rest a r e = record { by = λ m h. got_bind (λ a. at.at_logical_rest x a m) (r.by m h) (e a m) }

  pub expr_chain : (ts us vs : Tokens) (a : Expr) (op : LogicalOperator) (q : Reading Expr) → Reads (at.at_relation x) ts (Got a us) → length us < length ts → Chains x op us vs → Reads (at.at_chain x op a) vs q → Reads (at.at_expr x) ts q
  expr_chain ts us vs a op q r l c s = record { by = λ m h. got_bind (λ a. at.at_logical_rest x a m) (r.by m h) (c.by a m ∙ s.by m (omega (arith, c.shorter))) }

pub ruleset primary_rules = (no_primary, primary_numeral, primary_name, primary_name_fail, primary_name_closed, primary_inner, primary_inner_fail, primary_open, primary_inner_closed, primary_other)

pub ruleset factor_rules = (no_factor, factor_abs, factor_abs_fail, factor_abs_closed, factor_not, factor_not_fail, factor_not_closed, factor_primary)

pub ruleset term_rules = (term_begin, term_fail, product_push, product_fail, product_end, product_closed)

pub ruleset signed_rules = (no_signed, signed_sign, signed_fail, signed_closed, signed_term)

pub ruleset simple_rules = (simple_begin, simple_fail, sum_push, sum_fail, sum_end, sum_closed)

pub ruleset relation_rules = (relation_fail, relation_one, relation_closed, relation_two, relation_second_fail)

pub ruleset chain_rules = (chain_begin, chain_fail, chain_push, chain_step_fail, chain_half, chain_end)

pub ruleset expr_rules = (expr_fail, expr_single, expr_operator_fail, expr_chain)
