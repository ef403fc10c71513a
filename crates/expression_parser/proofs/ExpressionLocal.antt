-- The reading of names and expressions depends on the tokens up to its place alone.
use Rattle.std.proofs.Common.{ℕ, zero, suc, Bool, true, false, List, [], ◌∷◌, ◌++◌, Option, Some, None}
use Rattle.ada_lexer.specs.declared.token.Token.{Token}
use Rattle.ada_syntax.specs.Tree.{Expr, named, parenthesized, unary, binary, relation, logical, expr_pos, Name, simple, selected, attribute, applied}
use Rattle.ada_syntax.specs.TreeView.{exprs_of}
use Rattle.ada_syntax.specs.declared.expr.UnaryOperator.{UnaryOperator}
use Rattle.ada_syntax.specs.declared.expr.UnaryOperator.TheVariants as unary_operator
use Rattle.ada_syntax.specs.declared.expr.BinaryOperator.{BinaryOperator}
use Rattle.ada_syntax.specs.declared.expr.RelationalOperator.{RelationalOperator}
use Rattle.ada_syntax.specs.declared.expr.LogicalOperator.{LogicalOperator}
use Rattle.ada_syntax.specs.declared.expr.LogicalOperator.TheVariants as operator
use Rattle.expression_parser.specs.declared.symbol.Symbol.{Symbol}
use Rattle.expression_parser.specs.declared.symbol.Symbol.TheVariants as symbol
use Rattle.expression_parser.specs.declared.extent.Extent.{Extent}
use Rattle.expression_parser.specs.declared.extent.Extent.TheVariants.{Objects, Decisions, ShortCircuit}
use Rattle.expression_parser.specs.Symbols.{same, identifier_of, sign_of, multiplying, adding, relational_of, first_word}
use Rattle.expression_parser.specs.Extents.{opens}
use Rattle.expression_parser.specs.Reading.{Reader, Refuse, Leave, got, ◌>>=◌, expect, skip, repeat}
use Rattle.expression_parser.specs.ExpressionReading as read
use Rattle.expression_parser.proofs.Agree.{Local, LocalTurn, stuck_local, got_local, on_local, bind_local, expect_local, skip_local, provided_local, repeat_local}

-- a reader, and a value made of what it read
pub then_got : {A B : Type 0} (r : Reader A) (f : A → B) → Local r → Local (r >>= λ x. got (f x))
then_got r f l = bind_local r (λ x. got (f x)) l (λ x. got_local (f x))

-- a reader, a closing word, and a value made of what was read
pub then_closed : {A B : Type 0} (r : Reader A) (s : Symbol) (f : A → B) → Local r → Local (r >>= λ x. skip s (got (f x)))
then_closed r s f l = bind_local r (λ x. skip s (got (f x))) l (λ x. skip_local s (got (f x)) (got_local (f x)))

module _ (x : Extent) (inner : Reader Expr) (n : ℕ) (l : Local inner) where
  comma_turn_local : (found : Symbol) (t : Token) (es : List Expr) → LocalTurn (read.comma_turn x inner n found t es)
  comma_turn_local symbol.Comma t es = then_got inner (λ e. es ++ e ∷ []) l
  comma_turn_local _ t es = tt

  pub exprs_local : Local (read.exprs_by x inner n)
  exprs_local = bind_local inner (λ e. repeat (read.comma_turn x inner n) n (e ∷ [])) l (λ e. repeat_local (read.comma_turn x inner n) comma_turn_local n (e ∷ []))

  suffix_turn_local : (found : Symbol) (t : Token) (m : Name) → LocalTurn (read.suffix_turn x inner n found t m)
  suffix_turn_local symbol.Dot t m = then_got (expect symbol.Identifier) (λ u. selected m (identifier_of u)) (expect_local symbol.Identifier)
  suffix_turn_local symbol.Tick t m = provided_local (opens x Objects) _ (then_got (expect symbol.Identifier) (λ u. attribute m (identifier_of u)) (expect_local symbol.Identifier))
  suffix_turn_local symbol.LeftParenthesis t m = then_closed (read.exprs_by x inner n) symbol.RightParenthesis (λ es. applied m (exprs_of es)) exprs_local
  suffix_turn_local _ t m = tt

  pub name_local : Local (read.name_by x inner n)
  name_local = bind_local (expect symbol.Identifier) (λ t. repeat (read.suffix_turn x inner n) n (simple (identifier_of t))) (expect_local symbol.Identifier)
      (λ t. repeat_local (read.suffix_turn x inner n) suffix_turn_local n (simple (identifier_of t)))

  primary_turn_local : (found : Symbol) (t : Token) → LocalTurn (read.primary_turn x inner n found t)
  primary_turn_local symbol.Numeral t = got_local _
  primary_turn_local symbol.Identifier t = provided_local (opens x Objects) _ (then_got (read.name_by x inner n) (λ m. named t.pos m) name_local)
  primary_turn_local symbol.LeftParenthesis t = provided_local (opens x Objects) _ (then_closed inner symbol.RightParenthesis (λ e. parenthesized t.pos e) l)
  primary_turn_local _ t = tt

  primary_local : Local (read.primary_by x inner n)
  primary_local = on_local Refuse (read.primary_turn x inner n) primary_turn_local

  factor_turn_local : (found : Symbol) (t : Token) → LocalTurn (read.factor_turn x inner n found t)
  factor_turn_local symbol.Abs t = provided_local (opens x Objects) _ (then_got (read.primary_by x inner n) (λ e. unary t.pos unary_operator.Abs e) primary_local)
  factor_turn_local symbol.Not t = provided_local (opens x Decisions) _ (then_got (read.primary_by x inner n) (λ e. unary t.pos unary_operator.Not e) primary_local)
  factor_turn_local _ t = primary_local

  factor_local : Local (read.factor_by x inner n)
  factor_local = on_local Refuse (read.factor_turn x inner n) factor_turn_local

  operand_turn_local : (op : Option BinaryOperator) (operand : Reader Expr) (a : Expr) → Local operand → LocalTurn (read.operand_turn x inner n op operand a)
  operand_turn_local None operand a m = tt
  operand_turn_local (Some op) operand a m = provided_local (opens x Objects) _ (then_got operand (λ b. binary (expr_pos a) a op b) m)

  term_local : Local (read.term_by x inner n)
  term_local = bind_local (read.factor_by x inner n) (repeat (read.product_turn x inner n) n) factor_local
      (λ a. repeat_local (read.product_turn x inner n) (λ found t b. operand_turn_local (multiplying found) (read.factor_by x inner n) b factor_local) n a)

  sign_turn_local : (op : Option UnaryOperator) (t : Token) → LocalTurn (read.sign_turn x inner n op t)
  sign_turn_local None t = term_local
  sign_turn_local (Some op) t = provided_local (opens x Objects) _ (then_got (read.term_by x inner n) (λ a. unary t.pos op a) term_local)

  pub simple_local : Local (read.simple_by x inner n)
  simple_local = bind_local (read.signed_by x inner n) (repeat (read.sum_turn x inner n) n) (on_local Refuse (λ found t. read.sign_turn x inner n (sign_of found) t) (λ found t. sign_turn_local (sign_of found) t))
      (λ a. repeat_local (read.sum_turn x inner n) (λ found t b. operand_turn_local (adding found) (read.term_by x inner n) b term_local) n a)

  relation_turn_local : (op : Option RelationalOperator) (a : Expr) → LocalTurn (read.relation_turn x inner n op a)
  relation_turn_local None a = tt
  relation_turn_local (Some op) a = provided_local (opens x Decisions) _ (then_got (read.simple_by x inner n) (λ b. relation (expr_pos a) a op b) simple_local)

  relation_local : Local (read.relation_by x inner n)
  relation_local = bind_local (read.simple_by x inner n) (read.relation_rest x inner n) simple_local
      (λ a. on_local (Leave a) (λ found t. read.relation_turn x inner n (relational_of found) a) (λ found t. relation_turn_local (relational_of found) a))

  second_word_local : (op : LogicalOperator) (r : Reader Expr) → Local r → Local (read.second_word x inner n op r)
  second_word_local operator.And r m = m
  second_word_local operator.Or r m = m
  second_word_local operator.Xor r m = m
  second_word_local operator.AndThen r m = skip_local symbol.Then r m
  second_word_local operator.OrElse r m = skip_local symbol.Else r m

  joined_local : (op : LogicalOperator) (a : Expr) → Local (read.joined_by x inner n op a)
  joined_local op a = then_got (read.relation_by x inner n) (λ b. logical (expr_pos a) a op b) relation_local

  another_turn_local : (found : Bool) (op : LogicalOperator) (a : Expr) → LocalTurn (read.another_turn x inner n found op a)
  another_turn_local true op a = second_word_local op (read.joined_by x inner n op a) (joined_local op a)
  another_turn_local false op a = tt

  chain_local : (op : LogicalOperator) (a : Expr) → Local (read.chain_by x inner n op a)
  chain_local op a = bind_local (read.joined_by x inner n op a) (repeat (read.chain_turn x inner n op) n) (joined_local op a)
      (λ b. repeat_local (read.chain_turn x inner n op) (λ found t c. another_turn_local (same found (first_word op)) op c) n b)

  and_turn_local : (a : Expr) (found : Symbol) (t : Token) → LocalTurn (read.and_turn x inner n a found t)
  and_turn_local a symbol.Then t = provided_local (opens x ShortCircuit) _ (chain_local operator.AndThen a)
  and_turn_local a _ t = chain_local operator.And a

  or_turn_local : (a : Expr) (found : Symbol) (t : Token) → LocalTurn (read.or_turn x inner n a found t)
  or_turn_local a symbol.Else t = provided_local (opens x ShortCircuit) _ (chain_local operator.OrElse a)
  or_turn_local a _ t = chain_local operator.Or a

  logical_turn_local : (a : Expr) (found : Symbol) (t : Token) → LocalTurn (read.logical_turn x inner n a found t)
  logical_turn_local a symbol.And t = provided_local (opens x Decisions) _ (on_local Refuse (read.and_turn x inner n a) (and_turn_local a))
  logical_turn_local a symbol.Or t = provided_local (opens x Decisions) _ (on_local Refuse (read.or_turn x inner n a) (or_turn_local a))
  logical_turn_local a symbol.Xor t = provided_local (opens x Decisions) _ (chain_local operator.Xor a)
  logical_turn_local a _ t = tt

  expression_local : Local (read.expression_by x inner n)
  expression_local = bind_local (read.relation_by x inner n) (read.logical_rest x inner n) relation_local
      (λ a. on_local (Leave a) (read.logical_turn x inner n a) (logical_turn_local a))

pub expr_local : (x : Extent) (n : ℕ) → Local (read.expr x n)
expr_local x zero = stuck_local
expr_local x (suc n) = expression_local x (read.expr x n) (suc n) (expr_local x n)
