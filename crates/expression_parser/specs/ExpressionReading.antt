-- How names and expressions are read, with one token in view.
use Rattle.std.specs.Prelude.{ℕ, zero, suc, Bool, true, false, List, [], ◌∷◌, ◌++◌, Option, Some, None}
use Rattle.ada_lexer.specs.declared.token.Token.{Token}
use Rattle.ada_syntax.specs.Tree.{Expr, numeral, named, parenthesized, unary, binary, relation, logical, expr_pos, Name, simple, selected, attribute, applied}
use Rattle.ada_syntax.specs.TreeView.{exprs_of}
use Rattle.ada_syntax.specs.declared.expr.UnaryOperator.{UnaryOperator}
use Rattle.ada_syntax.specs.declared.expr.UnaryOperator.TheVariants as unary_operator
use Rattle.ada_syntax.specs.declared.expr.BinaryOperator.{BinaryOperator}
use Rattle.ada_syntax.specs.declared.expr.RelationalOperator.{RelationalOperator}
use Rattle.ada_syntax.specs.declared.expr.LogicalOperator.{LogicalOperator}
use Rattle.ada_syntax.specs.declared.expr.LogicalOperator.TheVariants as operator
use Rattle.expression_parser.specs.declared.symbol.Symbol.{Symbol}
use Rattle.expression_parser.specs.declared.symbol.Symbol.TheVariants as symbol
use Rattle.expression_parser.specs.declared.extent.Extent.{Extent}
use Rattle.expression_parser.specs.declared.extent.Extent.TheVariants.{Objects, Decisions, ShortCircuit}
use Rattle.expression_parser.specs.Symbols.{same, identifier_of, value_of, sign_of, multiplying, adding, relational_of, first_word}
use Rattle.expression_parser.specs.Extents.{opens}
use Rattle.expression_parser.specs.Reading.{Reader, Stuck, Turn, Refuse, Leave, Take, Look, got, ◌>>=◌, on_token, provided, expect, skip, repeat}

-- `inner` reads an expression in parentheses, and `n` bounds each list
module _ (x : Extent) (inner : Reader Expr) (n : ℕ) where
  abbrev pub comma_turn : Symbol → Token → List Expr → Turn (List Expr)
  comma_turn symbol.Comma t es = Take (inner >>= λ e. got (es ++ e ∷ []))
  comma_turn _ t es = Leave es

  abbrev pub exprs_by : Reader (List Expr)
  exprs_by = inner >>= λ e. repeat comma_turn n (e ∷ [])

  abbrev pub suffix_turn : Symbol → Token → Name → Turn Name
  suffix_turn symbol.Dot t m = Take (expect symbol.Identifier >>= λ u. got (selected m (identifier_of u)))
  suffix_turn symbol.Tick t m = provided (opens x Objects) (Take (expect symbol.Identifier >>= λ u. got (attribute m (identifier_of u))))
  suffix_turn symbol.LeftParenthesis t m = Take (exprs_by >>= λ es. skip symbol.RightParenthesis (got (applied m (exprs_of es))))
  suffix_turn _ t m = Leave m

  abbrev pub name_by : Reader Name
  name_by = expect symbol.Identifier >>= λ t. repeat suffix_turn n (simple (identifier_of t))

  abbrev pub primary_turn : Symbol → Token → Turn Expr
  primary_turn symbol.Numeral t = Take (got (numeral t.pos (value_of t.lexeme)))
  primary_turn symbol.Identifier t = provided (opens x Objects) (Look (name_by >>= λ m. got (named t.pos m)))
  primary_turn symbol.LeftParenthesis t = provided (opens x Objects) (Take (inner >>= λ e. skip symbol.RightParenthesis (got (parenthesized t.pos e))))
  primary_turn _ t = Refuse

  abbrev pub primary_by : Reader Expr
  primary_by = on_token Refuse primary_turn

  abbrev pub factor_turn : Symbol → Token → Turn Expr
  factor_turn symbol.Abs t = provided (opens x Objects) (Take (primary_by >>= λ e. got (unary t.pos unary_operator.Abs e)))
  factor_turn symbol.Not t = provided (opens x Decisions) (Take (primary_by >>= λ e. got (unary t.pos unary_operator.Not e)))
  factor_turn _ t = Look primary_by

  abbrev pub factor_by : Reader Expr
  factor_by = on_token Refuse factor_turn

  -- an operator and the operand right of it, where the next token is one
  abbrev pub operand_turn : Option BinaryOperator → Reader Expr → Expr → Turn Expr
  operand_turn None operand a = Leave a
  operand_turn (Some op) operand a = provided (opens x Objects) (Take (operand >>= λ b. got (binary (expr_pos a) a op b)))

  abbrev pub product_turn : Symbol → Token → Expr → Turn Expr
  product_turn found t a = operand_turn (multiplying found) factor_by a

  abbrev pub term_by : Reader Expr
  term_by = factor_by >>= repeat product_turn n

  abbrev pub sign_turn : Option UnaryOperator → Token → Turn Expr
  sign_turn None t = Look term_by
  sign_turn (Some op) t = provided (opens x Objects) (Take (term_by >>= λ a. got (unary t.pos op a)))

  abbrev pub signed_by : Reader Expr
  signed_by = on_token Refuse (λ found t. sign_turn (sign_of found) t)

  abbrev pub sum_turn : Symbol → Token → Expr → Turn Expr
  sum_turn found t a = operand_turn (adding found) term_by a

  abbrev pub simple_by : Reader Expr
  simple_by = signed_by >>= repeat sum_turn n

  abbrev pub relation_turn : Option RelationalOperator → Expr → Turn Expr
  relation_turn None a = Leave a
  relation_turn (Some op) a = provided (opens x Decisions) (Take (simple_by >>= λ b. got (relation (expr_pos a) a op b)))

  abbrev pub relation_rest : Expr → Reader Expr
  relation_rest a = on_token (Leave a) (λ found t. relation_turn (relational_of found) a)

  abbrev pub relation_by : Reader Expr
  relation_by = simple_by >>= relation_rest

  -- the second word of an operator, where it has two
  abbrev pub second_word : LogicalOperator → Reader Expr → Reader Expr
  second_word operator.And r = r
  second_word operator.Or r = r
  second_word operator.Xor r = r
  second_word operator.AndThen r = skip symbol.Then r
  second_word operator.OrElse r = skip symbol.Else r

  abbrev pub joined_by : LogicalOperator → Expr → Reader Expr
  joined_by op a = relation_by >>= λ b. got (logical (expr_pos a) a op b)

  abbrev pub another_turn : Bool → LogicalOperator → Expr → Turn Expr
  another_turn true op a = Take (second_word op (joined_by op a))
  another_turn false op a = Leave a

  abbrev pub chain_turn : LogicalOperator → Symbol → Token → Expr → Turn Expr
  chain_turn op found t a = another_turn (same found (first_word op)) op a

  -- the second relation of a chain and those after it
  abbrev pub chain_by : LogicalOperator → Expr → Reader Expr
  chain_by op a = joined_by op a >>= repeat (chain_turn op) n

  abbrev pub and_turn : Expr → Symbol → Token → Turn Expr
  and_turn a symbol.Then t = provided (opens x ShortCircuit) (Take (chain_by operator.AndThen a))
  and_turn a _ t = Look (chain_by operator.And a)

  abbrev pub or_turn : Expr → Symbol → Token → Turn Expr
  or_turn a symbol.Else t = provided (opens x ShortCircuit) (Take (chain_by operator.OrElse a))
  or_turn a _ t = Look (chain_by operator.Or a)

  abbrev pub logical_turn : Expr → Symbol → Token → Turn Expr
  logical_turn a symbol.And t = provided (opens x Decisions) (Take (on_token Refuse (and_turn a)))
  logical_turn a symbol.Or t = provided (opens x Decisions) (Take (on_token Refuse (or_turn a)))
  logical_turn a symbol.Xor t = provided (opens x Decisions) (Take (chain_by operator.Xor a))
  logical_turn a _ t = Leave a

  abbrev pub logical_rest : Expr → Reader Expr
  logical_rest a = on_token (Leave a) (logical_turn a)

  abbrev pub expression_by : Reader Expr
  expression_by = relation_by >>= logical_rest

-- an expression, with at most this many parentheses in one another
abbrev pub expr : Extent → ℕ → Reader Expr
expr x zero = Stuck
expr x (suc n) = expression_by x (expr x n) (suc n)
