-- The nodes of names and expressions are those of the tokens that they derive.
use Rattle.std.proofs.Common.{◌≡◌, ◌+◌, List, [], ◌∷◌, ◌++◌, length, Some, refl, ap, arith}
use Rattle.ada_lexer.specs.declared.token.Token.{Token}
use Rattle.ada_syntax.specs.Tree.{Expr, Name}
use Rattle.ada_syntax.specs.TreeView.{exprs_of}
use Rattle.ada_syntax.specs.Nodes.{expr_nodes, exprs_nodes, name_nodes, logical_operator_nodes}
use Rattle.ada_syntax.specs.declared.expr.UnaryOperator.{UnaryOperator}
use Rattle.ada_syntax.specs.declared.expr.BinaryOperator.{BinaryOperator}
use Rattle.ada_syntax.specs.declared.expr.RelationalOperator.{RelationalOperator}
use Rattle.ada_syntax.specs.declared.expr.LogicalOperator.{LogicalOperator}
use Rattle.expression_parser.specs.declared.symbol.Symbol.{Symbol}
use Rattle.expression_parser.specs.declared.symbol.Symbol.TheVariants as symbol
use Rattle.expression_parser.specs.declared.extent.Extent.{Extent}
use Rattle.expression_parser.specs.Symbols.{symbol_of, Is, sign_of, multiplying, adding, relational_of}
use Rattle.expression_parser.specs.Reading.{Tokens}
use Rattle.expression_parser.specs.Expressions.{Level, IsExpr, a_numeral, a_name, in_parentheses, a_primary, an_abs, a_not, a_factor, a_product, a_term, a_signed_term, a_first_term, a_sum, a_simple, a_relation, a_single, a_chain, IsChain, a_pair, a_longer, Joins, by_and, by_or, by_xor, by_and_then, by_or_else, IsName, an_identifier, a_selection, an_attribute, an_application, AreExprs, one_expr, more_exprs}
use Rattle.declaration_parser.specs.NodeTokens.{symbol_nodes, node_tokens}

-- a token of a known symbol
pub at : (s : Symbol) (t : Token) → Is s t → symbol_nodes (symbol_of t.lexeme) ≡ symbol_nodes s
at s t i = ap symbol_nodes i

signs : (s : Symbol) (op : UnaryOperator) → sign_of s ≡ Some op → symbol_nodes s ≡ 1
signs symbol.Plus op h = refl
signs symbol.Minus op h = refl
signs _ op h = cc

multiplies : (s : Symbol) (op : BinaryOperator) → multiplying s ≡ Some op → symbol_nodes s ≡ 1
multiplies symbol.Star op h = refl
multiplies symbol.Slash op h = refl
multiplies symbol.Mod op h = refl
multiplies symbol.Rem op h = refl
multiplies _ op h = cc

adds : (s : Symbol) (op : BinaryOperator) → adding s ≡ Some op → symbol_nodes s ≡ 1
adds symbol.Plus op h = refl
adds symbol.Minus op h = refl
adds _ op h = cc

relates : (s : Symbol) (op : RelationalOperator) → relational_of s ≡ Some op → symbol_nodes s ≡ 1
relates symbol.Equal op h = refl
relates symbol.NotEqual op h = refl
relates symbol.Less op h = refl
relates symbol.LessOrEqual op h = refl
relates symbol.Greater op h = refl
relates symbol.GreaterOrEqual op h = refl
relates _ op h = cc

exprs_nodes-push : (es : List Expr) (e : Expr) → exprs_nodes (exprs_of (es ++ e ∷ [])) ≡ exprs_nodes (exprs_of es) + expr_nodes e
exprs_nodes-push [] e = omega arith
exprs_nodes-push (d ∷ ds) e = omega (arith, exprs_nodes-push ds e)

pub length-push : {A : Type 0} (xs : List A) (x : A) → length (xs ++ x ∷ []) ≡ length xs + 1
length-push [] x = omega arith
length-push (y ∷ ys) x = omega (arith, length-push ys x)

module _ (x : Extent) where
  joins_nodes : {op : LogicalOperator} {ts rest : Tokens} → Joins x op ts rest → node_tokens ts ≡ logical_operator_nodes op + node_tokens rest
  joins_nodes (by_and {t = t} o i) = omega (arith, at symbol.And t i)
  joins_nodes (by_or {t = t} o i) = omega (arith, at symbol.Or t i)
  joins_nodes (by_xor {t = t} o i) = omega (arith, at symbol.Xor t i)
  joins_nodes (by_and_then {t = t} {u = u} o p i j) = omega (arith, at symbol.And t i, at symbol.Then u j)
  joins_nodes (by_or_else {t = t} {u = u} o p i j) = omega (arith, at symbol.Or t i, at symbol.Else u j)

  mutual
    pub expr_nodes_of : {l : Level} {e : Expr} {ts rest : Tokens} → IsExpr x l e ts rest → node_tokens ts ≡ expr_nodes e + node_tokens rest
    expr_nodes_of (a_numeral {t = t} i) = omega (arith, at symbol.Numeral t i)
    expr_nodes_of (a_name o d) = name_nodes_of d
    expr_nodes_of (in_parentheses {t = t} {u = u} o i d j) = omega (arith, at symbol.LeftParenthesis t i, at symbol.RightParenthesis u j, expr_nodes_of d)
    expr_nodes_of (a_primary d) = expr_nodes_of d
    expr_nodes_of (an_abs {t = t} o i d) = omega (arith, at symbol.Abs t i, expr_nodes_of d)
    expr_nodes_of (a_not {t = t} o i d) = omega (arith, at symbol.Not t i, expr_nodes_of d)
    expr_nodes_of (a_factor d) = expr_nodes_of d
    expr_nodes_of (a_product {t = t} {op = op} o d h b) = omega (arith, multiplies (symbol_of t.lexeme) op h, expr_nodes_of d, expr_nodes_of b)
    expr_nodes_of (a_term d) = expr_nodes_of d
    expr_nodes_of (a_signed_term {t = t} {op = op} o h d) = omega (arith, signs (symbol_of t.lexeme) op h, expr_nodes_of d)
    expr_nodes_of (a_first_term d) = expr_nodes_of d
    expr_nodes_of (a_sum {t = t} {op = op} o d h b) = omega (arith, adds (symbol_of t.lexeme) op h, expr_nodes_of d, expr_nodes_of b)
    expr_nodes_of (a_simple d) = expr_nodes_of d
    expr_nodes_of (a_relation {t = t} {op = op} o d h b) = omega (arith, relates (symbol_of t.lexeme) op h, expr_nodes_of d, expr_nodes_of b)
    expr_nodes_of (a_single d) = expr_nodes_of d
    expr_nodes_of (a_chain c) = chain_nodes_of c

    chain_nodes_of : {op : LogicalOperator} {e : Expr} {ts rest : Tokens} → IsChain x op e ts rest → node_tokens ts ≡ expr_nodes e + node_tokens rest
    chain_nodes_of (a_pair d j b) = omega (arith, expr_nodes_of d, joins_nodes j, expr_nodes_of b)
    chain_nodes_of (a_longer c j b) = omega (arith, chain_nodes_of c, joins_nodes j, expr_nodes_of b)

    pub name_nodes_of : {n : Name} {ts rest : Tokens} → IsName x n ts rest → node_tokens ts ≡ name_nodes n + node_tokens rest
    name_nodes_of (an_identifier {t = t} i) = omega (arith, at symbol.Identifier t i)
    name_nodes_of (a_selection {t = t} {u = u} d i j) = omega (arith, name_nodes_of d, at symbol.Dot t i, at symbol.Identifier u j)
    name_nodes_of (an_attribute {t = t} {u = u} o d i j) = omega (arith, name_nodes_of d, at symbol.Tick t i, at symbol.Identifier u j)
    name_nodes_of (an_application {t = t} {u = u} d i es j) = omega (arith, name_nodes_of d, at symbol.LeftParenthesis t i, exprs_nodes_of es, at symbol.RightParenthesis u j)

    pub exprs_nodes_of : {es : List Expr} {ts rest : Tokens} → AreExprs x es ts rest → node_tokens ts ≡ exprs_nodes (exprs_of es) + node_tokens rest
    exprs_nodes_of (one_expr d) = omega (arith, expr_nodes_of d)
    exprs_nodes_of (more_exprs {t = t} {e = e} {es = es} l i d) = omega (arith, exprs_nodes_of l, at symbol.Comma t i, expr_nodes_of d, exprs_nodes-push es e)
