-- The names and expressions that token lists derive (Ada RM 2012, 4.1, 4.4): the tree stands at the front of the first list, and the
-- second list is what follows it. One case for each production.
use Rattle.std.specs.Prelude.{◌≡◌, List, [], ◌∷◌, ◌++◌, Some, IsTrue}
use Rattle.ada_lexer.specs.declared.token.Token.{Token}
use Rattle.ada_syntax.specs.Tree.{Expr, numeral, named, parenthesized, unary, binary, relation, logical, expr_pos, Name, simple, selected, attribute, applied, name_pos}
use Rattle.ada_syntax.specs.TreeView.{exprs_of}
use Rattle.ada_syntax.specs.declared.expr.UnaryOperator.{UnaryOperator}
use Rattle.ada_syntax.specs.declared.expr.UnaryOperator.TheVariants as unary_operator
use Rattle.ada_syntax.specs.declared.expr.BinaryOperator.{BinaryOperator}
use Rattle.ada_syntax.specs.declared.expr.RelationalOperator.{RelationalOperator}
use Rattle.ada_syntax.specs.declared.expr.LogicalOperator.{LogicalOperator}
use Rattle.ada_syntax.specs.declared.expr.LogicalOperator.TheVariants as operator
use Rattle.expression_parser.specs.declared.symbol.Symbol.TheVariants as symbol
use Rattle.expression_parser.specs.declared.extent.Extent.{Extent}
use Rattle.expression_parser.specs.declared.extent.Extent.TheVariants.{Objects, Decisions, ShortCircuit}
use Rattle.expression_parser.specs.Symbols.{symbol_of, Is, identifier_of, value_of, sign_of, multiplying, adding, relational_of}
use Rattle.expression_parser.specs.Extents.{opens}
use Rattle.expression_parser.specs.Reading.{Tokens}

-- the nonterminals of expressions, from the tightest on; `signed` is a term with a sign or without one
pub data Level : Type 0 where
  primary : Level
  factor : Level
  term : Level
  signed : Level
  sums : Level
  related : Level
  expression : Level

-- the tokens of an operator that joins relations
pub data Joins (x : Extent) : LogicalOperator → Tokens → Tokens → Type 0 where
  by_and : {t : Token} {rest : Tokens} → IsTrue (opens x Decisions) → Is symbol.And t → Joins x operator.And (t ∷ rest) rest
  by_or : {t : Token} {rest : Tokens} → IsTrue (opens x Decisions) → Is symbol.Or t → Joins x operator.Or (t ∷ rest) rest
  by_xor : {t : Token} {rest : Tokens} → IsTrue (opens x Decisions) → Is symbol.Xor t → Joins x operator.Xor (t ∷ rest) rest
  by_and_then : {t u : Token} {rest : Tokens} → IsTrue (opens x Decisions) → IsTrue (opens x ShortCircuit) → Is symbol.And t → Is symbol.Then u → Joins x operator.AndThen (t ∷ u ∷ rest) rest
  by_or_else : {t u : Token} {rest : Tokens} → IsTrue (opens x Decisions) → IsTrue (opens x ShortCircuit) → Is symbol.Or t → Is symbol.Else u → Joins x operator.OrElse (t ∷ u ∷ rest) rest

mutual
  pub data IsExpr (x : Extent) : Level → Expr → Tokens → Tokens → Type 0 where
    -- primary = numeral | name | ( expr )
    a_numeral : {t : Token} {rest : Tokens} → Is symbol.Numeral t → IsExpr x primary (numeral t.pos (value_of t.lexeme)) (t ∷ rest) rest
    a_name : {n : Name} {ts rest : Tokens} → IsTrue (opens x Objects) → IsName x n ts rest → IsExpr x primary (named (name_pos n) n) ts rest
    in_parentheses : {t u : Token} {e : Expr} {ts rest : Tokens} → IsTrue (opens x Objects) → Is symbol.LeftParenthesis t → IsExpr x expression e ts (u ∷ rest) → Is symbol.RightParenthesis u
        → IsExpr x primary (parenthesized t.pos e) (t ∷ ts) rest
    -- factor = primary | ABS primary | NOT primary
    a_primary : {e : Expr} {ts rest : Tokens} → IsExpr x primary e ts rest → IsExpr x factor e ts rest
    an_abs : {t : Token} {e : Expr} {ts rest : Tokens} → IsTrue (opens x Objects) → Is symbol.Abs t → IsExpr x primary e ts rest → IsExpr x factor (unary t.pos unary_operator.Abs e) (t ∷ ts) rest
    a_not : {t : Token} {e : Expr} {ts rest : Tokens} → IsTrue (opens x Decisions) → Is symbol.Not t → IsExpr x primary e ts rest → IsExpr x factor (unary t.pos unary_operator.Not e) (t ∷ ts) rest
    -- term = factor {(* | / | MOD | REM) factor}
    a_factor : {e : Expr} {ts rest : Tokens} → IsExpr x factor e ts rest → IsExpr x term e ts rest
    a_product : {t : Token} {op : BinaryOperator} {a b : Expr} {ts us rest : Tokens} → IsTrue (opens x Objects) → IsExpr x term a ts (t ∷ us) → multiplying (symbol_of t.lexeme) ≡ Some op → IsExpr x factor b us rest
        → IsExpr x term (binary (expr_pos a) a op b) ts rest
    -- simple = [+ | -] term {(+ | -) term}
    a_term : {e : Expr} {ts rest : Tokens} → IsExpr x term e ts rest → IsExpr x signed e ts rest
    a_signed_term : {t : Token} {op : UnaryOperator} {e : Expr} {ts rest : Tokens} → IsTrue (opens x Objects) → sign_of (symbol_of t.lexeme) ≡ Some op → IsExpr x term e ts rest → IsExpr x signed (unary t.pos op e) (t ∷ ts) rest
    a_first_term : {e : Expr} {ts rest : Tokens} → IsExpr x signed e ts rest → IsExpr x sums e ts rest
    a_sum : {t : Token} {op : BinaryOperator} {a b : Expr} {ts us rest : Tokens} → IsTrue (opens x Objects) → IsExpr x sums a ts (t ∷ us) → adding (symbol_of t.lexeme) ≡ Some op → IsExpr x term b us rest
        → IsExpr x sums (binary (expr_pos a) a op b) ts rest
    -- relation = simple [(= | /= | < | <= | > | >=) simple]
    a_simple : {e : Expr} {ts rest : Tokens} → IsExpr x sums e ts rest → IsExpr x related e ts rest
    a_relation : {t : Token} {op : RelationalOperator} {a b : Expr} {ts us rest : Tokens} → IsTrue (opens x Decisions) → IsExpr x sums a ts (t ∷ us) → relational_of (symbol_of t.lexeme) ≡ Some op → IsExpr x sums b us rest
        → IsExpr x related (relation (expr_pos a) a op b) ts rest
    -- expr = relation {AND relation} | relation {OR relation} | relation {XOR relation} | relation {AND THEN relation} | relation {OR ELSE relation}
    a_single : {e : Expr} {ts rest : Tokens} → IsExpr x related e ts rest → IsExpr x expression e ts rest
    a_chain : {op : LogicalOperator} {e : Expr} {ts rest : Tokens} → IsChain x op e ts rest → IsExpr x expression e ts rest

  -- relations that one operator joins: two of them, or more
  pub data IsChain (x : Extent) : LogicalOperator → Expr → Tokens → Tokens → Type 0 where
    a_pair : {op : LogicalOperator} {a b : Expr} {ts us vs rest : Tokens} → IsExpr x related a ts us → Joins x op us vs → IsExpr x related b vs rest → IsChain x op (logical (expr_pos a) a op b) ts rest
    a_longer : {op : LogicalOperator} {a b : Expr} {ts us vs rest : Tokens} → IsChain x op a ts us → Joins x op us vs → IsExpr x related b vs rest → IsChain x op (logical (expr_pos a) a op b) ts rest

  -- name = id {. id | ' id | ( expr {, expr} )}
  pub data IsName (x : Extent) : Name → Tokens → Tokens → Type 0 where
    an_identifier : {t : Token} {rest : Tokens} → Is symbol.Identifier t → IsName x (simple (identifier_of t)) (t ∷ rest) rest
    a_selection : {t u : Token} {n : Name} {ts rest : Tokens} → IsName x n ts (t ∷ u ∷ rest) → Is symbol.Dot t → Is symbol.Identifier u → IsName x (selected n (identifier_of u)) ts rest
    an_attribute : {t u : Token} {n : Name} {ts rest : Tokens} → IsTrue (opens x Objects) → IsName x n ts (t ∷ u ∷ rest) → Is symbol.Tick t → Is symbol.Identifier u → IsName x (attribute n (identifier_of u)) ts rest
    an_application : {t u : Token} {n : Name} {es : List Expr} {ts us rest : Tokens} → IsName x n ts (t ∷ us) → Is symbol.LeftParenthesis t → AreExprs x es us (u ∷ rest) → Is symbol.RightParenthesis u
        → IsName x (applied n (exprs_of es)) ts rest

  -- expr {, expr}
  pub data AreExprs (x : Extent) : List Expr → Tokens → Tokens → Type 0 where
    one_expr : {e : Expr} {ts rest : Tokens} → IsExpr x expression e ts rest → AreExprs x (e ∷ []) ts rest
    more_exprs : {t : Token} {e : Expr} {es : List Expr} {ts us rest : Tokens} → AreExprs x es ts (t ∷ us) → Is symbol.Comma t → IsExpr x expression e us rest → AreExprs x (es ++ e ∷ []) ts rest
