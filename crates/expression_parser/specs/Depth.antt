-- The readers of names and expressions at a depth.
use Rattle.std.specs.Prelude.{ℕ, suc, List}
use Rattle.ada_syntax.specs.Tree.{Expr, Name}
use Rattle.ada_syntax.specs.declared.expr.LogicalOperator.{LogicalOperator}
use Rattle.expression_parser.specs.declared.extent.Extent.{Extent}
use Rattle.ada_lexer.specs.declared.token.Token.{Token}
use Rattle.expression_parser.specs.declared.symbol.Symbol.{Symbol}
use Rattle.expression_parser.specs.Reading.{Reader, Turn}
use Rattle.expression_parser.specs.ExpressionReading as read

abbrev pub at_name : Extent → ℕ → Reader Name
at_name x m = read.name_by x (read.expr x m) (suc m)

-- a list of expressions in parentheses, which are one deeper than the name before them
abbrev pub at_exprs : Extent → ℕ → Reader (List Expr)
at_exprs x m = read.exprs_by x (read.expr x (suc m)) (suc (suc m))

abbrev pub comma_turns : Extent → ℕ → Symbol → Token → List Expr → Turn (List Expr)
comma_turns x m = read.comma_turn x (read.expr x (suc m)) (suc (suc m))

abbrev pub suffix_turns : Extent → ℕ → Symbol → Token → Name → Turn Name
suffix_turns x m = read.suffix_turn x (read.expr x m) (suc m)

abbrev pub at_primary : Extent → ℕ → Reader Expr
at_primary x m = read.primary_by x (read.expr x m) (suc m)

abbrev pub at_factor : Extent → ℕ → Reader Expr
at_factor x m = read.factor_by x (read.expr x m) (suc m)

abbrev pub at_term : Extent → ℕ → Reader Expr
at_term x m = read.term_by x (read.expr x m) (suc m)

abbrev pub at_signed : Extent → ℕ → Reader Expr
at_signed x m = read.signed_by x (read.expr x m) (suc m)

abbrev pub at_simple : Extent → ℕ → Reader Expr
at_simple x m = read.simple_by x (read.expr x m) (suc m)

abbrev pub at_relation : Extent → ℕ → Reader Expr
at_relation x m = read.relation_by x (read.expr x m) (suc m)

abbrev pub at_expr : Extent → ℕ → Reader Expr
at_expr x m = read.expression_by x (read.expr x m) (suc m)

abbrev pub product_turns : Extent → ℕ → Symbol → Token → Expr → Turn Expr
product_turns x m = read.product_turn x (read.expr x m) (suc m)

abbrev pub sum_turns : Extent → ℕ → Symbol → Token → Expr → Turn Expr
sum_turns x m = read.sum_turn x (read.expr x m) (suc m)

-- the second relation of a chain, and those after it
abbrev pub at_chain : Extent → LogicalOperator → Expr → ℕ → Reader Expr
at_chain x op a m = read.chain_by x (read.expr x m) (suc m) op a

abbrev pub chain_turns : Extent → LogicalOperator → ℕ → Symbol → Token → Expr → Turn Expr
chain_turns x op m = read.chain_turn x (read.expr x m) (suc m) op

-- what may follow the first relation
abbrev pub at_logical_rest : Extent → Expr → ℕ → Reader Expr
at_logical_rest x a m = read.logical_rest x (read.expr x m) (suc m) a
