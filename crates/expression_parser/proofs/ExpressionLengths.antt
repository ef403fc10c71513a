-- A derivation takes at least one token, and no operator begins an operand.
use Rattle.std.proofs.Common.{◌<◌, List, length, arith}
use Rattle.ada_syntax.specs.Tree.{Expr, Name}
use Rattle.ada_syntax.specs.declared.expr.LogicalOperator.{LogicalOperator}
use Rattle.expression_parser.specs.declared.extent.Extent.{Extent}
use Rattle.expression_parser.specs.Reading.{Tokens}
use Rattle.expression_parser.specs.Expressions.{Level, IsExpr, a_numeral, a_name, in_parentheses, a_primary, an_abs, a_not, a_factor, a_product, a_term, a_signed_term, a_first_term, a_sum, a_simple, a_relation, a_single, a_chain, IsChain, a_pair, a_longer, Joins, by_and, by_or, by_xor, by_and_then, by_or_else, IsName, an_identifier, a_selection, an_attribute, an_application, AreExprs, one_expr, more_exprs}

module _ (x : Extent) where
  pub joins_shorter : {op : LogicalOperator} {ts rest : Tokens} → Joins x op ts rest → length rest < length ts
  joins_shorter (by_and o i) = omega arith
  joins_shorter (by_or o i) = omega arith
  joins_shorter (by_xor o i) = omega arith
  joins_shorter (by_and_then o p i j) = omega arith
  joins_shorter (by_or_else o p i j) = omega arith

  mutual
    pub shorter : {l : Level} {e : Expr} {ts rest : Tokens} → IsExpr x l e ts rest → length rest < length ts
    shorter (a_numeral i) = omega arith
    shorter (a_name o d) = name_shorter d
    shorter (in_parentheses o i d j) = omega (arith, shorter d)
    shorter (a_primary d) = shorter d
    shorter (an_abs o i d) = omega (arith, shorter d)
    shorter (a_not o i d) = omega (arith, shorter d)
    shorter (a_factor d) = shorter d
    shorter (a_product o d h b) = omega (arith, shorter d, shorter b)
    shorter (a_term d) = shorter d
    shorter (a_signed_term o h d) = omega (arith, shorter d)
    shorter (a_first_term d) = shorter d
    shorter (a_sum o d h b) = omega (arith, shorter d, shorter b)
    shorter (a_simple d) = shorter d
    shorter (a_relation o d h b) = omega (arith, shorter d, shorter b)
    shorter (a_single d) = shorter d
    shorter (a_chain c) = chain_shorter c

    pub chain_shorter : {op : LogicalOperator} {e : Expr} {ts rest : Tokens} → IsChain x op e ts rest → length rest < length ts
    chain_shorter (a_pair d j b) = omega (arith, shorter d, joins_shorter j, shorter b)
    chain_shorter (a_longer c j b) = omega (arith, chain_shorter c, joins_shorter j, shorter b)

    pub name_shorter : {n : Name} {ts rest : Tokens} → IsName x n ts rest → length rest < length ts
    name_shorter (an_identifier i) = omega arith
    name_shorter (a_selection d i j) = omega (arith, name_shorter d)
    name_shorter (an_attribute o d i j) = omega (arith, name_shorter d)
    name_shorter (an_application d i es j) = omega (arith, name_shorter d, exprs_shorter es)

    pub exprs_shorter : {es : List Expr} {ts rest : Tokens} → AreExprs x es ts rest → length rest < length ts
    exprs_shorter (one_expr d) = shorter d
    exprs_shorter (more_exprs es i d) = omega (arith, exprs_shorter es, shorter d)
