-- Names and expressions as plain data (Ada RM 2012, 4.1, 4.4). Operators of one level group to the left (RM 4.5), and so do the parts
-- of a name.
use Rattle.std.specs.Prelude.{ℕ, ◌+◌}
use Rattle.cov_base.specs.declared.position.Pos.{Pos}
use Rattle.ada_syntax.specs.declared.name.Identifier.{Identifier}
use Rattle.ada_syntax.specs.declared.expr.UnaryOperator.{UnaryOperator}
use Rattle.ada_syntax.specs.declared.expr.BinaryOperator.{BinaryOperator}
use Rattle.ada_syntax.specs.declared.expr.RelationalOperator.{RelationalOperator}
use Rattle.ada_syntax.specs.declared.expr.LogicalOperator.{LogicalOperator}

mutual
  -- an expression, with the place of its first token
  pub data Expr : Type 0 where
    numeral : Pos → ℕ → Expr
    named : Pos → Name → Expr
    parenthesized : Pos → Expr → Expr
    unary : Pos → UnaryOperator → Expr → Expr
    binary : Pos → Expr → BinaryOperator → Expr → Expr
    relation : Pos → Expr → RelationalOperator → Expr → Expr
    logical : Pos → Expr → LogicalOperator → Expr → Expr

  pub data Exprs : Type 0 where
    no_exprs : Exprs
    also : Expr → Exprs → Exprs

  -- a name: an identifier, or a name and what stands behind it
  pub data Name : Type 0 where
    simple : Identifier → Name
    selected : Name → Identifier → Name
    attribute : Name → Identifier → Name
    applied : Name → Exprs → Name

-- the place of an expression's first token
abbrev pub expr_pos : Expr → Pos
expr_pos (numeral p n) = p
expr_pos (named p n) = p
expr_pos (parenthesized p e) = p
expr_pos (unary p op e) = p
expr_pos (binary p a op b) = p
expr_pos (relation p a op b) = p
expr_pos (logical p a op b) = p

-- the place of a name's first token
abbrev pub name_pos : Name → Pos
name_pos (simple i) = i.pos
name_pos (selected n i) = name_pos n
name_pos (attribute n i) = name_pos n
name_pos (applied n es) = name_pos n

-- a measure of trees: a tree has more than each of its parts
abbrev mutual
  pub expr_size : Expr → ℕ
  expr_size (numeral p n) = 1
  expr_size (named p n) = name_size n + 1
  expr_size (parenthesized p e) = expr_size e + 1
  expr_size (unary p op e) = expr_size e + 1
  expr_size (binary p a op b) = expr_size a + expr_size b + 1
  expr_size (relation p a op b) = expr_size a + expr_size b + 1
  expr_size (logical p a op b) = expr_size a + expr_size b + 1

  pub exprs_size : Exprs → ℕ
  exprs_size no_exprs = 0
  exprs_size (also e es) = expr_size e + exprs_size es

  pub name_size : Name → ℕ
  name_size (simple i) = 1
  name_size (selected n i) = name_size n + 1
  name_size (attribute n i) = name_size n + 1
  name_size (applied n es) = name_size n + exprs_size es + 1
