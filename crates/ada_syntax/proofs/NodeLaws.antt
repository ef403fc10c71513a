-- The nodes of what is built from the left.
use Rattle.std.proofs.Common.{◌≡◌, ◌+◌, List, [], ◌∷◌, sum_by, arith}
use Rattle.std.proofs.lemmas.List.Sums.{sum_by-cons}
use Rattle.cov_base.specs.declared.position.Pos.{Pos}
use Rattle.ada_syntax.specs.Tree.{Expr, binary, logical, Name}
use Rattle.ada_syntax.specs.TreeView.{exprs_of, with_operands, joined, with_suffix, with_suffixes}
use Rattle.ada_syntax.specs.Nodes.{expr_nodes, exprs_nodes, name_nodes, operand_nodes, joined_nodes, suffix_nodes, logical_operator_nodes}
use Rattle.ada_syntax.specs.declared.expr.LogicalOperator.{LogicalOperator}
use Rattle.ada_syntax.specs.declared.expr.Operand.{Operand}
use Rattle.ada_syntax.specs.declared.name.Suffix.{Suffix}
use Rattle.ada_syntax.specs.declared.name.Suffix.TheVariants as suffix

pub expr_nodes-with_operands : (p : Pos) (a : Expr) (os : List Operand) → expr_nodes (with_operands p a os) ≡ expr_nodes a + sum_by operand_nodes os
expr_nodes-with_operands p a [] = omega arith
expr_nodes-with_operands p a (o ∷ os) = omega (arith, expr_nodes-with_operands p (binary p a o.operator o.operand) os, sum_by-cons operand_nodes o os)

pub expr_nodes-joined : (p : Pos) (op : LogicalOperator) (a : Expr) (bs : List Expr) → expr_nodes (joined p op a bs) ≡ expr_nodes a + sum_by (joined_nodes (logical_operator_nodes op)) bs
expr_nodes-joined p op a [] = omega arith
expr_nodes-joined p op a (b ∷ bs) = omega (arith, expr_nodes-joined p op (logical p a op b) bs, sum_by-cons (joined_nodes (logical_operator_nodes op)) b bs)

exprs_nodes-exprs_of : (es : List Expr) → exprs_nodes (exprs_of es) ≡ sum_by expr_nodes es
exprs_nodes-exprs_of [] = omega arith
exprs_nodes-exprs_of (e ∷ es) = omega (arith, exprs_nodes-exprs_of es, sum_by-cons expr_nodes e es)

name_nodes-with_suffix : (n : Name) (s : Suffix) → name_nodes (with_suffix n s) ≡ name_nodes n + suffix_nodes s
name_nodes-with_suffix n (suffix.Selected i) = omega arith
name_nodes-with_suffix n (suffix.Attribute i) = omega arith
name_nodes-with_suffix n (suffix.Applied es) = omega (arith, exprs_nodes-exprs_of es.items)

pub name_nodes-with_suffixes : (n : Name) (ss : List Suffix) → name_nodes (with_suffixes n ss) ≡ name_nodes n + sum_by suffix_nodes ss
name_nodes-with_suffixes n [] = omega arith
name_nodes-with_suffixes n (s ∷ ss) = omega (arith, name_nodes-with_suffixes (with_suffix n s) ss, name_nodes-with_suffix n s, sum_by-cons suffix_nodes s ss)

pub ruleset nodes = (expr_nodes-with_operands, expr_nodes-joined, name_nodes-with_suffixes)
