-- An item of a list is no larger than what the list is part of.
use Rattle.std.proofs.Common.{◌≡◌, ℕ, ◌+◌, ◌≤◌, List, [], ◌∷◌, sum_by, arith}
use Rattle.std.proofs.lemmas.List.Sums.{sum_by-cons}
use Rattle.cov_base.specs.declared.position.Pos.{Pos}
use Rattle.ada_syntax.specs.Tree.{Expr, numeral, named, parenthesized, unary, binary, relation, logical, expr_size, exprs_size, Name, name_size}
use Rattle.ada_syntax.specs.TreeView.{exprs_of, with_operands, joined, with_suffix, with_suffixes}
use Rattle.ada_syntax.specs.declared.expr.LogicalOperator.{LogicalOperator}
use Rattle.ada_syntax.specs.declared.expr.Operand.{Operand}
use Rattle.ada_syntax.specs.declared.name.Suffix.{Suffix}
use Rattle.ada_syntax.specs.declared.name.Suffix.TheVariants as suffix

-- a measure of the items of a list, each one more than its size
abbrev pub operand_size : Operand → ℕ
operand_size o = expr_size o.operand

abbrev pub suffix_size : Suffix → ℕ
suffix_size (suffix.Selected i) = 0
suffix_size (suffix.Attribute i) = 0
suffix_size (suffix.Applied es) = sum_by expr_size es.items

pub expr_size_positive : (e : Expr) → 1 ≤ expr_size e
expr_size_positive (numeral p n) = omega arith
expr_size_positive (named p n) = omega arith
expr_size_positive (parenthesized p e) = omega arith
expr_size_positive (unary p op e) = omega arith
expr_size_positive (binary p a op b) = omega arith
expr_size_positive (relation p a op b) = omega arith
expr_size_positive (logical p a op b) = omega arith

pub expr_size-with_operands : (p : Pos) (a : Expr) (os : List Operand) → expr_size a + sum_by operand_size os ≤ expr_size (with_operands p a os)
expr_size-with_operands p a [] = omega arith
expr_size-with_operands p a (o ∷ os) = omega (arith, expr_size-with_operands p (binary p a o.operator o.operand) os, sum_by-cons operand_size o os)

pub expr_size-joined : (p : Pos) (op : LogicalOperator) (a : Expr) (bs : List Expr) → expr_size a + sum_by expr_size bs ≤ expr_size (joined p op a bs)
expr_size-joined p op a [] = omega arith
expr_size-joined p op a (b ∷ bs) = omega (arith, expr_size-joined p op (logical p a op b) bs, sum_by-cons expr_size b bs)

exprs_size-exprs_of : (es : List Expr) → exprs_size (exprs_of es) ≡ sum_by expr_size es
exprs_size-exprs_of [] = omega arith
exprs_size-exprs_of (e ∷ es) = omega (arith, exprs_size-exprs_of es, sum_by-cons expr_size e es)

name_size-with_suffix : (n : Name) (s : Suffix) → name_size n + suffix_size s + 1 ≤ name_size (with_suffix n s)
name_size-with_suffix n (suffix.Selected i) = omega arith
name_size-with_suffix n (suffix.Attribute i) = omega arith
name_size-with_suffix n (suffix.Applied es) = omega (arith, exprs_size-exprs_of es.items)

pub name_size-with_suffixes : (n : Name) (ss : List Suffix) → name_size n + sum_by suffix_size ss ≤ name_size (with_suffixes n ss)
name_size-with_suffixes n [] = omega arith
name_size-with_suffixes n (s ∷ ss) = omega (arith, name_size-with_suffixes (with_suffix n s) ss, name_size-with_suffix n s, sum_by-cons suffix_size s ss)
