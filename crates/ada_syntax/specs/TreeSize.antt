-- A tree is larger than its parts.
use Rattle.std.specs.Prelude.{◌+◌, ◌≤◌, max, List, [], ◌∷◌, IsTrue}
use Rattle.std.proofs.Common.{arith}
use Rattle.std.proofs.lemmas.Bool.{false≢true}
use denote.Param.Weighed.{most}
use Rattle.cov_base.specs.declared.position.Pos.{Pos}
use Rattle.ada_syntax.specs.Tree.{Expr, binary, logical, expr_size, exprs_size, Name, simple, name_size}
use Rattle.ada_syntax.specs.TreeView.{exprs_of, with_operands, joined, with_suffix, with_suffixes, name_of, is_filled, has_operators, expr_at, expr_of}
use Rattle.ada_syntax.specs.declared.expr.Expr.TheInside.{Inside}
use Rattle.ada_syntax.specs.declared.expr.Expr.TheDeep.{deep-Expr, deep-ExprKind, deep-Operand, deep-Suffix, deep-Name}
use Rattle.ada_syntax.specs.declared.expr.LogicalOperator.{LogicalOperator}
use Rattle.ada_syntax.specs.declared.expr.Operand.{Operand}
use Rattle.ada_syntax.specs.declared.expr.ExprKind.{ExprKind}
use Rattle.ada_syntax.specs.declared.expr.ExprKind.TheVariants as kind
use Rattle.ada_syntax.specs.declared.name.Name.TheInside.{Inside as InsideName}
use Rattle.ada_syntax.specs.declared.name.Suffix.{Suffix}
use Rattle.ada_syntax.specs.declared.name.Suffix.TheVariants as suffix

exprs_below : (es : List Expr) → most (λ e. expr_size e + 1) es ≤ exprs_size (exprs_of es) + 1
exprs_below [] = omega arith
exprs_below (e ∷ es) = omega (arith, exprs_below es)

operands_below : (p : Pos) (a : Expr) (os : List Operand) → (expr_size a ≤ expr_size (with_operands p a os)) × (most deep-Operand os ≤ expr_size (with_operands p a os))
operands_below p a [] = (omega arith, omega arith)
operands_below p a (o ∷ os) =
    let h = operands_below p (binary p a o.operator o.operand) os in (omega (arith, h.0), omega (arith, h.0, h.1))

product_below : (p : Pos) (a : Expr) (os : List Operand) → IsTrue (is_filled os) → max (expr_size a + 1) (most deep-Operand os) ≤ expr_size (with_operands p a os)
product_below p a [] h = absurd (false≢true h)
product_below p a (o ∷ os) h =
    omega (arith, (operands_below p a (o ∷ os)).1, (operands_below p (binary p a o.operator o.operand) os).0)

joined_below : (p : Pos) (op : LogicalOperator) (a : Expr) (bs : List Expr) → (expr_size a ≤ expr_size (joined p op a bs)) × (most (λ e. expr_size e + 1) bs ≤ expr_size (joined p op a bs))
joined_below p op a [] = (omega arith, omega arith)
joined_below p op a (b ∷ bs) =
    let h = joined_below p op (logical p a op b) bs in (omega (arith, h.0), omega (arith, h.0, h.1))

logical_below : (p : Pos) (op : LogicalOperator) (a : Expr) (bs : List Expr) → IsTrue (is_filled bs) → max (expr_size a + 1) (most (λ e. expr_size e + 1) bs) ≤ expr_size (joined p op a bs)
logical_below p op a [] h = absurd (false≢true h)
logical_below p op a (b ∷ bs) h =
    omega (arith, (joined_below p op a (b ∷ bs)).1, (joined_below p op (logical p a op b) bs).0)

suffix_below : (n : Name) (s : Suffix) → (name_size n + 1 ≤ name_size (with_suffix n s)) × (deep-Suffix s ≤ name_size (with_suffix n s))
suffix_below n (suffix.Selected i) = (omega arith, omega arith)
suffix_below n (suffix.Attribute i) = (omega arith, omega arith)
suffix_below n (suffix.Applied es) = (omega arith, omega (arith, exprs_below es.items))

suffixes_below : (n : Name) (ss : List Suffix) → (name_size n ≤ name_size (with_suffixes n ss)) × (most deep-Suffix ss ≤ name_size (with_suffixes n ss))
suffixes_below n [] = (omega arith, omega arith)
suffixes_below n (s ∷ ss) =
    let h = suffixes_below (with_suffix n s) ss in
    let k = suffix_below n s in
    (omega (arith, h.0, k.0), omega (arith, h.0, h.1, k.1))

pub name_is_larger : (n : InsideName) → deep-Name n ≤ name_size (name_of n)
name_is_larger n = omega (arith, (suffixes_below (simple n.prefix) n.suffixes.items).1)

pub expr_is_larger : (e : Inside) → IsTrue (has_operators e.kind) → deep-Expr e ≤ expr_size (expr_of e)
expr_is_larger e f = omega (arith, of_kind e.kind f)
  where
    of_kind : (k : ExprKind) → IsTrue (has_operators k) → deep-ExprKind k ≤ expr_size (expr_at e.pos k)
    of_kind (kind.Numeral n) h = omega arith
    of_kind (kind.Name n) h = omega arith
    of_kind (kind.Parenthesized a) h = omega arith
    of_kind (kind.Unary op a) h = omega arith
    of_kind (kind.Product a os) h = omega (arith, product_below e.pos a.value os.items h)
    of_kind (kind.Sum a os) h = omega (arith, product_below e.pos a.value os.items h)
    of_kind (kind.Relation a op b) h = omega arith
    of_kind (kind.Logical op a es) h = omega (arith, logical_below e.pos op a.value es.items h)
