-- The plain data that a name or an expression of the program is seen as.
use Rattle.std.specs.Prelude.{Bool, true, false, List, [], ◌∷◌}
use Rattle.cov_base.specs.declared.position.Pos.{Pos}
use Rattle.ada_syntax.specs.Tree.{Expr, numeral, named, parenthesized, unary, binary, relation, logical, Exprs, no_exprs, also, Name, simple, selected, attribute, applied}
use Rattle.ada_syntax.specs.declared.expr.Expr.TheInside.{Inside}
use Rattle.ada_syntax.specs.declared.expr.LogicalOperator.{LogicalOperator}
use Rattle.ada_syntax.specs.declared.expr.Operand.{Operand}
use Rattle.ada_syntax.specs.declared.expr.ExprKind.{ExprKind}
use Rattle.ada_syntax.specs.declared.expr.ExprKind.TheVariants as kind
use Rattle.ada_syntax.specs.declared.name.Name.TheInside.{Inside as InsideName}
use Rattle.ada_syntax.specs.declared.name.Suffix.{Suffix}
use Rattle.ada_syntax.specs.declared.name.Suffix.TheVariants as suffix

abbrev pub exprs_of : List Expr → Exprs
exprs_of [] = no_exprs
exprs_of (e ∷ es) = also e (exprs_of es)

-- an expression and the operands right of it, from the left; `p` is the place of the first token
abbrev pub with_operands : Pos → Expr → List Operand → Expr
with_operands p a [] = a
with_operands p a (o ∷ os) = with_operands p (binary p a o.operator o.operand) os

-- an expression and those that one operator joins to it, from the left
abbrev pub joined : Pos → LogicalOperator → Expr → List Expr → Expr
joined p op a [] = a
joined p op a (b ∷ bs) = joined p op (logical p a op b) bs

-- a name, and a part behind it
abbrev pub with_suffix : Name → Suffix → Name
with_suffix n (suffix.Selected i) = selected n i
with_suffix n (suffix.Attribute i) = attribute n i
with_suffix n (suffix.Applied es) = applied n (exprs_of es.items)

abbrev pub with_suffixes : Name → List Suffix → Name
with_suffixes n [] = n
with_suffixes n (s ∷ ss) = with_suffixes (with_suffix n s) ss

abbrev pub name_of : InsideName → Name
name_of n = with_suffixes (simple n.prefix) n.suffixes.items

abbrev pub is_filled : {A : Type 0} → List A → Bool
is_filled [] = false
is_filled (x ∷ xs) = true

-- a form with operators has at least one
abbrev pub has_operators : ExprKind → Bool
has_operators (kind.Product e os) = is_filled os.items
has_operators (kind.Sum e os) = is_filled os.items
has_operators (kind.Logical op e es) = is_filled es.items
has_operators _ = true

-- the expression of this form, whose first token stands at this place
abbrev pub expr_at : Pos → ExprKind → Expr
expr_at p (kind.Numeral n) = numeral p n
expr_at p (kind.Name n) = named p n
expr_at p (kind.Parenthesized e) = parenthesized p e.value
expr_at p (kind.Unary op e) = unary p op e.value
expr_at p (kind.Product e os) = with_operands p e.value os.items
expr_at p (kind.Sum e os) = with_operands p e.value os.items
expr_at p (kind.Relation a op b) = relation p a.value op b.value
expr_at p (kind.Logical op e es) = joined p op e.value es.items

abbrev pub expr_of : Inside → Expr
expr_of e = expr_at e.pos e.kind
