-- The place of the first token of a name or an expression.
use Rattle.std.proofs.Common.{◌≡◌, List, [], ◌∷◌, ◌++◌, true, refl, ◌∙◌}
use Rattle.cov_base.specs.declared.position.Pos.{Pos}
use Rattle.ada_syntax.specs.Tree.{Expr, binary, logical, expr_pos, Name, simple, name_pos}
use Rattle.ada_syntax.specs.TreeView.{with_operands, joined, with_suffix, with_suffixes, name_of, is_filled, has_operators, expr_at, expr_of}
use Rattle.ada_syntax.specs.declared.expr.Expr.TheInside.{Inside}
use Rattle.ada_syntax.specs.declared.name.Name.TheInside.{Inside as InsideName}
use Rattle.ada_syntax.specs.declared.expr.LogicalOperator.{LogicalOperator}
use Rattle.ada_syntax.specs.declared.expr.Operand.{Operand}
use Rattle.ada_syntax.specs.declared.expr.ExprKind.{ExprKind}
use Rattle.ada_syntax.specs.declared.expr.ExprKind.TheVariants as kind
use Rattle.ada_syntax.specs.declared.name.Suffix.{Suffix}
use Rattle.ada_syntax.specs.declared.name.Suffix.TheVariants as suffix
use Rattle.std.proofs.lemmas.Bool.{false≢true}

pub expr_pos-with_operands : (p : Pos) (a : Expr) (os : List Operand) → expr_pos a ≡ p → expr_pos (with_operands p a os) ≡ p
expr_pos-with_operands p a [] h = h
expr_pos-with_operands p a (o ∷ os) h = expr_pos-with_operands p (binary p a o.operator o.operand) os refl

pub expr_pos-joined : (p : Pos) (op : LogicalOperator) (a : Expr) (bs : List Expr) → expr_pos a ≡ p → expr_pos (joined p op a bs) ≡ p
expr_pos-joined p op a [] h = h
expr_pos-joined p op a (b ∷ bs) h = expr_pos-joined p op (logical p a op b) bs refl

pub name_pos-with_suffix : (n : Name) (s : Suffix) → name_pos (with_suffix n s) ≡ name_pos n
name_pos-with_suffix n (suffix.Selected i) = refl
name_pos-with_suffix n (suffix.Attribute i) = refl
name_pos-with_suffix n (suffix.Applied es) = refl

pub name_pos-with_suffixes : (n : Name) (ss : List Suffix) → name_pos (with_suffixes n ss) ≡ name_pos n
name_pos-with_suffixes n [] = refl
name_pos-with_suffixes n (s ∷ ss) = name_pos-with_suffixes (with_suffix n s) ss ∙ name_pos-with_suffix n s

filled : (p : Pos) (a : Expr) (os : List Operand) → is_filled os ≡ true → expr_pos (with_operands p a os) ≡ p
filled p a [] h = absurd (false≢true h)
filled p a (o ∷ os) h = expr_pos-with_operands p (binary p a o.operator o.operand) os refl

chained : (p : Pos) (op : LogicalOperator) (a : Expr) (bs : List Expr) → is_filled bs ≡ true → expr_pos (joined p op a bs) ≡ p
chained p op a [] h = absurd (false≢true h)
chained p op a (b ∷ bs) h = expr_pos-joined p op (logical p a op b) bs refl

expr_pos_at : (p : Pos) (k : ExprKind) → has_operators k ≡ true → expr_pos (expr_at p k) ≡ p
expr_pos_at p (kind.Numeral n) h = refl
expr_pos_at p (kind.Name n) h = refl
expr_pos_at p (kind.Parenthesized e) h = refl
expr_pos_at p (kind.Unary op e) h = refl
expr_pos_at p (kind.Product a os) h = filled p a.value os.items h
expr_pos_at p (kind.Sum a os) h = filled p a.value os.items h
expr_pos_at p (kind.Relation a op b) h = refl
expr_pos_at p (kind.Logical op a es) h = chained p op a.value es.items h

pub expr_pos-expr_of : (e : Inside) → has_operators e.kind ≡ true → expr_pos (expr_of e) ≡ e.pos
expr_pos-expr_of e h = expr_pos_at e.pos e.kind h

pub name_pos-name_of : (n : InsideName) → name_pos (name_of n) ≡ n.prefix.pos
name_pos-name_of n = name_pos-with_suffixes (simple n.prefix) n.suffixes.items

-- one more operand, relation or part of a name
pub with_operands-push : (p : Pos) (a : Expr) (os : List Operand) (o : Operand) → with_operands p a (os ++ o ∷ []) ≡ binary p (with_operands p a os) o.operator o.operand
with_operands-push p a [] o = refl
with_operands-push p a (y ∷ ys) o = with_operands-push p (binary p a y.operator y.operand) ys o

pub joined-push : (p : Pos) (op : LogicalOperator) (a : Expr) (bs : List Expr) (b : Expr) → joined p op a (bs ++ b ∷ []) ≡ logical p (joined p op a bs) op b
joined-push p op a [] b = refl
joined-push p op a (c ∷ cs) b = joined-push p op (logical p a op c) cs b

pub with_suffixes-push : (n : Name) (ss : List Suffix) (s : Suffix) → with_suffixes n (ss ++ s ∷ []) ≡ with_suffix (with_suffixes n ss) s
with_suffixes-push n [] s = refl
with_suffixes-push n (y ∷ ys) s = with_suffixes-push (with_suffix n y) ys s

pub ruleset places = (expr_pos-expr_of, name_pos-name_of)
