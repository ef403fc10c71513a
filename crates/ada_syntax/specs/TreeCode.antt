-- A code for names and expressions: what the checker asks of plain data that stands for a value of the program. It says nothing of trees.
use Rattle.std.specs.Prelude.{◌≡◌, ℕ, refl}
use Rattle.std.proofs.Common.{ap, arith}
use Rattle.std.specs.Coded.{Coded, coded_ℕ, codes}
use base.Stored.{Gv, gnil, gnum, gcons}
use Rattle.cov_base.specs.declared.position.Pos.{Pos}
use Rattle.ada_syntax.specs.declared.name.Identifier.{Identifier}
use Rattle.ada_syntax.specs.declared.expr.UnaryOperator.{UnaryOperator}
use Rattle.ada_syntax.specs.declared.expr.BinaryOperator.{BinaryOperator}
use Rattle.ada_syntax.specs.declared.expr.RelationalOperator.{RelationalOperator}
use Rattle.ada_syntax.specs.declared.expr.LogicalOperator.{LogicalOperator}
use Rattle.ada_syntax.specs.Tree.{Expr, numeral, named, parenthesized, unary, binary, relation, logical, Exprs, no_exprs, also, Name, simple, selected, attribute, applied}

abbrev pub head : Gv → Gv
head gnil = gnil
head (gnum n) = gnil
head (gcons a b) = a

abbrev pub tail : Gv → Gv
tail gnil = gnil
tail (gnum n) = gnil
tail (gcons a b) = b

abbrev pub number : Gv → ℕ
number gnil = 0
number (gnum n) = n
number (gcons a b) = 0

-- the number of a tree's form, and its first parts
abbrev pub form : Gv → ℕ
form g = number (head g)

abbrev pub part0 : Gv → Gv
part0 g = head (tail g)

abbrev pub part1 : Gv → Gv
part1 g = head (tail (tail g))

abbrev pub part2 : Gv → Gv
part2 g = head (tail (tail (tail g)))

abbrev pub part3 : Gv → Gv
part3 g = head (tail (tail (tail (tail g))))

abbrev pub part4 : Gv → Gv
part4 g = head (tail (tail (tail (tail (tail g)))))

pub coded_pos : Coded Pos
coded_pos = hlevel codes

pub coded_identifier : Coded Identifier
coded_identifier = hlevel codes

pub coded_unary : Coded UnaryOperator
coded_unary = hlevel codes

pub coded_binary : Coded BinaryOperator
coded_binary = hlevel codes

pub coded_relational : Coded RelationalOperator
coded_relational = hlevel codes

pub coded_logical : Coded LogicalOperator
coded_logical = hlevel codes

-- the ghost value of a tree: the number of its form, and its parts
abbrev mutual
  pub code_expr : Expr → Gv
  code_expr (numeral x0 x1) = gcons (gnum 0) (gcons (coded_pos.code x0) (gcons (coded_ℕ.code x1) gnil))
  code_expr (named x0 x1) = gcons (gnum 1) (gcons (coded_pos.code x0) (gcons (code_name x1) gnil))
  code_expr (parenthesized x0 x1) = gcons (gnum 2) (gcons (coded_pos.code x0) (gcons (code_expr x1) gnil))
  code_expr (unary x0 x1 x2) = gcons (gnum 3) (gcons (coded_pos.code x0) (gcons (coded_unary.code x1) (gcons (code_expr x2) gnil)))
  code_expr (binary x0 x1 x2 x3) = gcons (gnum 4) (gcons (coded_pos.code x0) (gcons (code_expr x1) (gcons (coded_binary.code x2) (gcons (code_expr x3) gnil))))
  code_expr (relation x0 x1 x2 x3) = gcons (gnum 5) (gcons (coded_pos.code x0) (gcons (code_expr x1) (gcons (coded_relational.code x2) (gcons (code_expr x3) gnil))))
  code_expr (logical x0 x1 x2 x3) = gcons (gnum 6) (gcons (coded_pos.code x0) (gcons (code_expr x1) (gcons (coded_logical.code x2) (gcons (code_expr x3) gnil))))

  pub code_exprs : Exprs → Gv
  code_exprs no_exprs = gcons (gnum 0) gnil
  code_exprs (also x0 x1) = gcons (gnum 1) (gcons (code_expr x0) (gcons (code_exprs x1) gnil))

  pub code_name : Name → Gv
  code_name (simple x0) = gcons (gnum 0) (gcons (coded_identifier.code x0) gnil)
  code_name (selected x0 x1) = gcons (gnum 1) (gcons (code_name x0) (gcons (coded_identifier.code x1) gnil))
  code_name (attribute x0 x1) = gcons (gnum 2) (gcons (code_name x0) (gcons (coded_identifier.code x1) gnil))
  code_name (applied x0 x1) = gcons (gnum 3) (gcons (code_name x0) (gcons (code_exprs x1) gnil))

-- trees with one ghost value are one
mutual
  pub inj_expr : (x y : Expr) → code_expr x ≡ code_expr y → x ≡ y
  inj_expr (numeral x0 x1) (numeral y0 y1) e = λ i. numeral (coded_pos.inj x0 y0 (ap part0 e) i) (coded_ℕ.inj x1 y1 (ap part1 e) i)
  inj_expr (named x0 x1) (named y0 y1) e = λ i. named (coded_pos.inj x0 y0 (ap part0 e) i) (inj_name x1 y1 (ap part1 e) i)
  inj_expr (parenthesized x0 x1) (parenthesized y0 y1) e = λ i. parenthesized (coded_pos.inj x0 y0 (ap part0 e) i) (inj_expr x1 y1 (ap part1 e) i)
  inj_expr (unary x0 x1 x2) (unary y0 y1 y2) e = λ i. unary (coded_pos.inj x0 y0 (ap part0 e) i) (coded_unary.inj x1 y1 (ap part1 e) i) (inj_expr x2 y2 (ap part2 e) i)
  inj_expr (binary x0 x1 x2 x3) (binary y0 y1 y2 y3) e = λ i. binary (coded_pos.inj x0 y0 (ap part0 e) i) (inj_expr x1 y1 (ap part1 e) i) (coded_binary.inj x2 y2 (ap part2 e) i) (inj_expr x3 y3 (ap part3 e) i)
  inj_expr (relation x0 x1 x2 x3) (relation y0 y1 y2 y3) e = λ i. relation (coded_pos.inj x0 y0 (ap part0 e) i) (inj_expr x1 y1 (ap part1 e) i) (coded_relational.inj x2 y2 (ap part2 e) i) (inj_expr x3 y3 (ap part3 e) i)
  inj_expr (logical x0 x1 x2 x3) (logical y0 y1 y2 y3) e = λ i. logical (coded_pos.inj x0 y0 (ap part0 e) i) (inj_expr x1 y1 (ap part1 e) i) (coded_logical.inj x2 y2 (ap part2 e) i) (inj_expr x3 y3 (ap part3 e) i)
  inj_expr x y e = absurd (omega (arith, ap form e))

  pub inj_exprs : (x y : Exprs) → code_exprs x ≡ code_exprs y → x ≡ y
  inj_exprs no_exprs no_exprs e = refl
  inj_exprs (also x0 x1) (also y0 y1) e = λ i. also (inj_expr x0 y0 (ap part0 e) i) (inj_exprs x1 y1 (ap part1 e) i)
  inj_exprs x y e = absurd (omega (arith, ap form e))

  pub inj_name : (x y : Name) → code_name x ≡ code_name y → x ≡ y
  inj_name (simple x0) (simple y0) e = λ i. simple (coded_identifier.inj x0 y0 (ap part0 e) i)
  inj_name (selected x0 x1) (selected y0 y1) e = λ i. selected (inj_name x0 y0 (ap part0 e) i) (coded_identifier.inj x1 y1 (ap part1 e) i)
  inj_name (attribute x0 x1) (attribute y0 y1) e = λ i. attribute (inj_name x0 y0 (ap part0 e) i) (coded_identifier.inj x1 y1 (ap part1 e) i)
  inj_name (applied x0 x1) (applied y0 y1) e = λ i. applied (inj_name x0 y0 (ap part0 e) i) (inj_exprs x1 y1 (ap part1 e) i)
  inj_name x y e = absurd (omega (arith, ap form e))

abbrev pub coded_expr : Coded Expr
coded_expr = record { code = code_expr; inj = inj_expr }

abbrev pub coded_name : Coded Name
coded_name = record { code = code_name; inj = inj_name }
