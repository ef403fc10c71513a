-- A code for trees: what the checker asks of plain data that stands for a value of the program. It says nothing of kernels.
use Rattle.std.specs.Prelude.{◌≡◌, ℕ, refl}
use Rattle.std.proofs.Common.{ap, arith}
use Rattle.std.specs.Coded.{Coded, codes}
use base.Stored.{Gv, gnil, gnum, gcons}
use Rattle.cov_base.specs.declared.position.DecId.{DecId}
use Rattle.cov_base.specs.declared.position.InstId.{InstId}
use Rattle.kernel_ir.specs.declared.simple.Simple.{Simple}
use Rattle.kernel_ir.specs.declared.code.Edge.{Edge}
use Rattle.kernel_ir.specs.Tree.{Op, simple, choose, forever, for_loop, exit, returns, catch, decide, call, Code, no_op, and_op, Nodes, no_node, and_node}

abbrev pub head : Gv → Gv
head gnil = gnil
head (gnum n) = gnil
head (gcons a b) = a

abbrev pub tail : Gv → Gv
tail gnil = gnil
tail (gnum n) = gnil
tail (gcons a b) = b

abbrev pub number : Gv → ℕ
number gnil = 0
number (gnum n) = n
number (gcons a b) = 0

-- the number of a tree's form, and its first parts
abbrev pub form : Gv → ℕ
form g = number (head g)

abbrev pub part0 : Gv → Gv
part0 g = head (tail g)

abbrev pub part1 : Gv → Gv
part1 g = head (tail (tail g))

abbrev pub part2 : Gv → Gv
part2 g = head (tail (tail (tail g)))

abbrev pub part3 : Gv → Gv
part3 g = head (tail (tail (tail (tail g))))

abbrev pub part4 : Gv → Gv
part4 g = head (tail (tail (tail (tail (tail g)))))

pub coded_simple : Coded Simple
coded_simple = hlevel codes

pub coded_edge : Coded Edge
coded_edge = hlevel codes

pub coded_decision : Coded DecId
coded_decision = hlevel codes

pub coded_instance : Coded InstId
coded_instance = hlevel codes

-- the ghost value of a tree: the number of its form, and its parts
abbrev mutual
  pub code_op : Op → Gv
  code_op (simple x0) = gcons (gnum 0) (gcons (coded_simple.code x0) gnil)
  code_op (choose x0 x1 x2) = gcons (gnum 1) (gcons (gnum x0) (gcons (code_code x1) (gcons (code_code x2) gnil)))
  code_op (forever x0) = gcons (gnum 2) (gcons (code_code x0) gnil)
  code_op (for_loop x0) = gcons (gnum 3) (gcons (code_code x0) gnil)
  code_op exit = gcons (gnum 4) gnil
  code_op returns = gcons (gnum 5) gnil
  code_op (catch x0 x1 x2) = gcons (gnum 6) (gcons (code_code x0) (gcons (gnum x1) (gcons (code_code x2) gnil)))
  code_op (decide x0 x1 x2 x3) = gcons (gnum 7) (gcons (coded_decision.code x0) (gcons (coded_instance.code x1) (gcons (gnum x2) (gcons (code_nodes x3) gnil))))
  code_op (call x0) = gcons (gnum 8) (gcons (gnum x0) gnil)

  pub code_code : Code → Gv
  code_code no_op = gcons (gnum 0) gnil
  code_code (and_op x0 x1) = gcons (gnum 1) (gcons (code_op x0) (gcons (code_code x1) gnil))

  pub code_nodes : Nodes → Gv
  code_nodes no_node = gcons (gnum 0) gnil
  code_nodes (and_node x0 x1 x2 x3 x4) = gcons (gnum 1) (gcons (code_code x0) (gcons (gnum x1) (gcons (coded_edge.code x2) (gcons (coded_edge.code x3) (gcons (code_nodes x4) gnil)))))

-- trees with one ghost value are one
mutual
  pub inj_op : (x y : Op) → code_op x ≡ code_op y → x ≡ y
  inj_op (simple x0) (simple y0) e = λ i. simple (coded_simple.inj x0 y0 (ap part0 e) i)
  inj_op (choose x0 x1 x2) (choose y0 y1 y2) e = λ i. choose (number (part0 (e i))) (inj_code x1 y1 (ap part1 e) i) (inj_code x2 y2 (ap part2 e) i)
  inj_op (forever x0) (forever y0) e = λ i. forever (inj_code x0 y0 (ap part0 e) i)
  inj_op (for_loop x0) (for_loop y0) e = λ i. for_loop (inj_code x0 y0 (ap part0 e) i)
  inj_op exit exit e = refl
  inj_op returns returns e = refl
  inj_op (catch x0 x1 x2) (catch y0 y1 y2) e = λ i. catch (inj_code x0 y0 (ap part0 e) i) (number (part1 (e i))) (inj_code x2 y2 (ap part2 e) i)
  inj_op (decide x0 x1 x2 x3) (decide y0 y1 y2 y3) e = λ i. decide (coded_decision.inj x0 y0 (ap part0 e) i) (coded_instance.inj x1 y1 (ap part1 e) i) (number (part2 (e i))) (inj_nodes x3 y3 (ap part3 e) i)
  inj_op (call x0) (call y0) e = λ i. call (number (part0 (e i)))
  inj_op x y e = absurd (omega (arith, ap form e))

  pub inj_code : (x y : Code) → code_code x ≡ code_code y → x ≡ y
  inj_code no_op no_op e = refl
  inj_code (and_op x0 x1) (and_op y0 y1) e = λ i. and_op (inj_op x0 y0 (ap part0 e) i) (inj_code x1 y1 (ap part1 e) i)
  inj_code x y e = absurd (omega (arith, ap form e))

  pub inj_nodes : (x y : Nodes) → code_nodes x ≡ code_nodes y → x ≡ y
  inj_nodes no_node no_node e = refl
  inj_nodes (and_node x0 x1 x2 x3 x4) (and_node y0 y1 y2 y3 y4) e = λ i. and_node (inj_code x0 y0 (ap part0 e) i) (number (part1 (e i))) (coded_edge.inj x2 y2 (ap part2 e) i) (coded_edge.inj x3 y3 (ap part3 e) i) (inj_nodes x4 y4 (ap part4 e) i)
  inj_nodes x y e = absurd (omega (arith, ap form e))

abbrev pub coded_code : Coded Code
coded_code = record { code = code_code; inj = inj_code }
