-- A code for expressions: what the checker asks of plain data that stands for a value of the program. It says nothing of them.
use Rattle.std.specs.Prelude.{◌≡◌, refl}
use Rattle.std.proofs.Common.{ap, arith}
use Rattle.std.specs.Coded.{Coded, coded_ℕ, coded_ℤ, coded_bool}
use base.Stored.{Gv, gnil, gnum, gcons}
use Rattle.ada_meaning.specs.Tree.{Label, Object, library_object, local_object, Callee, test_get, test_put, subprogram, formal_subprogram, ExceptionName, predefined, declared, Expr, literal, constant, attribute, read, signed, operation, relation, complement, conversion, call, decision, Parts, whole, component, element, Actuals, no_actual, by_expression, by_variable, by_composite, Test, condition, negation, operator}
use Rattle.ada_tree.specs.TypeCode.{form, part0, part1, part2, part3, coded_sign, coded_operator, coded_relation, coded_owner, coded_pos, coded_static, coded_range}

abbrev pub code_label : Label → Gv
code_label l = gcons (gnum 0) (gcons (coded_ℕ.code l.number) (gcons (coded_pos.code l.place) gnil))

pub inj_label : (x y : Label) → code_label x ≡ code_label y → x ≡ y
inj_label x y e = λ i. record { number = coded_ℕ.inj x.number y.number (ap part0 e) i; place = coded_pos.inj x.place y.place (ap part1 e) i }

abbrev pub coded_label : Coded Label
coded_label = record { code = code_label; inj = inj_label }

abbrev mutual
  pub code_object : Object → Gv
  code_object (library_object x0 x1) = gcons (gnum 0) (gcons (coded_owner.code x0) (gcons (coded_ℕ.code x1) gnil))
  code_object (local_object x0) = gcons (gnum 1) (gcons (coded_ℕ.code x0) gnil)

-- trees with one ghost value are one
mutual
  pub inj_object : (x y : Object) → code_object x ≡ code_object y → x ≡ y
  inj_object (library_object x0 x1) (library_object y0 y1) e = λ i. library_object (coded_owner.inj x0 y0 (ap part0 e) i) (coded_ℕ.inj x1 y1 (ap part1 e) i)
  inj_object (local_object x0) (local_object y0) e = λ i. local_object (coded_ℕ.inj x0 y0 (ap part0 e) i)
  inj_object x y e = absurd (omega (arith, ap form e))

abbrev pub coded_object : Coded Object
coded_object = record { code = code_object; inj = inj_object }

abbrev mutual
  pub code_callee : Callee → Gv
  code_callee test_get = gcons (gnum 0) gnil
  code_callee test_put = gcons (gnum 1) gnil
  code_callee (subprogram x0 x1) = gcons (gnum 2) (gcons (coded_owner.code x0) (gcons (coded_ℕ.code x1) gnil))
  code_callee (formal_subprogram x0) = gcons (gnum 3) (gcons (coded_ℕ.code x0) gnil)

-- trees with one ghost value are one
mutual
  pub inj_callee : (x y : Callee) → code_callee x ≡ code_callee y → x ≡ y
  inj_callee test_get test_get e = refl
  inj_callee test_put test_put e = refl
  inj_callee (subprogram x0 x1) (subprogram y0 y1) e = λ i. subprogram (coded_owner.inj x0 y0 (ap part0 e) i) (coded_ℕ.inj x1 y1 (ap part1 e) i)
  inj_callee (formal_subprogram x0) (formal_subprogram y0) e = λ i. formal_subprogram (coded_ℕ.inj x0 y0 (ap part0 e) i)
  inj_callee x y e = absurd (omega (arith, ap form e))

abbrev pub coded_callee : Coded Callee
coded_callee = record { code = code_callee; inj = inj_callee }

abbrev mutual
  pub code_exception_name : ExceptionName → Gv
  code_exception_name (predefined x0) = gcons (gnum 0) (gcons (coded_ℕ.code x0) gnil)
  code_exception_name (declared x0 x1) = gcons (gnum 1) (gcons (coded_owner.code x0) (gcons (coded_ℕ.code x1) gnil))

-- trees with one ghost value are one
mutual
  pub inj_exception_name : (x y : ExceptionName) → code_exception_name x ≡ code_exception_name y → x ≡ y
  inj_exception_name (predefined x0) (predefined y0) e = λ i. predefined (coded_ℕ.inj x0 y0 (ap part0 e) i)
  inj_exception_name (declared x0 x1) (declared y0 y1) e = λ i. declared (coded_owner.inj x0 y0 (ap part0 e) i) (coded_ℕ.inj x1 y1 (ap part1 e) i)
  inj_exception_name x y e = absurd (omega (arith, ap form e))

abbrev pub coded_exception_name : Coded ExceptionName
coded_exception_name = record { code = code_exception_name; inj = inj_exception_name }

-- the ghost value of a tree: the number of its form, and its parts
abbrev mutual
  pub code_expr : Expr → Gv
  code_expr (literal x0) = gcons (gnum 0) (gcons (coded_ℤ.code x0) gnil)
  code_expr (constant x0) = gcons (gnum 1) (gcons (coded_static.code x0) gnil)
  code_expr (attribute x0 x1 x2) = gcons (gnum 2) (gcons (coded_object.code x0) (gcons (code_parts x1) (gcons (coded_static.code x2) gnil)))
  code_expr (read x0 x1) = gcons (gnum 3) (gcons (coded_object.code x0) (gcons (code_parts x1) gnil))
  code_expr (signed x0 x1) = gcons (gnum 4) (gcons (coded_sign.code x0) (gcons (code_expr x1) gnil))
  code_expr (operation x0 x1 x2) = gcons (gnum 5) (gcons (coded_operator.code x0) (gcons (code_expr x1) (gcons (code_expr x2) gnil)))
  code_expr (relation x0 x1 x2) = gcons (gnum 6) (gcons (coded_relation.code x0) (gcons (code_expr x1) (gcons (code_expr x2) gnil)))
  code_expr (complement x0) = gcons (gnum 7) (gcons (code_expr x0) gnil)
  code_expr (conversion x0 x1) = gcons (gnum 8) (gcons (coded_range.code x0) (gcons (code_expr x1) gnil))
  code_expr (call x0 x1) = gcons (gnum 9) (gcons (coded_callee.code x0) (gcons (code_actuals x1) gnil))
  code_expr (decision x0 x1) = gcons (gnum 10) (gcons (coded_label.code x0) (gcons (code_test x1) gnil))

  pub code_parts : Parts → Gv
  code_parts whole = gcons (gnum 0) gnil
  code_parts (component x0 x1) = gcons (gnum 1) (gcons (coded_ℕ.code x0) (gcons (code_parts x1) gnil))
  code_parts (element x0 x1 x2) = gcons (gnum 2) (gcons (coded_range.code x0) (gcons (code_expr x1) (gcons (code_parts x2) gnil)))

  pub code_actuals : Actuals → Gv
  code_actuals no_actual = gcons (gnum 0) gnil
  code_actuals (by_expression x0 x1) = gcons (gnum 1) (gcons (code_expr x0) (gcons (code_actuals x1) gnil))
  code_actuals (by_variable x0 x1 x2 x3) = gcons (gnum 2) (gcons (coded_object.code x0) (gcons (code_parts x1) (gcons (coded_range.code x2) (gcons (code_actuals x3) gnil))))
  code_actuals (by_composite x0 x1 x2) = gcons (gnum 3) (gcons (coded_object.code x0) (gcons (code_parts x1) (gcons (code_actuals x2) gnil)))

  pub code_test : Test → Gv
  code_test (condition x0 x1) = gcons (gnum 0) (gcons (coded_pos.code x0) (gcons (code_expr x1) gnil))
  code_test (negation x0) = gcons (gnum 1) (gcons (code_test x0) gnil)
  code_test (operator x0 x1 x2) = gcons (gnum 2) (gcons (coded_bool.code x0) (gcons (code_test x1) (gcons (code_test x2) gnil)))

-- trees with one ghost value are one
mutual
  pub inj_expr : (x y : Expr) → code_expr x ≡ code_expr y → x ≡ y
  inj_expr (literal x0) (literal y0) e = λ i. literal (coded_ℤ.inj x0 y0 (ap part0 e) i)
  inj_expr (constant x0) (constant y0) e = λ i. constant (coded_static.inj x0 y0 (ap part0 e) i)
  inj_expr (attribute x0 x1 x2) (attribute y0 y1 y2) e = λ i. attribute (coded_object.inj x0 y0 (ap part0 e) i) (inj_parts x1 y1 (ap part1 e) i) (coded_static.inj x2 y2 (ap part2 e) i)
  inj_expr (read x0 x1) (read y0 y1) e = λ i. read (coded_object.inj x0 y0 (ap part0 e) i) (inj_parts x1 y1 (ap part1 e) i)
  inj_expr (signed x0 x1) (signed y0 y1) e = λ i. signed (coded_sign.inj x0 y0 (ap part0 e) i) (inj_expr x1 y1 (ap part1 e) i)
  inj_expr (operation x0 x1 x2) (operation y0 y1 y2) e = λ i. operation (coded_operator.inj x0 y0 (ap part0 e) i) (inj_expr x1 y1 (ap part1 e) i) (inj_expr x2 y2 (ap part2 e) i)
  inj_expr (relation x0 x1 x2) (relation y0 y1 y2) e = λ i. relation (coded_relation.inj x0 y0 (ap part0 e) i) (inj_expr x1 y1 (ap part1 e) i) (inj_expr x2 y2 (ap part2 e) i)
  inj_expr (complement x0) (complement y0) e = λ i. complement (inj_expr x0 y0 (ap part0 e) i)
  inj_expr (conversion x0 x1) (conversion y0 y1) e = λ i. conversion (coded_range.inj x0 y0 (ap part0 e) i) (inj_expr x1 y1 (ap part1 e) i)
  inj_expr (call x0 x1) (call y0 y1) e = λ i. call (coded_callee.inj x0 y0 (ap part0 e) i) (inj_actuals x1 y1 (ap part1 e) i)
  inj_expr (decision x0 x1) (decision y0 y1) e = λ i. decision (coded_label.inj x0 y0 (ap part0 e) i) (inj_test x1 y1 (ap part1 e) i)
  inj_expr x y e = absurd (omega (arith, ap form e))

  pub inj_parts : (x y : Parts) → code_parts x ≡ code_parts y → x ≡ y
  inj_parts whole whole e = refl
  inj_parts (component x0 x1) (component y0 y1) e = λ i. component (coded_ℕ.inj x0 y0 (ap part0 e) i) (inj_parts x1 y1 (ap part1 e) i)
  inj_parts (element x0 x1 x2) (element y0 y1 y2) e = λ i. element (coded_range.inj x0 y0 (ap part0 e) i) (inj_expr x1 y1 (ap part1 e) i) (inj_parts x2 y2 (ap part2 e) i)
  inj_parts x y e = absurd (omega (arith, ap form e))

  pub inj_actuals : (x y : Actuals) → code_actuals x ≡ code_actuals y → x ≡ y
  inj_actuals no_actual no_actual e = refl
  inj_actuals (by_expression x0 x1) (by_expression y0 y1) e = λ i. by_expression (inj_expr x0 y0 (ap part0 e) i) (inj_actuals x1 y1 (ap part1 e) i)
  inj_actuals (by_variable x0 x1 x2 x3) (by_variable y0 y1 y2 y3) e = λ i. by_variable (coded_object.inj x0 y0 (ap part0 e) i) (inj_parts x1 y1 (ap part1 e) i) (coded_range.inj x2 y2 (ap part2 e) i) (inj_actuals x3 y3 (ap part3 e) i)
  inj_actuals (by_composite x0 x1 x2) (by_composite y0 y1 y2) e = λ i. by_composite (coded_object.inj x0 y0 (ap part0 e) i) (inj_parts x1 y1 (ap part1 e) i) (inj_actuals x2 y2 (ap part2 e) i)
  inj_actuals x y e = absurd (omega (arith, ap form e))

  pub inj_test : (x y : Test) → code_test x ≡ code_test y → x ≡ y
  inj_test (condition x0 x1) (condition y0 y1) e = λ i. condition (coded_pos.inj x0 y0 (ap part0 e) i) (inj_expr x1 y1 (ap part1 e) i)
  inj_test (negation x0) (negation y0) e = λ i. negation (inj_test x0 y0 (ap part0 e) i)
  inj_test (operator x0 x1 x2) (operator y0 y1 y2) e = λ i. operator (coded_bool.inj x0 y0 (ap part0 e) i) (inj_test x1 y1 (ap part1 e) i) (inj_test x2 y2 (ap part2 e) i)
  inj_test x y e = absurd (omega (arith, ap form e))

abbrev pub coded_expr : Coded Expr
coded_expr = record { code = code_expr; inj = inj_expr }

abbrev pub coded_parts : Coded Parts
coded_parts = record { code = code_parts; inj = inj_parts }

abbrev pub coded_actuals : Coded Actuals
coded_actuals = record { code = code_actuals; inj = inj_actuals }

abbrev pub coded_test : Coded Test
coded_test = record { code = code_test; inj = inj_test }
