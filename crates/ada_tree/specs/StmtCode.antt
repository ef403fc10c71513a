-- A code for statements: what the checker asks of plain data that stands for a value of the program. It says nothing of them.
use Rattle.std.specs.Prelude.{◌≡◌, List, refl}
use Rattle.std.proofs.Common.{ap, arith}
use Rattle.std.specs.Coded.{Coded, coded_ℕ, coded_bool, coded_list}
use base.Stored.{Gv, gnil, gnum, gcons}
use Rattle.ada_meaning.specs.Tree.{NewValue, scalar_value, composite_value, others_value, Choice, value_choice, range_choice, other_values, ExceptionChoice, named_exception, other_exceptions, LoopRange, over_subtype, over_bounds, Declaration, initialized, without_value, Stmt, null_statement, assignment, procedure_call, if_statement, case_statement, bare_loop, while_loop, for_loop, exit_statement, exit_when, return_statement, return_value, raise_statement, raise_again, block_statement, Stmts, no_statement, and_statement, Branches, else_part, branch, Alternatives, no_alternative, alternative, Handlers, no_handler, handler, Block, block}
use Rattle.ada_tree.specs.TypeCode.{form, part0, part1, part2, part3, part4, coded_static, coded_range, coded_subtype}
use Rattle.ada_tree.specs.ExprCode.{coded_label, coded_object, coded_callee, coded_exception_name, coded_expr, coded_parts, coded_actuals, coded_test}

-- the ghost value of a tree: the number of its form, and its parts
abbrev mutual
  pub code_new_value : NewValue → Gv
  code_new_value (scalar_value x0 x1) = gcons (gnum 0) (gcons (coded_range.code x0) (gcons (coded_expr.code x1) gnil))
  code_new_value (composite_value x0 x1 x2) = gcons (gnum 1) (gcons (coded_subtype.code x0) (gcons (coded_object.code x1) (gcons (coded_parts.code x2) gnil)))
  code_new_value (others_value x0 x1) = gcons (gnum 2) (gcons (coded_range.code x0) (gcons (code_new_value x1) gnil))

-- trees with one ghost value are one
mutual
  pub inj_new_value : (x y : NewValue) → code_new_value x ≡ code_new_value y → x ≡ y
  inj_new_value (scalar_value x0 x1) (scalar_value y0 y1) e = λ i. scalar_value (coded_range.inj x0 y0 (ap part0 e) i) (coded_expr.inj x1 y1 (ap part1 e) i)
  inj_new_value (composite_value x0 x1 x2) (composite_value y0 y1 y2) e = λ i. composite_value (coded_subtype.inj x0 y0 (ap part0 e) i) (coded_object.inj x1 y1 (ap part1 e) i) (coded_parts.inj x2 y2 (ap part2 e) i)
  inj_new_value (others_value x0 x1) (others_value y0 y1) e = λ i. others_value (coded_range.inj x0 y0 (ap part0 e) i) (inj_new_value x1 y1 (ap part1 e) i)
  inj_new_value x y e = absurd (omega (arith, ap form e))

abbrev pub coded_new_value : Coded NewValue
coded_new_value = record { code = code_new_value; inj = inj_new_value }

abbrev mutual
  pub code_choice : Choice → Gv
  code_choice (value_choice x0) = gcons (gnum 0) (gcons (coded_static.code x0) gnil)
  code_choice (range_choice x0 x1) = gcons (gnum 1) (gcons (coded_static.code x0) (gcons (coded_static.code x1) gnil))
  code_choice other_values = gcons (gnum 2) gnil

-- trees with one ghost value are one
mutual
  pub inj_choice : (x y : Choice) → code_choice x ≡ code_choice y → x ≡ y
  inj_choice (value_choice x0) (value_choice y0) e = λ i. value_choice (coded_static.inj x0 y0 (ap part0 e) i)
  inj_choice (range_choice x0 x1) (range_choice y0 y1) e = λ i. range_choice (coded_static.inj x0 y0 (ap part0 e) i) (coded_static.inj x1 y1 (ap part1 e) i)
  inj_choice other_values other_values e = refl
  inj_choice x y e = absurd (omega (arith, ap form e))

abbrev pub coded_choice : Coded Choice
coded_choice = record { code = code_choice; inj = inj_choice }

abbrev mutual
  pub code_exception_choice : ExceptionChoice → Gv
  code_exception_choice (named_exception x0) = gcons (gnum 0) (gcons (coded_exception_name.code x0) gnil)
  code_exception_choice other_exceptions = gcons (gnum 1) gnil

-- trees with one ghost value are one
mutual
  pub inj_exception_choice : (x y : ExceptionChoice) → code_exception_choice x ≡ code_exception_choice y → x ≡ y
  inj_exception_choice (named_exception x0) (named_exception y0) e = λ i. named_exception (coded_exception_name.inj x0 y0 (ap part0 e) i)
  inj_exception_choice other_exceptions other_exceptions e = refl
  inj_exception_choice x y e = absurd (omega (arith, ap form e))

abbrev pub coded_exception_choice : Coded ExceptionChoice
coded_exception_choice = record { code = code_exception_choice; inj = inj_exception_choice }

abbrev mutual
  pub code_loop_range : LoopRange → Gv
  code_loop_range (over_subtype x0) = gcons (gnum 0) (gcons (coded_range.code x0) gnil)
  code_loop_range (over_bounds x0 x1) = gcons (gnum 1) (gcons (coded_expr.code x0) (gcons (coded_expr.code x1) gnil))

-- trees with one ghost value are one
mutual
  pub inj_loop_range : (x y : LoopRange) → code_loop_range x ≡ code_loop_range y → x ≡ y
  inj_loop_range (over_subtype x0) (over_subtype y0) e = λ i. over_subtype (coded_range.inj x0 y0 (ap part0 e) i)
  inj_loop_range (over_bounds x0 x1) (over_bounds y0 y1) e = λ i. over_bounds (coded_expr.inj x0 y0 (ap part0 e) i) (coded_expr.inj x1 y1 (ap part1 e) i)
  inj_loop_range x y e = absurd (omega (arith, ap form e))

abbrev pub coded_loop_range : Coded LoopRange
coded_loop_range = record { code = code_loop_range; inj = inj_loop_range }

abbrev mutual
  pub code_declaration : Declaration → Gv
  code_declaration (initialized x0 x1 x2) = gcons (gnum 0) (gcons (coded_label.code x0) (gcons (coded_ℕ.code x1) (gcons (coded_new_value.code x2) gnil)))
  code_declaration (without_value x0 x1) = gcons (gnum 1) (gcons (coded_ℕ.code x0) (gcons (coded_subtype.code x1) gnil))

-- trees with one ghost value are one
mutual
  pub inj_declaration : (x y : Declaration) → code_declaration x ≡ code_declaration y → x ≡ y
  inj_declaration (initialized x0 x1 x2) (initialized y0 y1 y2) e = λ i. initialized (coded_label.inj x0 y0 (ap part0 e) i) (coded_ℕ.inj x1 y1 (ap part1 e) i) (coded_new_value.inj x2 y2 (ap part2 e) i)
  inj_declaration (without_value x0 x1) (without_value y0 y1) e = λ i. without_value (coded_ℕ.inj x0 y0 (ap part0 e) i) (coded_subtype.inj x1 y1 (ap part1 e) i)
  inj_declaration x y e = absurd (omega (arith, ap form e))

abbrev pub coded_declaration : Coded Declaration
coded_declaration = record { code = code_declaration; inj = inj_declaration }

pub coded_choices : Coded (List Choice)
coded_choices = coded_list coded_choice

pub coded_exception_choices : Coded (List ExceptionChoice)
coded_exception_choices = coded_list coded_exception_choice

pub coded_declarations : Coded (List Declaration)
coded_declarations = coded_list coded_declaration

-- the ghost value of a tree: the number of its form, and its parts
abbrev mutual
  pub code_stmt : Stmt → Gv
  code_stmt (null_statement x0) = gcons (gnum 0) (gcons (coded_label.code x0) gnil)
  code_stmt (assignment x0 x1 x2 x3) = gcons (gnum 1) (gcons (coded_label.code x0) (gcons (coded_object.code x1) (gcons (coded_parts.code x2) (gcons (coded_new_value.code x3) gnil))))
  code_stmt (procedure_call x0 x1 x2) = gcons (gnum 2) (gcons (coded_label.code x0) (gcons (coded_callee.code x1) (gcons (coded_actuals.code x2) gnil)))
  code_stmt (if_statement x0 x1) = gcons (gnum 3) (gcons (coded_label.code x0) (gcons (code_branches x1) gnil))
  code_stmt (case_statement x0 x1 x2) = gcons (gnum 4) (gcons (coded_label.code x0) (gcons (coded_expr.code x1) (gcons (code_alternatives x2) gnil)))
  code_stmt (bare_loop x0 x1) = gcons (gnum 5) (gcons (coded_label.code x0) (gcons (code_stmts x1) gnil))
  code_stmt (while_loop x0 x1 x2 x3) = gcons (gnum 6) (gcons (coded_label.code x0) (gcons (coded_label.code x1) (gcons (coded_test.code x2) (gcons (code_stmts x3) gnil))))
  code_stmt (for_loop x0 x1 x2 x3 x4) = gcons (gnum 7) (gcons (coded_label.code x0) (gcons (coded_ℕ.code x1) (gcons (coded_bool.code x2) (gcons (coded_loop_range.code x3) (gcons (code_stmts x4) gnil)))))
  code_stmt (exit_statement x0) = gcons (gnum 8) (gcons (coded_label.code x0) gnil)
  code_stmt (exit_when x0 x1 x2) = gcons (gnum 9) (gcons (coded_label.code x0) (gcons (coded_label.code x1) (gcons (coded_test.code x2) gnil)))
  code_stmt (return_statement x0) = gcons (gnum 10) (gcons (coded_label.code x0) gnil)
  code_stmt (return_value x0 x1 x2) = gcons (gnum 11) (gcons (coded_label.code x0) (gcons (coded_range.code x1) (gcons (coded_expr.code x2) gnil)))
  code_stmt (raise_statement x0 x1) = gcons (gnum 12) (gcons (coded_label.code x0) (gcons (coded_exception_name.code x1) gnil))
  code_stmt (raise_again x0) = gcons (gnum 13) (gcons (coded_label.code x0) gnil)
  code_stmt (block_statement x0) = gcons (gnum 14) (gcons (code_block x0) gnil)

  pub code_stmts : Stmts → Gv
  code_stmts no_statement = gcons (gnum 0) gnil
  code_stmts (and_statement x0 x1) = gcons (gnum 1) (gcons (code_stmt x0) (gcons (code_stmts x1) gnil))

  pub code_branches : Branches → Gv
  code_branches (else_part x0) = gcons (gnum 0) (gcons (code_stmts x0) gnil)
  code_branches (branch x0 x1 x2 x3) = gcons (gnum 1) (gcons (coded_label.code x0) (gcons (coded_test.code x1) (gcons (code_stmts x2) (gcons (code_branches x3) gnil))))

  pub code_alternatives : Alternatives → Gv
  code_alternatives no_alternative = gcons (gnum 0) gnil
  code_alternatives (alternative x0 x1 x2) = gcons (gnum 1) (gcons (coded_choices.code x0) (gcons (code_stmts x1) (gcons (code_alternatives x2) gnil)))

  pub code_handlers : Handlers → Gv
  code_handlers no_handler = gcons (gnum 0) gnil
  code_handlers (handler x0 x1 x2) = gcons (gnum 1) (gcons (coded_exception_choices.code x0) (gcons (code_stmts x1) (gcons (code_handlers x2) gnil)))

  pub code_block : Block → Gv
  code_block (block x0 x1 x2) = gcons (gnum 0) (gcons (coded_declarations.code x0) (gcons (code_stmts x1) (gcons (code_handlers x2) gnil)))

-- trees with one ghost value are one
mutual
  pub inj_stmt : (x y : Stmt) → code_stmt x ≡ code_stmt y → x ≡ y
  inj_stmt (null_statement x0) (null_statement y0) e = λ i. null_statement (coded_label.inj x0 y0 (ap part0 e) i)
  inj_stmt (assignment x0 x1 x2 x3) (assignment y0 y1 y2 y3) e = λ i. assignment (coded_label.inj x0 y0 (ap part0 e) i) (coded_object.inj x1 y1 (ap part1 e) i) (coded_parts.inj x2 y2 (ap part2 e) i) (coded_new_value.inj x3 y3 (ap part3 e) i)
  inj_stmt (procedure_call x0 x1 x2) (procedure_call y0 y1 y2) e = λ i. procedure_call (coded_label.inj x0 y0 (ap part0 e) i) (coded_callee.inj x1 y1 (ap part1 e) i) (coded_actuals.inj x2 y2 (ap part2 e) i)
  inj_stmt (if_statement x0 x1) (if_statement y0 y1) e = λ i. if_statement (coded_label.inj x0 y0 (ap part0 e) i) (inj_branches x1 y1 (ap part1 e) i)
  inj_stmt (case_statement x0 x1 x2) (case_statement y0 y1 y2) e = λ i. case_statement (coded_label.inj x0 y0 (ap part0 e) i) (coded_expr.inj x1 y1 (ap part1 e) i) (inj_alternatives x2 y2 (ap part2 e) i)
  inj_stmt (bare_loop x0 x1) (bare_loop y0 y1) e = λ i. bare_loop (coded_label.inj x0 y0 (ap part0 e) i) (inj_stmts x1 y1 (ap part1 e) i)
  inj_stmt (while_loop x0 x1 x2 x3) (while_loop y0 y1 y2 y3) e = λ i. while_loop (coded_label.inj x0 y0 (ap part0 e) i) (coded_label.inj x1 y1 (ap part1 e) i) (coded_test.inj x2 y2 (ap part2 e) i) (inj_stmts x3 y3 (ap part3 e) i)
  inj_stmt (for_loop x0 x1 x2 x3 x4) (for_loop y0 y1 y2 y3 y4) e = λ i. for_loop (coded_label.inj x0 y0 (ap part0 e) i) (coded_ℕ.inj x1 y1 (ap part1 e) i) (coded_bool.inj x2 y2 (ap part2 e) i) (coded_loop_range.inj x3 y3 (ap part3 e) i) (inj_stmts x4 y4 (ap part4 e) i)
  inj_stmt (exit_statement x0) (exit_statement y0) e = λ i. exit_statement (coded_label.inj x0 y0 (ap part0 e) i)
  inj_stmt (exit_when x0 x1 x2) (exit_when y0 y1 y2) e = λ i. exit_when (coded_label.inj x0 y0 (ap part0 e) i) (coded_label.inj x1 y1 (ap part1 e) i) (coded_test.inj x2 y2 (ap part2 e) i)
  inj_stmt (return_statement x0) (return_statement y0) e = λ i. return_statement (coded_label.inj x0 y0 (ap part0 e) i)
  inj_stmt (return_value x0 x1 x2) (return_value y0 y1 y2) e = λ i. return_value (coded_label.inj x0 y0 (ap part0 e) i) (coded_range.inj x1 y1 (ap part1 e) i) (coded_expr.inj x2 y2 (ap part2 e) i)
  inj_stmt (raise_statement x0 x1) (raise_statement y0 y1) e = λ i. raise_statement (coded_label.inj x0 y0 (ap part0 e) i) (coded_exception_name.inj x1 y1 (ap part1 e) i)
  inj_stmt (raise_again x0) (raise_again y0) e = λ i. raise_again (coded_label.inj x0 y0 (ap part0 e) i)
  inj_stmt (block_statement x0) (block_statement y0) e = λ i. block_statement (inj_block x0 y0 (ap part0 e) i)
  inj_stmt x y e = absurd (omega (arith, ap form e))

  pub inj_stmts : (x y : Stmts) → code_stmts x ≡ code_stmts y → x ≡ y
  inj_stmts no_statement no_statement e = refl
  inj_stmts (and_statement x0 x1) (and_statement y0 y1) e = λ i. and_statement (inj_stmt x0 y0 (ap part0 e) i) (inj_stmts x1 y1 (ap part1 e) i)
  inj_stmts x y e = absurd (omega (arith, ap form e))

  pub inj_branches : (x y : Branches) → code_branches x ≡ code_branches y → x ≡ y
  inj_branches (else_part x0) (else_part y0) e = λ i. else_part (inj_stmts x0 y0 (ap part0 e) i)
  inj_branches (branch x0 x1 x2 x3) (branch y0 y1 y2 y3) e = λ i. branch (coded_label.inj x0 y0 (ap part0 e) i) (coded_test.inj x1 y1 (ap part1 e) i) (inj_stmts x2 y2 (ap part2 e) i) (inj_branches x3 y3 (ap part3 e) i)
  inj_branches x y e = absurd (omega (arith, ap form e))

  pub inj_alternatives : (x y : Alternatives) → code_alternatives x ≡ code_alternatives y → x ≡ y
  inj_alternatives no_alternative no_alternative e = refl
  inj_alternatives (alternative x0 x1 x2) (alternative y0 y1 y2) e = λ i. alternative (coded_choices.inj x0 y0 (ap part0 e) i) (inj_stmts x1 y1 (ap part1 e) i) (inj_alternatives x2 y2 (ap part2 e) i)
  inj_alternatives x y e = absurd (omega (arith, ap form e))

  pub inj_handlers : (x y : Handlers) → code_handlers x ≡ code_handlers y → x ≡ y
  inj_handlers no_handler no_handler e = refl
  inj_handlers (handler x0 x1 x2) (handler y0 y1 y2) e = λ i. handler (coded_exception_choices.inj x0 y0 (ap part0 e) i) (inj_stmts x1 y1 (ap part1 e) i) (inj_handlers x2 y2 (ap part2 e) i)
  inj_handlers x y e = absurd (omega (arith, ap form e))

  pub inj_block : (x y : Block) → code_block x ≡ code_block y → x ≡ y
  inj_block (block x0 x1 x2) (block y0 y1 y2) e = λ i. block (coded_declarations.inj x0 y0 (ap part0 e) i) (inj_stmts x1 y1 (ap part1 e) i) (inj_handlers x2 y2 (ap part2 e) i)

abbrev pub coded_stmt : Coded Stmt
coded_stmt = record { code = code_stmt; inj = inj_stmt }

abbrev pub coded_stmts : Coded Stmts
coded_stmts = record { code = code_stmts; inj = inj_stmts }

abbrev pub coded_branches : Coded Branches
coded_branches = record { code = code_branches; inj = inj_branches }

abbrev pub coded_alternatives : Coded Alternatives
coded_alternatives = record { code = code_alternatives; inj = inj_alternatives }

abbrev pub coded_handlers : Coded Handlers
coded_handlers = record { code = code_handlers; inj = inj_handlers }

abbrev pub coded_block : Coded Block
coded_block = record { code = code_block; inj = inj_block }
