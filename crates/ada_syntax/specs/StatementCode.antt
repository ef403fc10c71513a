-- A code for statements: what the checker asks of plain data that stands for a value of the program. It says nothing of statements.
use Rattle.std.specs.Prelude.{◌≡◌, List, Option, refl}
use Rattle.std.proofs.Common.{ap, arith}
use Rattle.std.specs.Coded.{Coded, coded_option, coded_list, codes}
use base.Stored.{Gv, gnil, gnum, gcons}
use Rattle.ada_syntax.specs.Tree.{Expr, Name}
use Rattle.ada_syntax.specs.TreeCode.{coded_pos, coded_expr, coded_name, form, part0, part1, part2, part3, part4}
use Rattle.ada_syntax.specs.declared.declaration.Declaration.{Declaration}
use Rattle.ada_syntax.specs.declared.declaration.Initial.{Initial}
use Rattle.ada_syntax.specs.declared.declaration.Pragma.{Pragma}
use Rattle.ada_syntax.specs.declared.statement.Choice.{Choice}
use Rattle.ada_syntax.specs.declared.statement.ExceptionChoice.{ExceptionChoice}
use Rattle.ada_syntax.specs.declared.statement.LoopScheme.{LoopScheme}
use Rattle.ada_syntax.specs.StatementTree.{Statement, null, assignment, call, exemption, conditional, case_of, repeat, exit, returns, raise, block, Statements, no_statements, then_also, Branches, no_branches, branch, Alternatives, no_alternatives, alternative, Handlers, no_handlers, handler, Handled, handled}

pub coded_value : Coded (Option Expr)
coded_value = coded_option coded_expr

pub coded_exception : Coded (Option Name)
coded_exception = coded_option coded_name

pub coded_initial : Coded Initial
coded_initial = hlevel (codes, coded_expr, coded_name)

pub coded_pragma : Coded Pragma
coded_pragma = hlevel codes

pub coded_scheme : Coded LoopScheme
coded_scheme = hlevel (codes, coded_expr, coded_name)

pub coded_declaration : Coded Declaration
coded_declaration = hlevel (codes, coded_expr, coded_name)

pub coded_declarations : Coded (Option (List Declaration))
coded_declarations = coded_option (coded_list coded_declaration)

pub coded_choice : Coded Choice
coded_choice = hlevel (codes, coded_expr, coded_name)

pub coded_choices : Coded (List Choice)
coded_choices = coded_list coded_choice

pub coded_exception_choice : Coded ExceptionChoice
coded_exception_choice = hlevel (codes, coded_expr, coded_name)

pub coded_exceptions : Coded (List ExceptionChoice)
coded_exceptions = coded_list coded_exception_choice

-- the ghost value of a tree: the number of its form, and its parts
abbrev mutual
  pub code_statement : Statement → Gv
  code_statement (null x0) = gcons (gnum 0) (gcons (coded_pos.code x0) gnil)
  code_statement (assignment x0 x1 x2) = gcons (gnum 1) (gcons (coded_pos.code x0) (gcons (coded_name.code x1) (gcons (coded_initial.code x2) gnil)))
  code_statement (call x0 x1) = gcons (gnum 2) (gcons (coded_pos.code x0) (gcons (coded_name.code x1) gnil))
  code_statement (exemption x0 x1) = gcons (gnum 3) (gcons (coded_pos.code x0) (gcons (coded_pragma.code x1) gnil))
  code_statement (conditional x0 x1 x2 x3 x4) = gcons (gnum 4) (gcons (coded_pos.code x0) (gcons (coded_expr.code x1) (gcons (code_statements x2) (gcons (code_branches x3) (gcons (code_statements x4) gnil)))))
  code_statement (case_of x0 x1 x2) = gcons (gnum 5) (gcons (coded_pos.code x0) (gcons (coded_expr.code x1) (gcons (code_alternatives x2) gnil)))
  code_statement (repeat x0 x1 x2) = gcons (gnum 6) (gcons (coded_pos.code x0) (gcons (coded_scheme.code x1) (gcons (code_statements x2) gnil)))
  code_statement (exit x0 x1) = gcons (gnum 7) (gcons (coded_pos.code x0) (gcons (coded_value.code x1) gnil))
  code_statement (returns x0 x1) = gcons (gnum 8) (gcons (coded_pos.code x0) (gcons (coded_value.code x1) gnil))
  code_statement (raise x0 x1) = gcons (gnum 9) (gcons (coded_pos.code x0) (gcons (coded_exception.code x1) gnil))
  code_statement (block x0 x1 x2) = gcons (gnum 10) (gcons (coded_pos.code x0) (gcons (coded_declarations.code x1) (gcons (code_handled x2) gnil)))

  pub code_statements : Statements → Gv
  code_statements no_statements = gcons (gnum 0) gnil
  code_statements (then_also x0 x1) = gcons (gnum 1) (gcons (code_statement x0) (gcons (code_statements x1) gnil))

  pub code_branches : Branches → Gv
  code_branches no_branches = gcons (gnum 0) gnil
  code_branches (branch x0 x1 x2) = gcons (gnum 1) (gcons (coded_expr.code x0) (gcons (code_statements x1) (gcons (code_branches x2) gnil)))

  pub code_alternatives : Alternatives → Gv
  code_alternatives no_alternatives = gcons (gnum 0) gnil
  code_alternatives (alternative x0 x1 x2) = gcons (gnum 1) (gcons (coded_choices.code x0) (gcons (code_statements x1) (gcons (code_alternatives x2) gnil)))

  pub code_handlers : Handlers → Gv
  code_handlers no_handlers = gcons (gnum 0) gnil
  code_handlers (handler x0 x1 x2) = gcons (gnum 1) (gcons (coded_exceptions.code x0) (gcons (code_statements x1) (gcons (code_handlers x2) gnil)))

  pub code_handled : Handled → Gv
  code_handled (handled x0 x1) = gcons (gnum 0) (gcons (code_statements x0) (gcons (code_handlers x1) gnil))

-- trees with one ghost value are one
mutual
  pub inj_statement : (x y : Statement) → code_statement x ≡ code_statement y → x ≡ y
  inj_statement (null x0) (null y0) e = λ i. null (coded_pos.inj x0 y0 (ap part0 e) i)
  inj_statement (assignment x0 x1 x2) (assignment y0 y1 y2) e = λ i. assignment (coded_pos.inj x0 y0 (ap part0 e) i) (coded_name.inj x1 y1 (ap part1 e) i) (coded_initial.inj x2 y2 (ap part2 e) i)
  inj_statement (call x0 x1) (call y0 y1) e = λ i. call (coded_pos.inj x0 y0 (ap part0 e) i) (coded_name.inj x1 y1 (ap part1 e) i)
  inj_statement (exemption x0 x1) (exemption y0 y1) e = λ i. exemption (coded_pos.inj x0 y0 (ap part0 e) i) (coded_pragma.inj x1 y1 (ap part1 e) i)
  inj_statement (conditional x0 x1 x2 x3 x4) (conditional y0 y1 y2 y3 y4) e = λ i. conditional (coded_pos.inj x0 y0 (ap part0 e) i) (coded_expr.inj x1 y1 (ap part1 e) i) (inj_statements x2 y2 (ap part2 e) i) (inj_branches x3 y3 (ap part3 e) i) (inj_statements x4 y4 (ap part4 e) i)
  inj_statement (case_of x0 x1 x2) (case_of y0 y1 y2) e = λ i. case_of (coded_pos.inj x0 y0 (ap part0 e) i) (coded_expr.inj x1 y1 (ap part1 e) i) (inj_alternatives x2 y2 (ap part2 e) i)
  inj_statement (repeat x0 x1 x2) (repeat y0 y1 y2) e = λ i. repeat (coded_pos.inj x0 y0 (ap part0 e) i) (coded_scheme.inj x1 y1 (ap part1 e) i) (inj_statements x2 y2 (ap part2 e) i)
  inj_statement (exit x0 x1) (exit y0 y1) e = λ i. exit (coded_pos.inj x0 y0 (ap part0 e) i) (coded_value.inj x1 y1 (ap part1 e) i)
  inj_statement (returns x0 x1) (returns y0 y1) e = λ i. returns (coded_pos.inj x0 y0 (ap part0 e) i) (coded_value.inj x1 y1 (ap part1 e) i)
  inj_statement (raise x0 x1) (raise y0 y1) e = λ i. raise (coded_pos.inj x0 y0 (ap part0 e) i) (coded_exception.inj x1 y1 (ap part1 e) i)
  inj_statement (block x0 x1 x2) (block y0 y1 y2) e = λ i. block (coded_pos.inj x0 y0 (ap part0 e) i) (coded_declarations.inj x1 y1 (ap part1 e) i) (inj_handled x2 y2 (ap part2 e) i)
  inj_statement x y e = absurd (omega (arith, ap form e))

  pub inj_statements : (x y : Statements) → code_statements x ≡ code_statements y → x ≡ y
  inj_statements no_statements no_statements e = refl
  inj_statements (then_also x0 x1) (then_also y0 y1) e = λ i. then_also (inj_statement x0 y0 (ap part0 e) i) (inj_statements x1 y1 (ap part1 e) i)
  inj_statements x y e = absurd (omega (arith, ap form e))

  pub inj_branches : (x y : Branches) → code_branches x ≡ code_branches y → x ≡ y
  inj_branches no_branches no_branches e = refl
  inj_branches (branch x0 x1 x2) (branch y0 y1 y2) e = λ i. branch (coded_expr.inj x0 y0 (ap part0 e) i) (inj_statements x1 y1 (ap part1 e) i) (inj_branches x2 y2 (ap part2 e) i)
  inj_branches x y e = absurd (omega (arith, ap form e))

  pub inj_alternatives : (x y : Alternatives) → code_alternatives x ≡ code_alternatives y → x ≡ y
  inj_alternatives no_alternatives no_alternatives e = refl
  inj_alternatives (alternative x0 x1 x2) (alternative y0 y1 y2) e = λ i. alternative (coded_choices.inj x0 y0 (ap part0 e) i) (inj_statements x1 y1 (ap part1 e) i) (inj_alternatives x2 y2 (ap part2 e) i)
  inj_alternatives x y e = absurd (omega (arith, ap form e))

  pub inj_handlers : (x y : Handlers) → code_handlers x ≡ code_handlers y → x ≡ y
  inj_handlers no_handlers no_handlers e = refl
  inj_handlers (handler x0 x1 x2) (handler y0 y1 y2) e = λ i. handler (coded_exceptions.inj x0 y0 (ap part0 e) i) (inj_statements x1 y1 (ap part1 e) i) (inj_handlers x2 y2 (ap part2 e) i)
  inj_handlers x y e = absurd (omega (arith, ap form e))

  pub inj_handled : (x y : Handled) → code_handled x ≡ code_handled y → x ≡ y
  inj_handled (handled x0 x1) (handled y0 y1) e = λ i. handled (inj_statements x0 y0 (ap part0 e) i) (inj_handlers x1 y1 (ap part1 e) i)

abbrev pub coded_statement : Coded Statement
coded_statement = record { code = code_statement; inj = inj_statement }

abbrev pub coded_handled : Coded Handled
coded_handled = record { code = code_handled; inj = inj_handled }
