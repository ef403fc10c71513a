-- How large expressions and statements are: a tree is larger than each of its parts.
use Rattle.std.specs.Prelude.{ℕ, ◌+◌}
use Rattle.ada_meaning.specs.Tree.{Expr, literal, constant, attribute, read, signed, operation, relation, complement, conversion, call, decision, Parts, whole, component, element, Actuals, no_actual, by_expression, by_variable, by_composite, Test, condition, negation, operator, Stmt, null_statement, assignment, procedure_call, if_statement, case_statement, bare_loop, while_loop, for_loop, exit_statement, exit_when, return_statement, return_value, raise_statement, raise_again, block_statement, Stmts, no_statement, and_statement, Branches, else_part, branch, Alternatives, no_alternative, alternative, Handlers, no_handler, handler, Block, block}

abbrev mutual
  pub expr_size : Expr → ℕ
  expr_size (literal x) = 1
  expr_size (constant e) = 1
  expr_size (attribute o parts e) = parts_size parts + 1
  expr_size (read o parts) = parts_size parts + 1
  expr_size (signed s e) = expr_size e + 1
  expr_size (operation o e f) = expr_size e + expr_size f + 1
  expr_size (relation r e f) = expr_size e + expr_size f + 1
  expr_size (complement e) = expr_size e + 1
  expr_size (conversion r e) = expr_size e + 1
  expr_size (call c actuals) = actuals_size actuals + 1
  expr_size (decision d t) = test_size t + 1

  pub parts_size : Parts → ℕ
  parts_size whole = 0
  parts_size (component n parts) = parts_size parts + 1
  parts_size (element r e parts) = expr_size e + parts_size parts + 1

  pub actuals_size : Actuals → ℕ
  actuals_size no_actual = 0
  actuals_size (by_expression e actuals) = expr_size e + actuals_size actuals + 1
  actuals_size (by_variable o parts r actuals) = parts_size parts + actuals_size actuals + 1
  actuals_size (by_composite o parts actuals) = parts_size parts + actuals_size actuals + 1

  pub test_size : Test → ℕ
  test_size (condition at e) = expr_size e + 1
  test_size (negation t) = test_size t + 1
  test_size (operator neutral t u) = test_size t + test_size u + 1

abbrev mutual
  pub stmt_size : Stmt → ℕ
  stmt_size (null_statement l) = 1
  stmt_size (assignment l o parts v) = 1
  stmt_size (procedure_call l c actuals) = 1
  stmt_size (if_statement l bs) = branches_size bs + 1
  stmt_size (case_statement l e choices) = alternatives_size choices + 1
  stmt_size (bare_loop l ss) = stmts_size ss + 1
  stmt_size (while_loop l d t ss) = stmts_size ss + 1
  stmt_size (for_loop l d reversed r ss) = stmts_size ss + 1
  stmt_size (exit_statement l) = 1
  stmt_size (exit_when l d t) = 1
  stmt_size (return_statement l) = 1
  stmt_size (return_value l r e) = 1
  stmt_size (raise_statement l x) = 1
  stmt_size (raise_again l) = 1
  stmt_size (block_statement b) = block_size b + 1

  pub stmts_size : Stmts → ℕ
  stmts_size no_statement = 0
  stmts_size (and_statement s ss) = stmt_size s + stmts_size ss

  pub branches_size : Branches → ℕ
  branches_size (else_part ss) = stmts_size ss
  branches_size (branch d t ss bs) = stmts_size ss + branches_size bs + 1

  pub alternatives_size : Alternatives → ℕ
  alternatives_size no_alternative = 0
  alternatives_size (alternative cs ss rest) = stmts_size ss + alternatives_size rest + 1

  pub handlers_size : Handlers → ℕ
  handlers_size no_handler = 0
  handlers_size (handler cs ss hs) = stmts_size ss + handlers_size hs + 1

  pub block_size : Block → ℕ
  block_size (block ds ss hs) = stmts_size ss + handlers_size hs + 1
