-- Code works in no more slots than a text has nodes.
use Rattle.std.proofs.Common.{ℕ, ◌+◌, ◌≤◌, List, [], ◌∷◌, arith}
use Rattle.ada_meaning.specs.Tree as tree
use Rattle.kernel_ir.specs.Limits.{most_arguments, widest}
use Rattle.frame_widths.specs.Ends.{end_of, end_of_actuals, end_of_parts, end_of_test, end_of_value, end_of_assignment, end_of_call, end_of_declarations, end_of_range, end_of_statement, end_of_statements, end_of_branches, end_of_alternatives, end_of_block, end_of_handlers}
use Rattle.frame_widths.proofs.Above.{end_is_above}
use Rattle.statement_code.specs.Sizes.{expr_nodes, parts_nodes, actuals_nodes, test_nodes, value_nodes, range_nodes, declarations_nodes, statement_nodes, statements_nodes, branches_nodes, alternatives_nodes, handlers_nodes, block_nodes}

mutual
  pub expr_narrow : (k : ℕ) (e : tree.Expr) → end_of k e ≤ k + expr_nodes e
  expr_narrow k (tree.literal x) = omega arith
  expr_narrow k (tree.constant e) = omega arith
  expr_narrow k (tree.attribute o parts e) = omega (arith, parts_narrow k parts)
  expr_narrow k (tree.read o parts) = omega (arith, parts_narrow k parts)
  expr_narrow k (tree.signed s e) = omega (arith, expr_narrow k e)
  expr_narrow k (tree.operation o e f) = omega (arith, expr_narrow k e, expr_narrow (k + 1) f)
  expr_narrow k (tree.relation r e f) = omega (arith, expr_narrow k e, expr_narrow (k + 1) f)
  expr_narrow k (tree.complement e) = omega (arith, expr_narrow k e)
  expr_narrow k (tree.conversion r e) = omega (arith, expr_narrow k e)
  expr_narrow k (tree.call c actuals) = omega (arith, actuals_narrow k actuals)
  expr_narrow k (tree.decision d t) = omega (arith, test_narrow k t)

  parts_narrow : (k : ℕ) (parts : tree.Parts) → end_of_parts k parts ≤ k + parts_nodes parts + 1
  parts_narrow k tree.whole = omega arith
  parts_narrow k (tree.component n parts) = omega (arith, parts_narrow k parts)
  parts_narrow k (tree.element r e parts) = omega (arith, expr_narrow (k + 1) e, parts_narrow k parts)

  actuals_narrow : (k : ℕ) (actuals : tree.Actuals) → end_of_actuals k actuals ≤ k + actuals_nodes actuals + 1
  actuals_narrow k tree.no_actual = omega arith
  actuals_narrow k (tree.by_expression e rest) = omega (arith, expr_narrow k e, end_is_above k e, actuals_narrow (k + 1) rest)
  actuals_narrow k (tree.by_variable o tree.whole r rest) = omega (arith, actuals_narrow (k + 1) rest)
  actuals_narrow k (tree.by_variable o (tree.component n parts) r rest) = omega (arith, parts_narrow k parts, actuals_narrow (k + 2) rest)
  actuals_narrow k (tree.by_variable o (tree.element t e parts) r rest) =
      omega (arith, expr_narrow (k + 1) e, end_is_above (k + 1) e, parts_narrow k parts, actuals_narrow (k + 2) rest)
  actuals_narrow k (tree.by_composite o parts rest) = omega (arith, parts_narrow k parts, actuals_narrow (k + 1) rest)

  test_narrow : (k : ℕ) (t : tree.Test) → end_of_test k t ≤ k + test_nodes t
  test_narrow k (tree.condition at e) = omega (arith, expr_narrow k e)
  test_narrow k (tree.negation t) = omega (arith, test_narrow k t)
  test_narrow k (tree.operator neutral t u) = omega (arith, test_narrow k t, test_narrow k u)

pub expr_counted : (e : tree.Expr) → 1 ≤ expr_nodes e
expr_counted e = omega (arith, expr_narrow 0 e, end_is_above 0 e)

value_counted : (v : tree.NewValue) → 1 ≤ value_nodes v
value_counted (tree.scalar_value r e) = expr_counted e
value_counted (tree.composite_value t o parts) = omega arith
value_counted (tree.others_value r v) = omega arith

range_counted : (ts : tree.LoopRange) → 1 ≤ range_nodes ts
range_counted (tree.over_subtype r) = omega arith
range_counted (tree.over_bounds e f) = omega (arith, expr_counted e)

value_narrow : (j : ℕ) (v : tree.NewValue) → end_of_value j v ≤ j + value_nodes v
value_narrow j (tree.scalar_value r e) = expr_narrow j e
value_narrow j (tree.composite_value t o parts) = omega (arith, parts_narrow j parts)
value_narrow j (tree.others_value r v) = omega (arith, value_narrow (j + 1) v, value_counted v)

assignment_narrow : (k : ℕ) (parts : tree.Parts) (v : tree.NewValue) → end_of_assignment k parts v ≤ k + parts_nodes parts + value_nodes v + 1
assignment_narrow k tree.whole (tree.scalar_value r e) = omega (arith, expr_narrow k e)
assignment_narrow k tree.whole (tree.composite_value t o parts) = omega (arith, parts_narrow (k + 1) parts)
assignment_narrow k tree.whole (tree.others_value r v) = omega (arith, value_narrow (k + 1) (tree.others_value r v))
assignment_narrow k (tree.component n parts) v = omega (arith, parts_narrow k (tree.component n parts), value_narrow (k + 1) v)
assignment_narrow k (tree.element r e parts) v = omega (arith, parts_narrow k (tree.element r e parts), value_narrow (k + 1) v)

call_narrow : (k : ℕ) (actuals : tree.Actuals) → end_of_call k actuals ≤ k + actuals_nodes actuals + 1
call_narrow k tree.no_actual = omega arith
call_narrow k (tree.by_expression e rest) = actuals_narrow k (tree.by_expression e rest)
call_narrow k (tree.by_variable o parts r rest) = omega (arith, parts_narrow k parts, actuals_narrow k (tree.by_variable o parts r rest))
call_narrow k (tree.by_composite o parts rest) = actuals_narrow k (tree.by_composite o parts rest)

declarations_narrow : (k : ℕ) (ds : List tree.Declaration) → end_of_declarations k ds ≤ k + declarations_nodes ds + 1
declarations_narrow k [] = omega arith
declarations_narrow k (tree.initialized l d v ∷ ds) = omega (arith, assignment_narrow k tree.whole v, declarations_narrow k ds)
declarations_narrow k (tree.without_value d t ∷ ds) = omega (arith, declarations_narrow k ds)

range_narrow : (k : ℕ) (ts : tree.LoopRange) → end_of_range k ts ≤ k + range_nodes ts + 2
range_narrow k (tree.over_subtype r) = omega arith
range_narrow k (tree.over_bounds e f) = omega (arith, expr_narrow k e, expr_narrow (k + 1) f, expr_counted e)

mutual
  statement_narrow : (k : ℕ) (s : tree.Stmt) → end_of_statement k s ≤ k + statement_nodes s + 1
  statement_narrow k (tree.null_statement l) = omega arith
  statement_narrow k (tree.assignment l o parts v) = omega (arith, assignment_narrow k parts v)
  statement_narrow k (tree.procedure_call l c actuals) = omega (arith, call_narrow k actuals)
  statement_narrow k (tree.if_statement l bs) = omega (arith, branches_narrow k bs)
  statement_narrow k (tree.case_statement l e choices) = omega (arith, expr_narrow k e, expr_counted e, alternatives_narrow k choices)
  statement_narrow k (tree.bare_loop l ss) = omega (arith, statements_narrow k ss)
  statement_narrow k (tree.while_loop l d t ss) = omega (arith, test_narrow k t, statements_narrow k ss)
  statement_narrow k (tree.for_loop l d reversed ts ss) = omega (arith, range_narrow k ts, range_counted ts, statements_narrow (k + 2) ss)
  statement_narrow k (tree.exit_statement l) = omega arith
  statement_narrow k (tree.exit_when l d t) = omega (arith, test_narrow k t)
  statement_narrow k (tree.return_statement l) = omega arith
  statement_narrow k (tree.return_value l r e) = omega (arith, expr_narrow k e)
  statement_narrow k (tree.raise_statement l x) = omega arith
  statement_narrow k (tree.raise_again l) = omega arith
  statement_narrow k (tree.block_statement b) = omega (arith, block_narrow k b)

  statements_narrow : (k : ℕ) (ss : tree.Stmts) → end_of_statements k ss ≤ k + statements_nodes ss + 1
  statements_narrow k tree.no_statement = omega arith
  statements_narrow k (tree.and_statement s ss) = omega (arith, statement_narrow k s, statements_narrow k ss)

  branches_narrow : (k : ℕ) (bs : tree.Branches) → end_of_branches k bs ≤ k + branches_nodes bs + 1
  branches_narrow k (tree.else_part ss) = statements_narrow k ss
  branches_narrow k (tree.branch d t ss bs) = omega (arith, test_narrow k t, statements_narrow k ss, branches_narrow k bs)

  alternatives_narrow : (k : ℕ) (choices : tree.Alternatives) → end_of_alternatives k choices ≤ k + alternatives_nodes choices + 1
  alternatives_narrow k tree.no_alternative = omega arith
  alternatives_narrow k (tree.alternative cs ss rest) = omega (arith, statements_narrow k ss, alternatives_narrow k rest)

  handlers_narrow : (k : ℕ) (hs : tree.Handlers) → end_of_handlers k hs ≤ k + handlers_nodes hs + 2
  handlers_narrow k tree.no_handler = omega arith
  handlers_narrow k (tree.handler cs ss hs) = omega (arith, statements_narrow (k + 1) ss, handlers_narrow k hs)

  pub block_narrow : (k : ℕ) (b : tree.Block) → end_of_block k b ≤ k + block_nodes b + 2
  block_narrow k (tree.block ds ss hs) = omega (arith, declarations_narrow k ds, statements_narrow k ss, handlers_narrow k hs)

-- the frame of a body with so many words of its own is no wider than a frame may be
pub frame_narrow : (k : ℕ) (b : tree.Block) → k ≤ 3000 → block_nodes b ≤ 4096 → end_of_block k b + most_arguments ≤ widest
frame_narrow k b few small = omega (arith, block_narrow k b, few, small)
