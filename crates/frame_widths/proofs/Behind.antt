-- Code works in as many slots wherever it begins.
use Rattle.std.proofs.Common.{◌≡◌, ℕ, ◌+◌, List, [], ◌∷◌, arith}
use Rattle.ada_meaning.specs.Tree as tree
use Rattle.frame_widths.specs.Ends.{end_of, end_of_actuals, end_of_parts, end_of_test, end_of_value, end_of_assignment, end_of_call, end_of_declarations, end_of_range, end_of_statement, end_of_statements, end_of_branches, end_of_alternatives, end_of_block, end_of_handlers}

mutual
  pub expr_behind : (k n j : ℕ) (e : tree.Expr) → n ≡ k + j → end_of n e ≡ k + end_of j e
  expr_behind k n j (tree.literal x) is = omega (arith, is)
  expr_behind k n j (tree.constant e) is = omega (arith, is)
  expr_behind k n j (tree.attribute o parts e) is = parts_behind k n j parts is
  expr_behind k n j (tree.read o parts) is = parts_behind k n j parts is
  expr_behind k n j (tree.signed s e) is = expr_behind k n j e is
  expr_behind k n j (tree.operation o e f) is = omega (arith, expr_behind k n j e is, expr_behind k (n + 1) (j + 1) f (omega (arith, is)))
  expr_behind k n j (tree.relation r e f) is = omega (arith, expr_behind k n j e is, expr_behind k (n + 1) (j + 1) f (omega (arith, is)))
  expr_behind k n j (tree.complement e) is = expr_behind k n j e is
  expr_behind k n j (tree.conversion r e) is = expr_behind k n j e is
  expr_behind k n j (tree.call c actuals) is = actuals_behind k n j actuals is
  expr_behind k n j (tree.decision d t) is = test_behind k n j t is

  pub actuals_behind : (k n j : ℕ) (actuals : tree.Actuals) → n ≡ k + j → end_of_actuals n actuals ≡ k + end_of_actuals j actuals
  actuals_behind k n j tree.no_actual is = omega (arith, is)
  actuals_behind k n j (tree.by_expression e rest) is = omega (arith, expr_behind k n j e is, actuals_behind k (n + 1) (j + 1) rest (omega (arith, is)))
  actuals_behind k n j (tree.by_variable o tree.whole r rest) is = actuals_behind k (n + 1) (j + 1) rest (omega (arith, is))
  actuals_behind k n j (tree.by_variable o (tree.component m parts) r rest) is =
      omega (arith, parts_behind k n j parts is, actuals_behind k (n + 2) (j + 2) rest (omega (arith, is)))
  actuals_behind k n j (tree.by_variable o (tree.element r e parts) s rest) is =
      omega (arith, expr_behind k (n + 1) (j + 1) e (omega (arith, is)), parts_behind k n j parts is, actuals_behind k (n + 2) (j + 2) rest (omega (arith, is)))
  actuals_behind k n j (tree.by_composite o parts rest) is =
      omega (arith, parts_behind k n j parts is, actuals_behind k (n + 1) (j + 1) rest (omega (arith, is)))

  pub parts_behind : (k n j : ℕ) (parts : tree.Parts) → n ≡ k + j → end_of_parts n parts ≡ k + end_of_parts j parts
  parts_behind k n j tree.whole is = omega (arith, is)
  parts_behind k n j (tree.component m parts) is = parts_behind k n j parts is
  parts_behind k n j (tree.element r e parts) is =
      omega (arith, expr_behind k (n + 1) (j + 1) e (omega (arith, is)), parts_behind k n j parts is)

  pub test_behind : (k n j : ℕ) (t : tree.Test) → n ≡ k + j → end_of_test n t ≡ k + end_of_test j t
  test_behind k n j (tree.condition at e) is = expr_behind k n j e is
  test_behind k n j (tree.negation t) is = test_behind k n j t is
  test_behind k n j (tree.operator neutral t u) is = omega (arith, test_behind k n j t is, test_behind k n j u is)

pub value_behind : (k n j : ℕ) (v : tree.NewValue) → n ≡ k + j → end_of_value n v ≡ k + end_of_value j v
value_behind k n j (tree.scalar_value r e) is = expr_behind k n j e is
value_behind k n j (tree.composite_value t o parts) is = parts_behind k n j parts is
value_behind k n j (tree.others_value r v) is = omega (arith, is, value_behind k (n + 1) (j + 1) v (omega (arith, is)))

assignment_behind : (k n j : ℕ) (parts : tree.Parts) (v : tree.NewValue) → n ≡ k + j → end_of_assignment n parts v ≡ k + end_of_assignment j parts v
assignment_behind k n j tree.whole (tree.scalar_value r e) is = expr_behind k n j e is
assignment_behind k n j tree.whole (tree.composite_value t o parts) is =
    omega (arith, is, value_behind k (n + 1) (j + 1) (tree.composite_value t o parts) (omega (arith, is)))
assignment_behind k n j tree.whole (tree.others_value r v) is =
    omega (arith, is, value_behind k (n + 1) (j + 1) (tree.others_value r v) (omega (arith, is)))
assignment_behind k n j (tree.component m parts) v is =
    omega (arith, parts_behind k n j parts is, value_behind k (n + 1) (j + 1) v (omega (arith, is)))
assignment_behind k n j (tree.element r e parts) v is =
    omega (arith, parts_behind k n j (tree.element r e parts) is, value_behind k (n + 1) (j + 1) v (omega (arith, is)))

call_behind : (k n j : ℕ) (actuals : tree.Actuals) → n ≡ k + j → end_of_call n actuals ≡ k + end_of_call j actuals
call_behind k n j tree.no_actual is = omega (arith, is)
call_behind k n j (tree.by_expression e rest) is = actuals_behind k n j (tree.by_expression e rest) is
call_behind k n j (tree.by_variable o parts r rest) is =
    omega (arith, is, parts_behind k n j parts is, actuals_behind k n j (tree.by_variable o parts r rest) is)
call_behind k n j (tree.by_composite o parts rest) is = actuals_behind k n j (tree.by_composite o parts rest) is

declarations_behind : (k n j : ℕ) (ds : List tree.Declaration) → n ≡ k + j → end_of_declarations n ds ≡ k + end_of_declarations j ds
declarations_behind k n j [] is = omega (arith, is)
declarations_behind k n j (tree.initialized l d v ∷ ds) is =
    omega (arith, assignment_behind k n j tree.whole v is, declarations_behind k n j ds is)
declarations_behind k n j (tree.without_value d t ∷ ds) is = omega (arith, is, declarations_behind k n j ds is)

range_behind : (k n j : ℕ) (ts : tree.LoopRange) → n ≡ k + j → end_of_range n ts ≡ k + end_of_range j ts
range_behind k n j (tree.over_subtype r) is = omega (arith, is)
range_behind k n j (tree.over_bounds e f) is =
    omega (arith, is, expr_behind k n j e is, expr_behind k (n + 1) (j + 1) f (omega (arith, is)))

mutual
  statement_behind : (k n j : ℕ) (s : tree.Stmt) → n ≡ k + j → end_of_statement n s ≡ k + end_of_statement j s
  statement_behind k n j (tree.null_statement l) is = omega (arith, is)
  statement_behind k n j (tree.assignment l o parts v) is = assignment_behind k n j parts v is
  statement_behind k n j (tree.procedure_call l c actuals) is = call_behind k n j actuals is
  statement_behind k n j (tree.if_statement l bs) is = branches_behind k n j bs is
  statement_behind k n j (tree.case_statement l e choices) is =
      omega (arith, is, expr_behind k n j e is, alternatives_behind k n j choices is)
  statement_behind k n j (tree.bare_loop l ss) is = statements_behind k n j ss is
  statement_behind k n j (tree.while_loop l d t ss) is = omega (arith, test_behind k n j t is, statements_behind k n j ss is)
  statement_behind k n j (tree.for_loop l d reversed ts ss) is =
      omega (arith, range_behind k n j ts is, statements_behind k (n + 2) (j + 2) ss (omega (arith, is)))
  statement_behind k n j (tree.exit_statement l) is = omega (arith, is)
  statement_behind k n j (tree.exit_when l d t) is = test_behind k n j t is
  statement_behind k n j (tree.return_statement l) is = omega (arith, is)
  statement_behind k n j (tree.return_value l r e) is = expr_behind k n j e is
  statement_behind k n j (tree.raise_statement l x) is = omega (arith, is)
  statement_behind k n j (tree.raise_again l) is = omega (arith, is)
  statement_behind k n j (tree.block_statement b) is = block_behind k n j b is

  pub statements_behind : (k n j : ℕ) (ss : tree.Stmts) → n ≡ k + j → end_of_statements n ss ≡ k + end_of_statements j ss
  statements_behind k n j tree.no_statement is = omega (arith, is)
  statements_behind k n j (tree.and_statement s ss) is = omega (arith, statement_behind k n j s is, statements_behind k n j ss is)

  branches_behind : (k n j : ℕ) (bs : tree.Branches) → n ≡ k + j → end_of_branches n bs ≡ k + end_of_branches j bs
  branches_behind k n j (tree.else_part ss) is = statements_behind k n j ss is
  branches_behind k n j (tree.branch d t ss bs) is =
      omega (arith, test_behind k n j t is, statements_behind k n j ss is, branches_behind k n j bs is)

  alternatives_behind : (k n j : ℕ) (xs : tree.Alternatives) → n ≡ k + j → end_of_alternatives n xs ≡ k + end_of_alternatives j xs
  alternatives_behind k n j tree.no_alternative is = omega (arith, is)
  alternatives_behind k n j (tree.alternative cs ss xs) is = omega (arith, statements_behind k n j ss is, alternatives_behind k n j xs is)

  pub block_behind : (k n j : ℕ) (b : tree.Block) → n ≡ k + j → end_of_block n b ≡ k + end_of_block j b
  block_behind k n j (tree.block ds ss hs) is =
      omega (arith, declarations_behind k n j ds is, statements_behind k n j ss is, handlers_behind k n j hs is)

  handlers_behind : (k n j : ℕ) (hs : tree.Handlers) → n ≡ k + j → end_of_handlers n hs ≡ k + end_of_handlers j hs
  handlers_behind k n j tree.no_handler is = omega (arith, is)
  handlers_behind k n j (tree.handler cs ss hs) is =
      omega (arith, is, statements_behind k (n + 1) (j + 1) ss (omega (arith, is)), handlers_behind k n j hs is)
