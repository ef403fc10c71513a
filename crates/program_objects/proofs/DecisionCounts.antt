-- A program has no more decisions than nodes.
use Rattle.std.proofs.Common.{◌≤◌, ℕ, List, [], ◌∷◌, ◌++◌, length, sum_by, arith, length-append}
use Rattle.std.proofs.lemmas.List.Sums.{sum_by-cons}
use Rattle.ada_meaning.specs.Collected.{in_expr, in_parts, in_actuals, in_test, in_value, in_turns, in_declarations, in_stmt, in_stmts, in_branches, in_alternatives, in_handlers, in_block, decisions_of}
use Rattle.ada_meaning.specs.Program.{Subprogram}
use Rattle.ada_meaning.specs.Tree as tree
use Rattle.statement_code.specs.Sizes.{expr_nodes, parts_nodes, actuals_nodes, test_nodes, value_nodes, range_nodes, declarations_nodes, statement_nodes, statements_nodes, branches_nodes, alternatives_nodes, handlers_nodes, block_nodes, subprogram_nodes}

module _ (n : ℕ) where
  mutual
    expr_decided : (e : tree.Expr) → length (in_expr n e) ≤ expr_nodes e
    expr_decided (tree.literal x) = omega arith
    expr_decided (tree.constant e) = omega arith
    expr_decided (tree.attribute o parts e) = omega (arith, parts_decided parts)
    expr_decided (tree.read o parts) = omega (arith, parts_decided parts)
    expr_decided (tree.signed s e) = omega (arith, expr_decided e)
    expr_decided (tree.operation o e f) = omega (arith, length-append (in_expr n e) (in_expr n f), expr_decided e, expr_decided f)
    expr_decided (tree.relation r e f) = omega (arith, length-append (in_expr n e) (in_expr n f), expr_decided e, expr_decided f)
    expr_decided (tree.complement e) = omega (arith, expr_decided e)
    expr_decided (tree.conversion r e) = omega (arith, expr_decided e)
    expr_decided (tree.call c actuals) = omega (arith, actuals_decided actuals)
    expr_decided (tree.decision d t) = omega (arith, test_decided t)

    parts_decided : (parts : tree.Parts) → length (in_parts n parts) ≤ parts_nodes parts
    parts_decided tree.whole = omega arith
    parts_decided (tree.component m parts) = omega (arith, parts_decided parts)
    parts_decided (tree.element r e parts) = omega (arith, length-append (in_expr n e) (in_parts n parts), expr_decided e, parts_decided parts)

    actuals_decided : (actuals : tree.Actuals) → length (in_actuals n actuals) ≤ actuals_nodes actuals
    actuals_decided tree.no_actual = omega arith
    actuals_decided (tree.by_expression e rest) = omega (arith, length-append (in_expr n e) (in_actuals n rest), expr_decided e, actuals_decided rest)
    actuals_decided (tree.by_variable o parts r rest) = omega (arith, length-append (in_parts n parts) (in_actuals n rest), parts_decided parts, actuals_decided rest)
    actuals_decided (tree.by_composite o parts rest) = omega (arith, length-append (in_parts n parts) (in_actuals n rest), parts_decided parts, actuals_decided rest)

    test_decided : (t : tree.Test) → length (in_test n t) ≤ test_nodes t
    test_decided (tree.condition at e) = expr_decided e
    test_decided (tree.negation t) = omega (arith, test_decided t)
    test_decided (tree.operator neutral t u) = omega (arith, length-append (in_test n t) (in_test n u), test_decided t, test_decided u)

  value_decided : (v : tree.NewValue) → length (in_value n v) ≤ value_nodes v
  value_decided (tree.scalar_value r e) = expr_decided e
  value_decided (tree.composite_value t o parts) = omega (arith, parts_decided parts)
  value_decided (tree.others_value r v) = omega (arith, value_decided v)

  turns_decided : (ts : tree.LoopRange) → length (in_turns n ts) ≤ range_nodes ts
  turns_decided (tree.over_subtype r) = omega arith
  turns_decided (tree.over_bounds e f) = omega (arith, length-append (in_expr n e) (in_expr n f), expr_decided e, expr_decided f)

declarations_decided : (ds : List tree.Declaration) → length (in_declarations ds) ≤ declarations_nodes ds
declarations_decided [] = omega arith
declarations_decided (tree.initialized l d v ∷ ds) = omega (arith, length-append (in_value l.number v) (in_declarations ds), value_decided l.number v, declarations_decided ds)
declarations_decided (tree.without_value d t ∷ ds) = omega (arith, declarations_decided ds)

mutual
  statement_decided : (s : tree.Stmt) → length (in_stmt s) ≤ statement_nodes s
  statement_decided (tree.null_statement l) = omega arith
  statement_decided (tree.assignment l o parts v) = omega (arith, length-append (in_parts l.number parts) (in_value l.number v), parts_decided l.number parts, value_decided l.number v)
  statement_decided (tree.procedure_call l c actuals) = omega (arith, actuals_decided l.number actuals)
  statement_decided (tree.if_statement l bs) = omega (arith, branches_decided l.number bs)
  statement_decided (tree.case_statement l e xs) = omega (arith, length-append (in_expr l.number e) (in_alternatives xs), expr_decided l.number e, alternatives_decided xs)
  statement_decided (tree.bare_loop l ss) = omega (arith, statements_decided ss)
  statement_decided (tree.while_loop l d t ss) = omega (arith, length-append (in_test l.number t) (in_stmts ss), test_decided l.number t, statements_decided ss)
  statement_decided (tree.for_loop l d reversed ts ss) = omega (arith, length-append (in_turns l.number ts) (in_stmts ss), turns_decided l.number ts, statements_decided ss)
  statement_decided (tree.exit_statement l) = omega arith
  statement_decided (tree.exit_when l d t) = omega (arith, test_decided l.number t)
  statement_decided (tree.return_statement l) = omega arith
  statement_decided (tree.return_value l r e) = omega (arith, expr_decided l.number e)
  statement_decided (tree.raise_statement l x) = omega arith
  statement_decided (tree.raise_again l) = omega arith
  statement_decided (tree.block_statement b) = omega (arith, block_decided b)

  statements_decided : (ss : tree.Stmts) → length (in_stmts ss) ≤ statements_nodes ss
  statements_decided tree.no_statement = omega arith
  statements_decided (tree.and_statement s ss) = omega (arith, length-append (in_stmt s) (in_stmts ss), statement_decided s, statements_decided ss)

  branches_decided : (n : ℕ) (bs : tree.Branches) → length (in_branches n bs) ≤ branches_nodes bs
  branches_decided n (tree.else_part ss) = statements_decided ss
  branches_decided n (tree.branch d t ss bs) =
      omega (
        arith,
        length-append (in_test n t ++ in_stmts ss) (in_branches n bs),
        length-append (in_test n t) (in_stmts ss),
        test_decided n t,
        statements_decided ss,
        branches_decided n bs,
      )

  alternatives_decided : (xs : tree.Alternatives) → length (in_alternatives xs) ≤ alternatives_nodes xs
  alternatives_decided tree.no_alternative = omega arith
  alternatives_decided (tree.alternative cs ss xs) = omega (arith, length-append (in_stmts ss) (in_alternatives xs), statements_decided ss, alternatives_decided xs)

  handlers_decided : (hs : tree.Handlers) → length (in_handlers hs) ≤ handlers_nodes hs
  handlers_decided tree.no_handler = omega arith
  handlers_decided (tree.handler cs ss hs) = omega (arith, length-append (in_stmts ss) (in_handlers hs), statements_decided ss, handlers_decided hs)

  block_decided : (b : tree.Block) → length (in_block b) ≤ block_nodes b
  block_decided (tree.block ds ss hs) =
      let front = in_declarations ds in
      omega (arith, length-append (front ++ in_stmts ss) (in_handlers hs), length-append front (in_stmts ss), declarations_decided ds, statements_decided ss, handlers_decided hs)

pub decisions_few : (ss : List Subprogram) → length (decisions_of ss) ≤ sum_by subprogram_nodes ss
decisions_few [] = omega arith
decisions_few (s ∷ ss) = omega (arith, length-append (in_block s.body) (decisions_of ss), block_decided s.body, decisions_few ss, sum_by-cons subprogram_nodes s ss)
