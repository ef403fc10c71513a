use Rattle.std.proofs.Common.{[], refl, sym, ap, ◌∙◌, arith}
use Rattle.ada_meaning.specs.Collected.{after_if, after_while, after_exit, in_expr, in_parts, in_actuals, in_value, in_turns, in_stmts, in_alternatives, all_labels, alternative_labels}
use Rattle.ada_tree.specs.Sizes.{stmt_size, stmts_size, alternatives_size}
use Rattle.ada_tree.specs.View.{label_of, parts_of, actuals_of, turns_of, value_of, statements_of, alternatives_of, handlers_of, statement_at}
use Rattle.obligations.specs.Entries.{of_label, of_nested, of_decision, of_declarations, of_statement, of_statements, of_alternatives, of_handlers, of_branch, of_branches}
use Rattle.obligations.proofs.Lists.{then_added, three_added, same_added, one_more, none_left, nothing_listed, statements_front, held_parts, held_behind, alternatives_front, handlers_front, loop_parts, while_parts, exit_parts, if_parts, block_parts}
use Rattle.ada_tree.proofs.Within.{alternative_within, handler_within}
use Rattle.obligations.proofs.Sizes.{statement_within, branch_within, else_behind, branch_size, all_branches_size}
use Rattle.obligations.proofs.statements.+statements.Goals as goal

pub add_block-returns : goal.add_block-returns
add_block-returns t c =
    let ds = c.block.inside.declarations in
    let ss = statements_of c.block.inside.statements.items in
    let hs = handlers_of c.block.inside.handlers.items in
    rw (← c.block.view_is)
    (same_added c.add_handlers.result _ _ _ _ (block_parts ds ss hs)
    (three_added c.add_handlers.result _ _ _ _ (of_declarations ds) (of_statements ss) (of_handlers hs)
    (rw c.as_slice.ensures at c.in_ok-add_declarations.ensures) (rw c.as_slice-2.ensures.value at c.in_ok-add_statements.ensures)
    (rw c.as_slice-3.ensures.value at c.add_handlers.ensures)))

pub add_branch-add_statements-requires : goal.add_branch-add_statements-requires
add_branch-add_statements-requires t c =
    (omega (arith, c.decreases, ap (λ ss. stmts_size (statements_of ss)) c.as_slice.ensures.value), tt)

pub add_branch-returns : goal.add_branch-returns
add_branch-returns t c =
    let b = c.args.branch.now in
    then_added c.add_statements.result _ _ _
    (of_decision after_if c.args.statement (label_of b.decision.label) b.decision.test) (of_statements (statements_of b.statements.items))
    (c.in_ok-add_decision.ensures after_if refl) (rw c.as_slice.ensures.value at c.add_statements.ensures)

pub add_statement-add_branches-requires : goal.add_statement-add_branches-requires
add_statement-add_branches-requires t c =
    let is = ap stmt_size (sym c.statement.view_is ∙ ap statement_at c.in-If.is) in
    let bs = c.in-If.branches.items in
    (omega (arith, c.decreases, is, else_behind bs (statements_of c.in-If.otherwise.items), ap all_branches_size c.as_slice-in-If.ensures.value), tt)

pub add_statement-add_statements-requires : goal.add_statement-add_statements-requires
add_statement-add_statements-requires t c =
    let is = ap stmt_size (sym c.statement.view_is ∙ ap statement_at c.in-If.is) in
    let bs = c.in-If.branches.items in (
      omega (
        arith,
        c.decreases,
        is,
        else_behind bs (statements_of c.in-If.otherwise.items),
        ap
            (λ ss. stmts_size (statements_of ss)) c.as_slice-in-If-2.ensures.value,
      ),
      tt,
    )

pub add_statement-add_statements-requires-in-Loop : goal.add_statement-add_statements-requires-in-Loop
add_statement-add_statements-requires-in-Loop t c =
    let is = ap stmt_size (sym c.statement.view_is ∙ ap statement_at c.in-Loop.is) in
    (omega (arith, c.decreases, is, ap (λ ss. stmts_size (statements_of ss)) c.as_slice-in-Loop.ensures.value), tt)

pub add_statement-add_statements-requires-in-While : goal.add_statement-add_statements-requires-in-While
add_statement-add_statements-requires-in-While t c =
    let is = ap stmt_size (sym c.statement.view_is ∙ ap statement_at c.in-While.is) in
    (omega (arith, c.decreases, is, ap (λ ss. stmts_size (statements_of ss)) c.as_slice-in-While.ensures.value), tt)

pub add_statement-returns-in_ok-add_statement-in-Assignment : goal.add_statement-returns-in_ok-add_statement-in-Assignment
add_statement-returns-in_ok-add_statement-in-Assignment t c =
    let l = label_of c.in-Assignment.label in
    let hs = in_value l.number (value_of c.in-Assignment.value) in
    rw (← c.statement.view_is, c.in-Assignment.is)
    (same_added c.add_in_value.result _ _ _ _ (held_parts l hs)
    (then_added c.add_in_value.result _ _ _ (of_label l) (of_nested hs) c.in_ok-add_statement-in-Assignment.ensures c.add_in_value.ensures))

pub add_statement-returns-in_ok-add_statement-in-Call : goal.add_statement-returns-in_ok-add_statement-in-Call
add_statement-returns-in_ok-add_statement-in-Call t c =
    let l = label_of c.in-Call.label in
    let hs = in_actuals l.number (actuals_of c.in-Call.actuals) in
    rw (← c.statement.view_is, c.in-Call.is)
    (same_added c.add_in_actuals.result _ _ _ _ (held_parts l hs)
    (then_added c.add_in_actuals.result _ _ _ (of_label l) (of_nested hs)
    c.in_ok-add_statement-in-Call.ensures (rw c.as_slice.ensures at c.add_in_actuals.ensures)))

pub add_statement-returns-in_ok-add_branches-in-If : goal.add_statement-returns-in_ok-add_branches-in-If
add_statement-returns-in_ok-add_branches-in-If t c =
    let l = label_of c.in-If.label in
    let bs = c.in-If.branches.items in
    let other = statements_of c.in-If.otherwise.items in
    rw (← c.statement.view_is, c.in-If.is)
    (same_added c.add_statements.result _ _ _ _ (if_parts l bs other)
    (three_added c.add_statements.result _ _ _ _ (of_label l) (of_branches l.number bs) (of_statements other)
    c.in_ok-add_statement-in-If.ensures (rw c.as_slice-in-If.ensures.value at c.in_ok-add_branches-in-If.ensures) (rw c.as_slice-in-If-2.ensures.value at c.add_statements.ensures)))

pub add_statement-returns-in_ok-add_statement-in-Loop : goal.add_statement-returns-in_ok-add_statement-in-Loop
add_statement-returns-in_ok-add_statement-in-Loop t c =
    let l = label_of c.in-Loop.label in
    let ss = statements_of c.in-Loop.body.items in
    rw (← c.statement.view_is, c.in-Loop.is)
    (same_added c.add_statements-in-Loop.result _ _ _ _ (loop_parts l ss)
    (then_added c.add_statements-in-Loop.result _ _ _ (of_label l) (of_statements ss)
    c.in_ok-add_statement-in-Loop.ensures (rw c.as_slice-in-Loop.ensures.value at c.add_statements-in-Loop.ensures)))

pub add_statement-returns-in_ok-add_decision-in-While : goal.add_statement-returns-in_ok-add_decision-in-While
add_statement-returns-in_ok-add_decision-in-While t c =
    let l = label_of c.in-While.label in
    let d = label_of c.in-While.decision.label in
    let test = c.in-While.decision.test in
    let ss = statements_of c.in-While.body.items in
    rw (← c.statement.view_is, c.in-While.is)
    (same_added c.add_statements-in-While.result _ _ _ _ (while_parts l d test ss)
    (three_added c.add_statements-in-While.result _ _ _ _ (of_label l) (of_decision after_while l.number d test) (of_statements ss)
    c.in_ok-add_statement-in-While.ensures (c.in_ok-add_decision-in-While.ensures after_while refl) (rw c.as_slice-in-While.ensures.value at c.add_statements-in-While.ensures)))

pub add_statement-returns-in_ok-add_statement-in-ExitWhen : goal.add_statement-returns-in_ok-add_statement-in-ExitWhen
add_statement-returns-in_ok-add_statement-in-ExitWhen t c =
    let l = label_of c.in-ExitWhen.label in
    let d = label_of c.in-ExitWhen.decision.label in
    let test = c.in-ExitWhen.decision.test in
    rw (← c.statement.view_is, c.in-ExitWhen.is)
    (same_added c.add_decision-in-ExitWhen.result _ _ _ _ (exit_parts l d test)
    (then_added c.add_decision-in-ExitWhen.result _ _ _ (of_label l) (of_decision after_exit l.number d test)
    c.in_ok-add_statement-in-ExitWhen.ensures (c.add_decision-in-ExitWhen.ensures after_exit refl)))

pub add_branches-add_branch-requires : goal.add_branches-add_branch-requires
add_branches-add_branch-requires t c = (
  omega (
    arith,
    c.decreases,
    branch_within c.args.branches.now c.loop-branch.branch-index c.branch-item.result (omega arith),
    ap
        branch_size c.branch-item.is,
  ),
  tt,
)

pub add_branches-loop-branch-preserved : goal.add_branches-loop-branch-preserved
add_branches-loop-branch-preserved t c =
    let b = c.branch-item.result in
    let n = c.args.statement in
    one_more (of_branches n) (of_branch n) (λ x xs. refl)
    c.args.branches.now c.loop-branch.branch-index b b _ _ c.loop-branch-test.true c.branch-item.is c.in_ok-add_branch.ensures
    ∙ c.loop-branch.invariant

pub add_branches-returns : goal.add_branches-returns
add_branches-returns t c =
    none_left (of_branches c.args.statement) refl
    c.args.branches.now c.loop-branch.branch-index _ _ (omega (arith, c.loop-branch-test.false)) c.loop-branch.invariant

pub add_statements-add_statement-requires : goal.add_statements-add_statement-requires
add_statements-add_statement-requires t c = (
  omega (
    arith,
    c.decreases,
    statement_within c.args.statements.now c.loop-statement.statement-index c.statement-item.result (omega arith),
    ap
        stmt_size c.statement-item.is,
  ),
  tt,
)

pub add_statements-loop-statement-preserved : goal.add_statements-loop-statement-preserved
add_statements-loop-statement-preserved t c =
    let s = c.statement-item.result in
    one_more (λ ss. of_statements (statements_of ss)) of_statement statements_front
    c.args.statements.now c.loop-statement.statement-index s s _ _ c.loop-statement-test.true c.statement-item.is c.in_ok-add_statement.ensures
    ∙ c.loop-statement.invariant

pub add_statements-returns : goal.add_statements-returns
add_statements-returns t c =
    none_left (λ ss. of_statements (statements_of ss)) nothing_listed
    c.args.statements.now c.loop-statement.statement-index _ _ (omega (arith, c.loop-statement-test.false)) c.loop-statement.invariant

pub add_statement-returns-in_ok-add_in_parts-in-PartAssignment : goal.add_statement-returns-in_ok-add_in_parts-in-PartAssignment
add_statement-returns-in_ok-add_in_parts-in-PartAssignment t c =
    let l = label_of c.in-PartAssignment.label in
    let held = in_parts l.number (parts_of c.in-PartAssignment.parts.items) in
    let set = in_value l.number (value_of c.in-PartAssignment.value) in
    rw (← c.statement.view_is, c.in-PartAssignment.is)
    (same_added c.add_in_value-in-PartAssignment.result _ _ _ _ (held_behind l held [] set)
    (three_added c.add_in_value-in-PartAssignment.result _ _ _ _ (of_label l) (of_nested held) (of_nested set)
    c.in_ok-add_statement-in-PartAssignment.ensures (rw c.as_slice-in-PartAssignment.ensures.value at c.in_ok-add_in_parts-in-PartAssignment.ensures)
    c.add_in_value-in-PartAssignment.ensures))

pub add_statement-add_alternatives-requires : goal.add_statement-add_alternatives-requires
add_statement-add_alternatives-requires t c =
    let is = ap stmt_size (sym c.statement.view_is ∙ ap statement_at c.in-Case.is) in
    (omega (arith, c.decreases, is, ap (λ xs. alternatives_size (alternatives_of xs)) c.as_slice-in-Case.ensures.value), tt)

pub add_statement-returns-in_ok-add_in_expression-in-Case : goal.add_statement-returns-in_ok-add_in_expression-in-Case
add_statement-returns-in_ok-add_in_expression-in-Case t c =
    let l = label_of c.in-Case.label in
    let held = in_expr l.number c.in-Case.expr in
    let xs = alternatives_of c.in-Case.alternatives.items in
    rw (← c.statement.view_is, c.in-Case.is)
    (same_added c.add_alternatives.result _ _ _ _ (held_behind l held (alternative_labels xs) (in_alternatives xs))
    (three_added c.add_alternatives.result _ _ _ _ (of_label l) (of_nested held) (of_alternatives xs)
    c.in_ok-add_statement-in-Case.ensures c.in_ok-add_in_expression-in-Case.ensures (rw c.as_slice-in-Case.ensures.value at c.add_alternatives.ensures)))

pub add_statement-add_statements-requires-in-For : goal.add_statement-add_statements-requires-in-For
add_statement-add_statements-requires-in-For t c =
    let is = ap stmt_size (sym c.statement.view_is ∙ ap statement_at c.in-For.is) in
    (omega (arith, c.decreases, is, ap (λ ss. stmts_size (statements_of ss)) c.as_slice-in-For.ensures.value), tt)

pub add_statement-returns-in_ok-add_in_turns-in-For : goal.add_statement-returns-in_ok-add_in_turns-in-For
add_statement-returns-in_ok-add_in_turns-in-For t c =
    let l = label_of c.in-For.label in
    let held = in_turns l.number (turns_of c.in-For.scheme.values) in
    let ss = statements_of c.in-For.body.items in
    rw (← c.statement.view_is, c.in-For.is)
    (same_added c.add_statements-in-For.result _ _ _ _ (held_behind l held (all_labels ss) (in_stmts ss))
    (three_added c.add_statements-in-For.result _ _ _ _ (of_label l) (of_nested held) (of_statements ss)
    c.in_ok-add_statement-in-For.ensures c.in_ok-add_in_turns-in-For.ensures (rw c.as_slice-in-For.ensures.value at c.add_statements-in-For.ensures)))

pub add_statement-returns-in_ok-add_statement-in-ReturnValue : goal.add_statement-returns-in_ok-add_statement-in-ReturnValue
add_statement-returns-in_ok-add_statement-in-ReturnValue t c =
    let l = label_of c.in-ReturnValue.label in
    let hs = in_expr l.number c.in-ReturnValue.expr in
    rw (← c.statement.view_is, c.in-ReturnValue.is)
    (same_added c.add_in_expression-in-ReturnValue.result _ _ _ _ (held_parts l hs)
    (then_added c.add_in_expression-in-ReturnValue.result _ _ _ (of_label l) (of_nested hs)
    c.in_ok-add_statement-in-ReturnValue.ensures c.add_in_expression-in-ReturnValue.ensures))

pub add_alternatives-add_statements-requires : goal.add_alternatives-add_statements-requires
add_alternatives-add_statements-requires t c = (
  omega (
    arith,
    c.decreases,
    alternative_within c.args.alternatives.now c.loop-alternative.alternative-index c.alternative-item.result (omega arith),
    ap (λ x. stmts_size (statements_of x.statements.items)) c.alternative-item.is,
    ap (λ xs. stmts_size (statements_of xs)) c.as_slice.ensures.value,
  ),
  tt,
)

pub add_alternatives-loop-alternative-preserved : goal.add_alternatives-loop-alternative-preserved
add_alternatives-loop-alternative-preserved t c =
    let a = c.alternative-item.result in
    one_more (λ xs. of_alternatives (alternatives_of xs)) (λ x. of_statements (statements_of x.statements.items)) alternatives_front
    c.args.alternatives.now c.loop-alternative.alternative-index a a _ _ c.loop-alternative-test.true c.alternative-item.is
    (rw c.as_slice.ensures.value at c.in_ok-add_statements.ensures)
    ∙ c.loop-alternative.invariant

pub add_alternatives-returns : goal.add_alternatives-returns
add_alternatives-returns t c =
    none_left (λ xs. of_alternatives (alternatives_of xs)) nothing_listed
    c.args.alternatives.now c.loop-alternative.alternative-index _ _ (omega (arith, c.loop-alternative-test.false)) c.loop-alternative.invariant

pub add_handlers-add_statements-requires : goal.add_handlers-add_statements-requires
add_handlers-add_statements-requires t c = (
  omega (
    arith,
    c.decreases,
    handler_within c.args.handlers.now c.loop-handler.handler-index c.handler-item.result (omega arith),
    ap (λ x. stmts_size (statements_of x.statements.items)) c.handler-item.is,
    ap (λ xs. stmts_size (statements_of xs)) c.as_slice.ensures.value,
  ),
  tt,
)

pub add_handlers-loop-handler-preserved : goal.add_handlers-loop-handler-preserved
add_handlers-loop-handler-preserved t c =
    let h = c.handler-item.result in
    one_more (λ xs. of_handlers (handlers_of xs)) (λ x. of_statements (statements_of x.statements.items)) handlers_front
    c.args.handlers.now c.loop-handler.handler-index h h _ _ c.loop-handler-test.true c.handler-item.is
    (rw c.as_slice.ensures.value at c.in_ok-add_statements.ensures)
    ∙ c.loop-handler.invariant

pub add_handlers-returns : goal.add_handlers-returns
add_handlers-returns t c =
    none_left (λ xs. of_handlers (handlers_of xs)) nothing_listed
    c.args.handlers.now c.loop-handler.handler-index _ _ (omega (arith, c.loop-handler-test.false)) c.loop-handler.invariant
