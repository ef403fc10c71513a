use Rattle.std.proofs.Common.{[], ◌∷◌, map, sym, ap, ◌∙◌, arith}
use Rattle.std.proofs.lemmas.Result.{err_from_is_err_and}
use Rattle.ada_syntax.specs.StatementTree as text
use Rattle.ada_syntax.specs.StatementTree.{statement_size, statements_size}
use Rattle.ada_syntax.specs.StatementView.{statement_at, statements_of, alternatives_of}
use Rattle.ada_syntax.proofs.StatementSizeLaws.{statement_within, branch_within, alternative_within, handler_within}
use Rattle.ada_rules.specs.Environment.{given}
use Rattle.ada_rules.specs.Statements as rules
use Rattle.ada_phrases.proofs.Parts.{answers_as}
use Rattle.statement_parts.specs.Cases.{arm_in}
use Rattle.program_walk.specs.declared.walk.Walk.{Walk}
use Rattle.program_walk.specs.States.{state_of}
use Rattle.ada_entities.specs.RegionCode.{innermost}
use Rattle.statements.proofs.HandlerRows.{handlers_first, handlers_last}
use Rattle.statements.specs.Made.{conditional_of, some_in_program}
use Rattle.statements.specs.Nested.{all_in_tree, branch_in}
use Rattle.statements.proofs.SimpleLaws.{same_symbols}
use Rattle.statements.proofs.Steps.{goes, if_ok, then_grows, failure_continues, made_answers, made_continues, made_grown, region_gone}
use Rattle.statements.proofs.Rows.{reaches_first, reaches_next, refuses_next, reaches_last}
use Rattle.statements.proofs.RowsOf.{statement_by, statements_by, rows_of_statements, branch_by, branches_by, rows_of_branches, first_branch_reaches, arm_by, arms_by, rows_of_arms}
use Rattle.statements.proofs.nested.+statements.Answers.IfSteps as ifs
use Rattle.statements.proofs.nested.+statements.Answers.CaseSteps as cases
use Rattle.statements.proofs.nested.+statements.Answers.LoopSteps as loops
use Rattle.statements.proofs.nested.+statements.Answers.BlockSteps as blocks
use Rattle.statements.proofs.nested.+statements.Answers.HandlerSteps as handlers
use Rattle.statements.proofs.nested.+statements.Goals as goal
mod IfSteps
mod CaseSteps
mod LoopSteps
mod BlockSteps
mod HandlerSteps

pub branch-all_stated-requires : goal.branch-all_stated-requires
branch-all_stated-requires t c =
    (omega (arith, c.decreases, ap (λ xs. statements_size (statements_of xs)) c.as_slice.ensures.value), tt)

pub branch-returns-in_err-decision-clause-comes : goal.branch-returns-in_err-decision-clause-comes
branch-returns-in_err-decision-clause-comes t c = ifs.branch-returns-in_err-decision-clause-comes t c

pub branch-returns-in_err-decision-clause-continues : goal.branch-returns-in_err-decision-clause-continues
branch-returns-in_err-decision-clause-continues t c =
    let w = c.args.walk.now in
    let v : Walk = record w { notes = record w.notes { decisions = c.decision.new.decisions } } in
    goes w v _ (λ k b. record { symbols = b.symbols; spans = b.spans })

pub branch-returns-in_err-statements-clause-comes : goal.branch-returns-in_err-statements-clause-comes
branch-returns-in_err-statements-clause-comes t c = ifs.branch-returns-in_err-statements-clause-comes t c

pub branch-returns-in_err-statements-clause-continues : goal.branch-returns-in_err-statements-clause-continues
branch-returns-in_err-statements-clause-continues t c = ifs.branch-returns-in_err-statements-clause-continues t c

pub branch-returns-clause-comes : goal.branch-returns-clause-comes
branch-returns-clause-comes t c = ifs.branch-returns-clause-comes t c

pub branch-returns-clause-continues : goal.branch-returns-clause-continues
branch-returns-clause-continues t c k b =
    let m = c.in_ok-statements.ensures.continues k b in
    record { symbols = m.symbols; spans = m.spans }

pub branch-returns-clause-grown : goal.branch-returns-clause-grown
branch-returns-clause-grown t c =
    c.in_ok-statements.ensures.grown

pub arm-all_stated-requires : goal.arm-all_stated-requires
arm-all_stated-requires t c =
    (omega (arith, c.decreases, ap (λ xs. statements_size (statements_of xs)) c.as_slice.ensures.value), tt)

pub arm-returns-in_err-choices-clause-comes : goal.arm-returns-in_err-choices-clause-comes
arm-returns-in_err-choices-clause-comes t c = cases.arm-returns-in_err-choices-clause-comes t c

pub arm-returns-in_err-choices-clause-continues : goal.arm-returns-in_err-choices-clause-continues
arm-returns-in_err-choices-clause-continues t c =
    let w = c.args.walk.now in
    let v : Walk = record w { notes = c.all_chosen.new.notes } in
    goes w v _ (λ k b. record { symbols = b.symbols; spans = b.spans })

pub arm-returns-in_err-statements-clause-comes : goal.arm-returns-in_err-statements-clause-comes
arm-returns-in_err-statements-clause-comes t c = cases.arm-returns-in_err-statements-clause-comes t c

pub arm-returns-in_err-statements-clause-continues : goal.arm-returns-in_err-statements-clause-continues
arm-returns-in_err-statements-clause-continues t c = cases.arm-returns-in_err-statements-clause-continues t c

pub arm-returns-clause-comes : goal.arm-returns-clause-comes
arm-returns-clause-comes t c = cases.arm-returns-clause-comes t c

pub arm-returns-clause-continues : goal.arm-returns-clause-continues
arm-returns-clause-continues t c k b =
    let m = c.in_ok-statements.ensures.continues k b in
    record { symbols = m.symbols; spans = m.spans }

pub arm-returns-clause-grown : goal.arm-returns-clause-grown
arm-returns-clause-grown t c =
    c.in_ok-statements.ensures.grown

pub all_arms-arm-requires : goal.all_arms-arm-requires
all_arms-arm-requires t c = (
  omega (
    arith,
    c.decreases,
    alternative_within c.args.alternatives.now c.loop-alternative.alternative-index c.alternative-item.result (omega
        arith),
    ap (λ x. statements_size (statements_of x.statements.items)) c.alternative-item.is,
  ),
  tt,
)

pub all_arms-returns-in_err-next-clause-comes : goal.all_arms-returns-in_err-next-clause-comes
all_arms-returns-in_err-next-clause-comes t c = cases.all_arms-returns-in_err-next-clause-comes t c

pub all_arms-returns-in_err-next-clause-continues : goal.all_arms-returns-in_err-next-clause-continues
all_arms-returns-in_err-next-clause-continues t c = cases.all_arms-returns-in_err-next-clause-continues t c

pub all_arms-returns-clause-comes : goal.all_arms-returns-clause-comes
all_arms-returns-clause-comes t c p k env h b =
    reaches_last (arm_by c.args.selector.now) (λ y. y ∷ []) (arms_by c.args.selector.now) (rows_of_arms c.args.selector.now) c.args.context.now
    c.args.walk.now c.loop-alternative.walk c.args.alternatives.now c.args.alternatives.now c.loop-alternative.alternative-index (λ k. map (arm_in k)
    c.loop-alternative.arms.items) c.loop-alternative.invariant c.loop-alternative-test.false p k env h b

pub all_arms-returns-clause-continues : goal.all_arms-returns-clause-continues
all_arms-returns-clause-continues t c =
    c.loop-alternative.invariant.continues

pub all_arms-returns-clause-grown : goal.all_arms-returns-clause-grown
all_arms-returns-clause-grown t c =
    c.loop-alternative.invariant.grows

pub all_arms-loop-alternative-init : goal.all_arms-loop-alternative-init
all_arms-loop-alternative-init t c =
    rw c.new-arms.ensures.items (reaches_first (arms_by c.args.selector.now) c.args.context.now c.args.walk.now c.args.alternatives.now)

pub all_arms-loop-alternative-preserved : goal.all_arms-loop-alternative-preserved
all_arms-loop-alternative-preserved t c = cases.all_arms-loop-alternative-preserved t c

pub all_arms-returns-in_err-push-clause-continues : goal.all_arms-returns-in_err-push-clause-continues
all_arms-returns-in_err-push-clause-continues t c =
    goes c.args.walk.now c.arm.new.walk _ (λ k b. c.loop-alternative.invariant.continues k (c.in_ok-next.ensures.continues k b))

pub all_branches-branch-alloc-requires-in-loop-other : goal.all_branches-branch-alloc-requires-in-loop-other
all_branches-branch-alloc-requires-in-loop-other t c = (
  omega (
    arith,
    c.decreases,
    branch_within c.args.others.now c.loop-other.other-index c.other-item.result (omega arith),
    ap (λ x. statements_size
        (statements_of x.statements.items)) c.other-item.is,
  ),
  tt,
)

pub all_branches-returns-in_err-next-clause-comes : goal.all_branches-returns-in_err-next-clause-comes
all_branches-returns-in_err-next-clause-comes t c = ifs.all_branches-returns-in_err-next-clause-comes t c

pub all_branches-returns-in_err-next-clause-continues : goal.all_branches-returns-in_err-next-clause-continues
all_branches-returns-in_err-next-clause-continues t c = ifs.all_branches-returns-in_err-next-clause-continues t c

pub all_branches-returns-clause-comes : goal.all_branches-returns-clause-comes
all_branches-returns-clause-comes t c k env h b =
    reaches_last (branch_by c.args.pos) (λ y. y ∷ []) (branches_by c.args.pos) (rows_of_branches c.args.pos)
    c.args.context.now c.args.walk.now c.loop-other.walk (c.args.first.now ∷
    c.args.others.now) c.args.others.now c.loop-other.other-index (λ k. map (branch_in k) c.loop-other.branches.items) c.loop-other.invariant
    c.loop-other-test.false c.args.pos k env h b

pub all_branches-returns-clause-continues : goal.all_branches-returns-clause-continues
all_branches-returns-clause-continues t c =
    c.loop-other.invariant.continues

pub all_branches-returns-clause-grown : goal.all_branches-returns-clause-grown
all_branches-returns-clause-grown t c =
    c.loop-other.invariant.grows

pub all_branches-returns-in_err-first-clause-comes : goal.all_branches-returns-in_err-first-clause-comes
all_branches-returns-in_err-first-clause-comes t c = ifs.all_branches-returns-in_err-first-clause-comes t c

pub all_branches-returns-in_err-first-clause-continues : goal.all_branches-returns-in_err-first-clause-continues
all_branches-returns-in_err-first-clause-continues t c =
    let e = err_from_is_err_and c.from_residual.result c.from_residual.ensures.1 in
    rw (e.1, e.2) (let w = c.args.walk.now in
    failure_continues w w c.branch-alloc.new.walk c.in_err-first.field-0.0 (λ k b. b) c.in_err-first.ensures.continues)

pub all_branches-branch-alloc-requires : goal.all_branches-branch-alloc-requires
all_branches-branch-alloc-requires t c =
    (omega (arith, c.decreases), tt)

pub all_branches-loop-other-init : goal.all_branches-loop-other-init
all_branches-loop-other-init t c =
    let first = first_branch_reaches c.args.pos c.args.context.now c.args.walk.now c.branch-alloc.new.walk c.args.first.now
    c.args.others.now c.in_ok-first.first
    c.in_ok-first.ensures.continues c.in_ok-first.ensures.grown c.in_ok-first.ensures.comes in
    rw (c.in_ok-push.ensures.items, c.new-branches.ensures.items) first

pub all_branches-loop-other-preserved : goal.all_branches-loop-other-preserved
all_branches-loop-other-preserved t c = ifs.all_branches-loop-other-preserved t c

pub all_stated-stated-requires : goal.all_stated-stated-requires
all_stated-stated-requires t c = (
  omega (
    arith,
    c.decreases,
    statement_within c.args.statements.now c.loop-statement.statement-index c.statement-item.result (omega arith),
    ap
        statement_size c.statement-item.is,
  ),
  tt,
)

pub all_stated-returns-in_err-found-clause-comes : goal.all_stated-returns-in_err-found-clause-comes
all_stated-returns-in_err-found-clause-comes t c p k env h b =
    let e = err_from_is_err_and c.from_residual.result c.from_residual.ensures.1 in
    rw (e.1, e.2) (
    refuses_next statement_by (λ ys. ys) statements_by rows_of_statements c.args.context.now c.args.walk.now c.loop-statement.walk
    c.args.statements.now c.args.statements.now c.loop-statement.statement-index (λ k. all_in_tree k c.loop-statement.made.items)
    c.loop-statement.invariant c.stated.new.walk c.statement-item.result c.in_err-found.field-0.0 c.loop-statement-test.true c.statement-item.is
    c.in_err-found.ensures.continues (λ p. c.in_err-found.ensures.comes) p k env h b)

pub all_stated-returns-in_err-found-clause-continues : goal.all_stated-returns-in_err-found-clause-continues
all_stated-returns-in_err-found-clause-continues t c =
    let e = err_from_is_err_and c.from_residual.result c.from_residual.ensures.1 in
    rw (e.1, e.2) (failure_continues c.args.walk.now c.loop-statement.walk c.stated.new.walk c.in_err-found.field-0.0
    c.loop-statement.invariant.continues
    c.in_err-found.ensures.continues)

pub all_stated-returns-clause-comes : goal.all_stated-returns-clause-comes
all_stated-returns-clause-comes t c p k env h b =
    reaches_last statement_by (λ ys. ys) statements_by rows_of_statements c.args.context.now c.args.walk.now c.loop-statement.walk
    c.args.statements.now c.args.statements.now c.loop-statement.statement-index (λ k. all_in_tree k c.loop-statement.made.items)
    c.loop-statement.invariant c.loop-statement-test.false p k env h b

pub all_stated-returns-clause-continues : goal.all_stated-returns-clause-continues
all_stated-returns-clause-continues t c =
    c.loop-statement.invariant.continues

pub all_stated-returns-clause-grown : goal.all_stated-returns-clause-grown
all_stated-returns-clause-grown t c =
    c.loop-statement.invariant.grows

pub all_stated-loop-statement-init : goal.all_stated-loop-statement-init
all_stated-loop-statement-init t c =
    rw c.new-made.ensures.items (reaches_first statements_by c.args.context.now c.args.walk.now c.args.statements.now)

pub all_stated-loop-statement-preserved : goal.all_stated-loop-statement-preserved
all_stated-loop-statement-preserved t c =
    reaches_next statement_by (λ ys. ys) statements_by rows_of_statements c.args.context.now c.args.walk.now c.loop-statement.walk
    c.args.statements.now c.args.statements.now c.loop-statement.statement-index (λ k. all_in_tree k c.loop-statement.made.items)
    c.loop-statement.invariant c.stated.new.walk c.statement-item.result (λ k. some_in_program k c.in_ok-found.found) (λ k. all_in_tree k
    c.add.new.made.items)
    c.loop-statement-test.true c.statement-item.is c.in_ok-found.ensures.continues c.in_ok-found.ensures.grown (λ p. c.in_ok-found.ensures.comes)
    c.in_ok-add.ensures

pub stated-returns-in-Null-clause-comes : goal.stated-returns-in-Null-clause-comes
stated-returns-in-Null-clause-comes t c k env h b =
    let n = state_of k c.null_at.new.walk in
    answers_as (λ t. given (some_in_program k t) n) _ _ c.made.result
    (ap (λ x. (rules.stated env (state_of k c.args.walk.now) x).answer) (sym c.statement.view_is ∙ ap (statement_at c.statement.inside.pos)
    c.in-Null.is))
    (made_answers k n _ c.null_at.result c.made.result c.made.ensures (c.null_at.ensures.comes k env h b))

pub stated-returns-in-Null-clause-continues : goal.stated-returns-in-Null-clause-continues
stated-returns-in-Null-clause-continues t c =
    made_continues _ c.null_at.result c.made.result c.made.ensures c.null_at.ensures.continues

pub stated-returns-in-Null-clause-grown : goal.stated-returns-in-Null-clause-grown
stated-returns-in-Null-clause-grown t c =
    made_grown _ c.null_at.result c.made.result c.made.ensures c.null_at.ensures.grown

pub stated-returns-in-Assignment-clause-comes : goal.stated-returns-in-Assignment-clause-comes
stated-returns-in-Assignment-clause-comes t c k env h b =
    let n = state_of k c.assignment_at.new.walk in
    answers_as (λ t. given (some_in_program k t) n) _ _ c.made-in-Assignment.result
    (ap (λ x. (rules.stated env (state_of k c.args.walk.now) x).answer) (sym c.statement.view_is ∙ ap (statement_at c.statement.inside.pos)
    c.in-Assignment.is))
    (made_answers k n _ c.assignment_at.result c.made-in-Assignment.result c.made-in-Assignment.ensures (c.assignment_at.ensures.comes k env h b))

pub stated-returns-in-Assignment-clause-continues : goal.stated-returns-in-Assignment-clause-continues
stated-returns-in-Assignment-clause-continues t c =
    made_continues _ c.assignment_at.result c.made-in-Assignment.result c.made-in-Assignment.ensures c.assignment_at.ensures.continues

pub stated-returns-in-Assignment-clause-grown : goal.stated-returns-in-Assignment-clause-grown
stated-returns-in-Assignment-clause-grown t c =
    made_grown _ c.assignment_at.result c.made-in-Assignment.result c.made-in-Assignment.ensures c.assignment_at.ensures.grown

pub stated-returns-in-Call-clause-comes : goal.stated-returns-in-Call-clause-comes
stated-returns-in-Call-clause-comes t c k env h b =
    let n = state_of k c.call_at.new.walk in
    answers_as (λ t. given (some_in_program k t) n) _ _ c.made-in-Call.result
    (ap (λ x. (rules.stated env (state_of k c.args.walk.now) x).answer) (sym c.statement.view_is ∙ ap (statement_at c.statement.inside.pos)
    c.in-Call.is))
    (made_answers k n _ c.call_at.result c.made-in-Call.result c.made-in-Call.ensures (c.call_at.ensures.comes k env h b))

pub stated-returns-in-Call-clause-continues : goal.stated-returns-in-Call-clause-continues
stated-returns-in-Call-clause-continues t c =
    made_continues _ c.call_at.result c.made-in-Call.result c.made-in-Call.ensures c.call_at.ensures.continues

pub stated-returns-in-Call-clause-grown : goal.stated-returns-in-Call-clause-grown
stated-returns-in-Call-clause-grown t c =
    made_grown _ c.call_at.result c.made-in-Call.result c.made-in-Call.ensures c.call_at.ensures.grown

pub stated-returns-in-Exit-clause-comes : goal.stated-returns-in-Exit-clause-comes
stated-returns-in-Exit-clause-comes t c k env h b =
    let n = state_of k c.any_exit_at.new.walk in
    answers_as (λ t. given (some_in_program k t) n) _ _ c.made-in-Exit.result
    (ap (λ x. (rules.stated env (state_of k c.args.walk.now) x).answer) (sym c.statement.view_is ∙ ap (statement_at c.statement.inside.pos)
    c.in-Exit.is))
    (made_answers k n _ c.any_exit_at.result c.made-in-Exit.result c.made-in-Exit.ensures (c.any_exit_at.ensures.comes k env h b))

pub stated-returns-in-Exit-clause-continues : goal.stated-returns-in-Exit-clause-continues
stated-returns-in-Exit-clause-continues t c =
    made_continues _ c.any_exit_at.result c.made-in-Exit.result c.made-in-Exit.ensures c.any_exit_at.ensures.continues

pub stated-returns-in-Exit-clause-grown : goal.stated-returns-in-Exit-clause-grown
stated-returns-in-Exit-clause-grown t c =
    made_grown _ c.any_exit_at.result c.made-in-Exit.result c.made-in-Exit.ensures c.any_exit_at.ensures.grown

pub stated-returns-in-Return-clause-comes : goal.stated-returns-in-Return-clause-comes
stated-returns-in-Return-clause-comes t c k env h b =
    let n = state_of k c.any_return_at.new.walk in
    answers_as (λ t. given (some_in_program k t) n) _ _ c.made-in-Return.result
    (ap (λ x. (rules.stated env (state_of k c.args.walk.now) x).answer) (sym c.statement.view_is ∙ ap (statement_at c.statement.inside.pos)
    c.in-Return.is))
    (made_answers k n _ c.any_return_at.result c.made-in-Return.result c.made-in-Return.ensures (c.any_return_at.ensures.comes k env h b))

pub stated-returns-in-Return-clause-continues : goal.stated-returns-in-Return-clause-continues
stated-returns-in-Return-clause-continues t c =
    made_continues _ c.any_return_at.result c.made-in-Return.result c.made-in-Return.ensures c.any_return_at.ensures.continues

pub stated-returns-in-Return-clause-grown : goal.stated-returns-in-Return-clause-grown
stated-returns-in-Return-clause-grown t c =
    made_grown _ c.any_return_at.result c.made-in-Return.result c.made-in-Return.ensures c.any_return_at.ensures.grown

pub stated-returns-in-Raise-clause-comes : goal.stated-returns-in-Raise-clause-comes
stated-returns-in-Raise-clause-comes t c k env h b =
    let n = state_of k c.any_raise_at.new.walk in
    answers_as (λ t. given (some_in_program k t) n) _ _ c.made-in-Raise.result
    (ap (λ x. (rules.stated env (state_of k c.args.walk.now) x).answer) (sym c.statement.view_is ∙ ap (statement_at c.statement.inside.pos)
    c.in-Raise.is))
    (made_answers k n _ c.any_raise_at.result c.made-in-Raise.result c.made-in-Raise.ensures (c.any_raise_at.ensures.comes k env h b))

pub stated-returns-in-Raise-clause-continues : goal.stated-returns-in-Raise-clause-continues
stated-returns-in-Raise-clause-continues t c =
    made_continues _ c.any_raise_at.result c.made-in-Raise.result c.made-in-Raise.ensures c.any_raise_at.ensures.continues

pub stated-returns-in-Raise-clause-grown : goal.stated-returns-in-Raise-clause-grown
stated-returns-in-Raise-clause-grown t c =
    made_grown _ c.any_raise_at.result c.made-in-Raise.result c.made-in-Raise.ensures c.any_raise_at.ensures.grown

pub stated-returns-in-Block-clause-comes : goal.stated-returns-in-Block-clause-comes
stated-returns-in-Block-clause-comes t c k env h b =
    let n = state_of k c.block_at.new.walk in
    answers_as (λ t. given (some_in_program k t) n) _ _ c.made-in-Block.result
    (ap (λ x. (rules.stated env (state_of k c.args.walk.now) x).answer) (sym c.statement.view_is ∙ ap (statement_at c.statement.inside.pos)
    c.in-Block.is))
    (made_answers k n _ c.block_at.result c.made-in-Block.result c.made-in-Block.ensures (c.block_at.ensures.comes c.statement.inside.pos k env h b))

pub stated-returns-in-Block-clause-continues : goal.stated-returns-in-Block-clause-continues
stated-returns-in-Block-clause-continues t c =
    made_continues _ c.block_at.result c.made-in-Block.result c.made-in-Block.ensures c.block_at.ensures.continues

pub stated-returns-in-Block-clause-grown : goal.stated-returns-in-Block-clause-grown
stated-returns-in-Block-clause-grown t c =
    made_grown _ c.block_at.result c.made-in-Block.result c.made-in-Block.ensures c.block_at.ensures.grown

pub stated-returns-in-If-clause-comes : goal.stated-returns-in-If-clause-comes
stated-returns-in-If-clause-comes t c k env h b =
    let n = state_of k c.if_at.new.walk in
    answers_as (λ t. given (some_in_program k t) n) _ _ c.made-in-If.result
    (ap (λ x. (rules.stated env (state_of k c.args.walk.now) x).answer) (sym c.statement.view_is ∙ ap (statement_at c.statement.inside.pos) c.in-If.is
    ∙ (λ z. conditional_of c.statement.inside.pos c.in-If.first (sym c.as_slice-others.ensures.value z) (sym c.as_slice-otherwise.ensures.value z))))
    (made_answers k n _ c.if_at.result c.made-in-If.result c.made-in-If.ensures (c.if_at.ensures.comes k env h b))

pub stated-returns-in-If-clause-continues : goal.stated-returns-in-If-clause-continues
stated-returns-in-If-clause-continues t c =
    made_continues _ c.if_at.result c.made-in-If.result c.made-in-If.ensures c.if_at.ensures.continues

pub stated-returns-in-If-clause-grown : goal.stated-returns-in-If-clause-grown
stated-returns-in-If-clause-grown t c =
    made_grown _ c.if_at.result c.made-in-If.result c.made-in-If.ensures c.if_at.ensures.grown

pub stated-returns-in-Case-clause-comes : goal.stated-returns-in-Case-clause-comes
stated-returns-in-Case-clause-comes t c k env h b =
    let n = state_of k c.case_at.new.walk in
    answers_as (λ t. given (some_in_program k t) n) _ _ c.made-in-Case.result
    (ap (λ x. (rules.stated env (state_of k c.args.walk.now) x).answer) (sym c.statement.view_is ∙ ap (statement_at c.statement.inside.pos)
    c.in-Case.is ∙ ap (λ xs. text.case_of c.statement.inside.pos c.in-Case.expr (alternatives_of xs)) (sym c.as_slice-alternatives.ensures.value)))
    (made_answers k n _ c.case_at.result c.made-in-Case.result c.made-in-Case.ensures (c.case_at.ensures.comes k env h b))

pub stated-returns-in-Case-clause-continues : goal.stated-returns-in-Case-clause-continues
stated-returns-in-Case-clause-continues t c =
    made_continues _ c.case_at.result c.made-in-Case.result c.made-in-Case.ensures c.case_at.ensures.continues

pub stated-returns-in-Case-clause-grown : goal.stated-returns-in-Case-clause-grown
stated-returns-in-Case-clause-grown t c =
    made_grown _ c.case_at.result c.made-in-Case.result c.made-in-Case.ensures c.case_at.ensures.grown

pub stated-returns-in-Loop-clause-comes : goal.stated-returns-in-Loop-clause-comes
stated-returns-in-Loop-clause-comes t c k env h b =
    let n = state_of k c.loop_at.new.walk in
    answers_as (λ t. given (some_in_program k t) n) _ _ c.made-in-Loop.result
    (ap (λ x. (rules.stated env (state_of k c.args.walk.now) x).answer) (sym c.statement.view_is ∙ ap (statement_at c.statement.inside.pos)
    c.in-Loop.is ∙ ap (λ xs. text.repeat c.statement.inside.pos c.in-Loop.scheme (statements_of xs)) (sym c.as_slice-statements.ensures.value)))
    (made_answers k n _ c.loop_at.result c.made-in-Loop.result c.made-in-Loop.ensures (c.loop_at.ensures.comes k env h b))

pub stated-returns-in-Loop-clause-continues : goal.stated-returns-in-Loop-clause-continues
stated-returns-in-Loop-clause-continues t c =
    made_continues _ c.loop_at.result c.made-in-Loop.result c.made-in-Loop.ensures c.loop_at.ensures.continues

pub stated-returns-in-Loop-clause-grown : goal.stated-returns-in-Loop-clause-grown
stated-returns-in-Loop-clause-grown t c =
    made_grown _ c.loop_at.result c.made-in-Loop.result c.made-in-Loop.ensures c.loop_at.ensures.grown

pub stated-returns-in-Pragma-clause-comes : goal.stated-returns-in-Pragma-clause-comes
stated-returns-in-Pragma-clause-comes t c k env h b =
    ap (λ x. (rules.stated env (state_of k c.args.walk.now) x).answer) (sym c.statement.view_is ∙ ap (statement_at c.statement.inside.pos)
    c.in-Pragma.is)

pub stated-returns-in-Pragma-clause-continues : goal.stated-returns-in-Pragma-clause-continues
stated-returns-in-Pragma-clause-continues t c k b =
    b

pub stated-returns-in-Pragma-clause-grown : goal.stated-returns-in-Pragma-clause-grown
stated-returns-in-Pragma-clause-grown t c =
    same_symbols c.args.walk.now.symbols

pub loop_at-returns-in-Forever-clause-comes : goal.loop_at-returns-in-Forever-clause-comes
loop_at-returns-in-Forever-clause-comes t c k env h b =
    rw c.in-Forever.is (c.forever_at.ensures.comes k env h b)

pub loop_at-returns-in-Forever-clause-continues : goal.loop_at-returns-in-Forever-clause-continues
loop_at-returns-in-Forever-clause-continues t c =
    c.forever_at.ensures.continues

pub loop_at-returns-in-Forever-clause-grown : goal.loop_at-returns-in-Forever-clause-grown
loop_at-returns-in-Forever-clause-grown t c =
    c.forever_at.ensures.grown

pub loop_at-returns-in-While-clause-comes : goal.loop_at-returns-in-While-clause-comes
loop_at-returns-in-While-clause-comes t c k env h b =
    rw c.in-While.is (c.while_at.ensures.comes k env h b)

pub loop_at-returns-in-While-clause-continues : goal.loop_at-returns-in-While-clause-continues
loop_at-returns-in-While-clause-continues t c =
    c.while_at.ensures.continues

pub loop_at-returns-in-While-clause-grown : goal.loop_at-returns-in-While-clause-grown
loop_at-returns-in-While-clause-grown t c =
    c.while_at.ensures.grown

pub loop_at-returns-in-For-clause-comes : goal.loop_at-returns-in-For-clause-comes
loop_at-returns-in-For-clause-comes t c k env h b =
    rw c.in-For.is (c.for_at.ensures.comes k env h b)

pub loop_at-returns-in-For-clause-continues : goal.loop_at-returns-in-For-clause-continues
loop_at-returns-in-For-clause-continues t c =
    c.for_at.ensures.continues

pub loop_at-returns-in-For-clause-grown : goal.loop_at-returns-in-For-clause-grown
loop_at-returns-in-For-clause-grown t c =
    c.for_at.ensures.grown

pub forever_at-returns-in_err-statements-clause-comes : goal.forever_at-returns-in_err-statements-clause-comes
forever_at-returns-in_err-statements-clause-comes t c = loops.forever_at-returns-in_err-statements-clause-comes t c

pub forever_at-returns-in_err-statements-clause-continues : goal.forever_at-returns-in_err-statements-clause-continues
forever_at-returns-in_err-statements-clause-continues t c = loops.forever_at-returns-in_err-statements-clause-continues t c

pub forever_at-returns-clause-comes : goal.forever_at-returns-clause-comes
forever_at-returns-clause-comes t c = loops.forever_at-returns-clause-comes t c

pub forever_at-returns-clause-continues : goal.forever_at-returns-clause-continues
forever_at-returns-clause-continues t c k b =
    let m = c.in_ok-statements.ensures.continues k b in
    record { symbols = m.symbols; spans = m.spans }

pub forever_at-returns-clause-grown : goal.forever_at-returns-clause-grown
forever_at-returns-clause-grown t c =
    c.in_ok-statements.ensures.grown

pub while_at-returns-clause-continues : goal.while_at-returns-clause-continues
while_at-returns-clause-continues t c k b =
    let m = c.in_ok-statements.ensures.continues k b in
    record { symbols = m.symbols; spans = m.spans }

pub while_at-returns-clause-grown : goal.while_at-returns-clause-grown
while_at-returns-clause-grown t c =
    c.in_ok-statements.ensures.grown

pub while_at-returns-in_err-decision-clause-comes : goal.while_at-returns-in_err-decision-clause-comes
while_at-returns-in_err-decision-clause-comes t c = loops.while_at-returns-in_err-decision-clause-comes t c

pub while_at-returns-in_err-decision-clause-continues : goal.while_at-returns-in_err-decision-clause-continues
while_at-returns-in_err-decision-clause-continues t c = loops.while_at-returns-in_err-decision-clause-continues t c

pub while_at-returns-in_err-statements-clause-comes : goal.while_at-returns-in_err-statements-clause-comes
while_at-returns-in_err-statements-clause-comes t c = loops.while_at-returns-in_err-statements-clause-comes t c

pub while_at-returns-in_err-statements-clause-continues : goal.while_at-returns-in_err-statements-clause-continues
while_at-returns-in_err-statements-clause-continues t c = loops.while_at-returns-in_err-statements-clause-continues t c

pub while_at-returns-clause-comes : goal.while_at-returns-clause-comes
while_at-returns-clause-comes t c = loops.while_at-returns-clause-comes t c

pub if_at-returns-in_err-branches-clause-comes : goal.if_at-returns-in_err-branches-clause-comes
if_at-returns-in_err-branches-clause-comes t c = ifs.if_at-returns-in_err-branches-clause-comes t c

pub if_at-returns-in_err-branches-clause-continues : goal.if_at-returns-in_err-branches-clause-continues
if_at-returns-in_err-branches-clause-continues t c = ifs.if_at-returns-in_err-branches-clause-continues t c

pub if_at-returns-in_err-otherwise-clause-comes : goal.if_at-returns-in_err-otherwise-clause-comes
if_at-returns-in_err-otherwise-clause-comes t c = ifs.if_at-returns-in_err-otherwise-clause-comes t c

pub if_at-returns-in_err-otherwise-clause-continues : goal.if_at-returns-in_err-otherwise-clause-continues
if_at-returns-in_err-otherwise-clause-continues t c = ifs.if_at-returns-in_err-otherwise-clause-continues t c

pub if_at-returns-clause-comes : goal.if_at-returns-clause-comes
if_at-returns-clause-comes t c = ifs.if_at-returns-clause-comes t c

pub if_at-returns-clause-continues : goal.if_at-returns-clause-continues
if_at-returns-clause-continues t c k b =
    let m = c.in_ok-branches.ensures.continues k (c.in_ok-otherwise.ensures.continues k b) in
    record { symbols = m.symbols; spans = m.spans }

pub if_at-returns-clause-grown : goal.if_at-returns-clause-grown
if_at-returns-clause-grown t c =
    then_grows _ _ _ c.in_ok-branches.ensures.grown c.in_ok-otherwise.ensures.grown

pub case_at-returns-in_err-selector-clause-comes : goal.case_at-returns-in_err-selector-clause-comes
case_at-returns-in_err-selector-clause-comes t c = cases.case_at-returns-in_err-selector-clause-comes t c

pub case_at-returns-in_err-selector-clause-continues : goal.case_at-returns-in_err-selector-clause-continues
case_at-returns-in_err-selector-clause-continues t c = cases.case_at-returns-in_err-selector-clause-continues t c

pub case_at-returns-in_err-arms-clause-comes : goal.case_at-returns-in_err-arms-clause-comes
case_at-returns-in_err-arms-clause-comes t c = cases.case_at-returns-in_err-arms-clause-comes t c

pub case_at-returns-in_err-arms-clause-continues : goal.case_at-returns-in_err-arms-clause-continues
case_at-returns-in_err-arms-clause-continues t c = cases.case_at-returns-in_err-arms-clause-continues t c

pub case_at-returns-clause-comes : goal.case_at-returns-clause-comes
case_at-returns-clause-comes t c = cases.case_at-returns-clause-comes t c

pub case_at-returns-clause-continues : goal.case_at-returns-clause-continues
case_at-returns-clause-continues t c = cases.case_at-returns-clause-continues t c

pub case_at-returns-clause-grown : goal.case_at-returns-clause-grown
case_at-returns-clause-grown t c =
    if_ok _ _ _ c.in_ok-arms.ensures.grown

pub for_at-returns-in_err-begun-clause-comes : goal.for_at-returns-in_err-begun-clause-comes
for_at-returns-in_err-begun-clause-comes t c = loops.for_at-returns-in_err-begun-clause-comes t c

pub for_at-returns-in_err-begun-clause-continues : goal.for_at-returns-in_err-begun-clause-continues
for_at-returns-in_err-begun-clause-continues t c = loops.for_at-returns-in_err-begun-clause-continues t c

pub for_at-returns-in_err-statements-clause-comes : goal.for_at-returns-in_err-statements-clause-comes
for_at-returns-in_err-statements-clause-comes t c = loops.for_at-returns-in_err-statements-clause-comes t c

pub for_at-returns-in_err-statements-clause-continues : goal.for_at-returns-in_err-statements-clause-continues
for_at-returns-in_err-statements-clause-continues t c = loops.for_at-returns-in_err-statements-clause-continues t c

pub for_at-returns-clause-comes : goal.for_at-returns-clause-comes
for_at-returns-clause-comes t c = loops.for_at-returns-clause-comes t c

pub for_at-returns-clause-continues : goal.for_at-returns-clause-continues
for_at-returns-clause-continues t c = loops.for_at-returns-clause-continues t c

pub for_at-returns-clause-grown : goal.for_at-returns-clause-grown
for_at-returns-clause-grown t c =
    region_gone c.args.walk.now.symbols c.begin_for.new.walk.symbols c.all_stated.new.walk.symbols c.close.new.self
    (innermost c.begin_for.new.walk.symbols.regions) c.in_ok-begun.ensures.opened c.in_ok-statements.ensures.grown c.close.ensures.closed

pub block_at-returns-in_err-made-clause-comes : goal.block_at-returns-in_err-made-clause-comes
block_at-returns-in_err-made-clause-comes t c = blocks.block_at-returns-in_err-made-clause-comes t c

pub block_at-returns-in_err-made-clause-continues : goal.block_at-returns-in_err-made-clause-continues
block_at-returns-in_err-made-clause-continues t c = blocks.block_at-returns-in_err-made-clause-continues t c

pub block_at-returns-in_err-frame-clause-comes : goal.block_at-returns-in_err-frame-clause-comes
block_at-returns-in_err-frame-clause-comes t c = blocks.block_at-returns-in_err-frame-clause-comes t c

pub block_at-returns-in_err-frame-clause-continues : goal.block_at-returns-in_err-frame-clause-continues
block_at-returns-in_err-frame-clause-continues t c = blocks.block_at-returns-in_err-frame-clause-continues t c

pub block_at-returns-clause-comes : goal.block_at-returns-clause-comes
block_at-returns-clause-comes t c = blocks.block_at-returns-clause-comes t c

pub block_at-returns-clause-continues : goal.block_at-returns-clause-continues
block_at-returns-clause-continues t c = blocks.block_at-returns-clause-continues t c

pub block_at-returns-clause-grown : goal.block_at-returns-clause-grown
block_at-returns-clause-grown t c = blocks.block_at-returns-clause-grown t c

pub handler-returns-in_err-choices-clause-comes : goal.handler-returns-in_err-choices-clause-comes
handler-returns-in_err-choices-clause-comes t c = handlers.handler-returns-in_err-choices-clause-comes t c

pub handler-returns-in_err-choices-clause-continues : goal.handler-returns-in_err-choices-clause-continues
handler-returns-in_err-choices-clause-continues t c =
    let w = c.args.walk.now in
    let v : Walk = record w { notes = record w.notes { decisions = c.all_caught.new.decisions } } in
    goes w v _ (λ k b. record { symbols = b.symbols; spans = b.spans })

pub handler-returns-in_err-statements-clause-comes : goal.handler-returns-in_err-statements-clause-comes
handler-returns-in_err-statements-clause-comes t c = handlers.handler-returns-in_err-statements-clause-comes t c

pub handler-returns-in_err-statements-clause-continues : goal.handler-returns-in_err-statements-clause-continues
handler-returns-in_err-statements-clause-continues t c = handlers.handler-returns-in_err-statements-clause-continues t c

pub handler-returns-clause-comes : goal.handler-returns-clause-comes
handler-returns-clause-comes t c = handlers.handler-returns-clause-comes t c

pub handler-returns-clause-continues : goal.handler-returns-clause-continues
handler-returns-clause-continues t c k b =
    let m = c.in_ok-statements.ensures.continues k b in
    record { symbols = m.symbols; spans = m.spans }

pub handler-returns-clause-grown : goal.handler-returns-clause-grown
handler-returns-clause-grown t c =
    c.in_ok-statements.ensures.grown

pub handler-all_stated-requires : goal.handler-all_stated-requires
handler-all_stated-requires t c =
    (omega (arith, c.decreases, ap (λ xs. statements_size (statements_of xs)) c.as_slice.ensures.value), tt)

pub all_handlers-loop-place-init : goal.all_handlers-loop-place-init
all_handlers-loop-place-init t c =
    rw c.new-made.ensures.items (handlers_first c.args.context.now c.args.walk.now c.args.handlers.now)

pub all_handlers-returns-clause-comes : goal.all_handlers-returns-clause-comes
all_handlers-returns-clause-comes t c p k env h b =
    handlers_last c.args.context.now c.args.walk.now c.loop-place.walk c.args.handlers.now c.loop-place.place c.loop-place.made.items
    c.loop-place.invariant c.loop-place-test.false p k env h b

pub all_handlers-returns-clause-continues : goal.all_handlers-returns-clause-continues
all_handlers-returns-clause-continues t c =
    c.loop-place.invariant.continues

pub all_handlers-returns-clause-grown : goal.all_handlers-returns-clause-grown
all_handlers-returns-clause-grown t c =
    c.loop-place.invariant.grows

pub all_handlers-handler-requires : goal.all_handlers-handler-requires
all_handlers-handler-requires t c = (
  omega (
    arith,
    c.decreases,
    handler_within c.args.handlers.now c.loop-place.place c.index-handlers-place.result (omega arith),
    ap (λ x.
        statements_size (statements_of x.statements.items)) c.index-handlers-place.is,
  ),
  tt,
)

pub all_handlers-returns-in_err-next-clause-comes : goal.all_handlers-returns-in_err-next-clause-comes
all_handlers-returns-in_err-next-clause-comes t c = handlers.all_handlers-returns-in_err-next-clause-comes t c

pub all_handlers-returns-in_err-next-clause-continues : goal.all_handlers-returns-in_err-next-clause-continues
all_handlers-returns-in_err-next-clause-continues t c =
    let e = err_from_is_err_and c.from_residual.result c.from_residual.ensures.1 in
    rw (e.1, e.2) (failure_continues c.args.walk.now c.loop-place.walk c.handler.new.walk c.in_err-next.field-0.0 c.loop-place.invariant.continues
    c.in_err-next.ensures.continues)

pub all_handlers-loop-place-preserved : goal.all_handlers-loop-place-preserved
all_handlers-loop-place-preserved t c = handlers.all_handlers-loop-place-preserved t c

pub all_handled-returns-in_err-statements-clause-comes : goal.all_handled-returns-in_err-statements-clause-comes
all_handled-returns-in_err-statements-clause-comes t c = handlers.all_handled-returns-in_err-statements-clause-comes t c

pub all_handled-returns-in_err-statements-clause-continues : goal.all_handled-returns-in_err-statements-clause-continues
all_handled-returns-in_err-statements-clause-continues t c =
    let e = err_from_is_err_and c.from_residual.result c.from_residual.ensures.1 in
    rw (e.1, e.2) (let w = c.args.walk.now in
    failure_continues w w c.all_stated.new.walk c.in_err-statements.field-0.0 (λ k b. b) c.in_err-statements.ensures.continues)

pub all_handled-returns-in_err-handlers-clause-comes : goal.all_handled-returns-in_err-handlers-clause-comes
all_handled-returns-in_err-handlers-clause-comes t c = handlers.all_handled-returns-in_err-handlers-clause-comes t c

pub all_handled-returns-in_err-handlers-clause-continues : goal.all_handled-returns-in_err-handlers-clause-continues
all_handled-returns-in_err-handlers-clause-continues t c = handlers.all_handled-returns-in_err-handlers-clause-continues t c

pub all_handled-returns-clause-comes : goal.all_handled-returns-clause-comes
all_handled-returns-clause-comes t c = handlers.all_handled-returns-clause-comes t c

pub all_handled-returns-clause-continues : goal.all_handled-returns-clause-continues
all_handled-returns-clause-continues t c k b =
    c.in_ok-statements.ensures.continues k (c.in_ok-handlers.ensures.continues k b)

pub all_handled-returns-clause-grown : goal.all_handled-returns-clause-grown
all_handled-returns-clause-grown t c =
    then_grows _ _ _ c.in_ok-statements.ensures.grown c.in_ok-handlers.ensures.grown
