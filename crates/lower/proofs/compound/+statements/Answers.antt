use Rattle.std.proofs.Common.{◌+◌, map, refl, sym, ap, ◌∙◌, arith}
use Rattle.std.proofs.lemmas.Grind.{common_steps}
use Rattle.ada_meaning.specs.Tree as tree
use Rattle.ada_tree.proofs.Within.{statement_within}
use Rattle.ada_tree.specs.Sizes.{alternatives_size, stmt_size, stmts_size}
use Rattle.ada_tree.specs.View.{alternatives_of, choice_of, declaration_of, exception_choice_of, handlers_of, is_filled, is_reversed, statement_at, statements_of, turns_of}
use Rattle.kernel_ir.specs.declared.simple.Simple.TheVariants as op
use Rattle.kernel_ir.specs.Sequence.{joined}
use Rattle.kernel_ir.specs.Tree.{catch, choose}
use Rattle.statement_code.specs.Flows.{range_code}
use Rattle.statement_code.specs.Statements.{guarded_code, slot_of}
use Rattle.statement_code.specs.Values.{one, single}
use Rattle.lower.specs.Choosing.{bounds_for, choices_for, exception_choices_for}
use Rattle.lower.specs.Context.{home_for}
use Rattle.lower.specs.Pieces.{expr_for}
use Rattle.lower.specs.Stated.{all_for, alternatives_for, declarations_for, handlers_for, held_for, own_start_for, range_by, stated_for}
use Rattle.lower.proofs.Building.{none_left, one_more, then_put}
use Rattle.kernel_ir.proofs.Joining.{joined_nothing}
use Rattle.lower.proofs.Pieces.{in_words}
use Rattle.lower.proofs.Stated.{guarded, range_put, started, unguarded}
use Rattle.lower.proofs.compound.+statements.Goals as goal

pub put_all-put_stated-requires :
    goal.put_all-put_stated-requires
put_all-put_stated-requires t c =
    (omega (arith, c.decreases, statement_within c.args.statements.now c.loop-statement.statement-index c.statement-item.result (omega arith), ap stmt_size c.statement-item.is), tt)

pub put_all-loop-statement-preserved :
    goal.put_all-loop-statement-preserved
put_all-loop-statement-preserved t c =
    one_more (λ ss. all_for c.args.context.now c.args.slot c.args.taken (statements_of ss)) (stated_for c.args.context.now c.args.slot c.args.taken) (λ s ss. refl) c.args.statements.now c.loop-statement.statement-index
    c.statement-item.result c.statement-item.result _ _ c.loop-statement-test.true c.statement-item.is c.in_ok-put_stated.ensures
    ∙ c.loop-statement.invariant

pub put_all-returns :
    goal.put_all-returns
put_all-returns t c =
    none_left (λ ss. all_for c.args.context.now c.args.slot c.args.taken (statements_of ss)) refl c.args.statements.now c.loop-statement.statement-index _ _ (omega (arith, c.loop-statement-test.false))
    c.loop-statement.invariant

pub put_alternatives-returns :
    goal.put_alternatives-returns
put_alternatives-returns t c =
    let k = c.args.slot in
    let x = c.in-Some.alternative.now in
    let stated = all_for c.args.context.now k c.args.taken (statements_of x.statements.items) in
    let rest = alternatives_for c.args.context.now k c.args.taken (alternatives_of c.in-Some.others.now) in
    in_words c.push.result c.args.code.now c.push.new.self _ _ (ap (λ xs. alternatives_for c.args.context.now k c.args.taken (alternatives_of xs)) (sym c.in-Some.ensures.cases.0))
    (then_put c.push.result c.args.code.now c.put_choices.new.code c.push.new.self (choices_for c.args.context.now k (map choice_of x.choices)) (single (choose (k + 1) stated rest))
    (rw c.as_slice.ensures at c.in_ok-put_choices.ensures)
    (in_words c.push.result c.put_choices.new.code c.push.new.self _ _
    (λ s. single (choose (c.in_ok-fits.ensures.number s)
    ((c.in_ok-put_all.ensures ∙ (λ r. joined (c.new-if_true.ensures r) (all_for c.args.context.now k c.args.taken (statements_of (c.deref.ensures.value r))))) s)
    ((c.in_ok-put_alternatives.ensures ∙ ap (λ y. joined y rest) c.new-if_false.ensures) s)))
    c.push.ensures.ok))

pub put_handlers-returns :
    goal.put_handlers-returns
put_handlers-returns t c =
    let k = c.args.slot in
    let x = c.in-Some.handler.now in
    let stated = all_for c.args.context.now (k + 1) k (statements_of x.statements.items) in
    let rest = handlers_for c.args.context.now k (handlers_of c.in-Some.others.now) in
    in_words c.push.result c.args.code.now c.push.new.self _ _ (ap (λ xs. handlers_for c.args.context.now k (handlers_of xs)) (sym c.in-Some.ensures.cases.0))
    (then_put c.push.result c.args.code.now c.put_exception_choices.new.code c.push.new.self (exception_choices_for c.args.context.now k (map exception_choice_of x.choices)) (single (choose (k + 1) stated rest))
    (rw c.as_slice.ensures at c.in_ok-put_exception_choices.ensures)
    (in_words c.push.result c.put_exception_choices.new.code c.push.new.self _ _
    (λ s. single (choose (c.in_ok-behind.ensures.number s)
    ((c.in_ok-put_all.ensures ∙ (λ r. joined (c.new-if_true.ensures r) (all_for c.args.context.now (c.in_ok-behind.ensures.number r) k (statements_of (c.deref.ensures.value r))))) s)
    ((c.in_ok-put_handlers.ensures ∙ ap (λ y. joined y rest) c.new-if_false.ensures) s)))
    c.push.ensures.ok))

pub put_for-returns :
    goal.put_for-returns
put_for-returns t c =
    let k = c.args.slot in
    let x = c.args.scheme.now in
    let d = slot_of (home_for c.args.context.now (tree.local_object x.parameter)) in
    let stated = all_for c.args.context.now (k + 2) c.args.taken (statements_of c.args.statements.now) in
    then_put c.put_range.result c.args.code.now c.put_bounds.new.code c.put_range.new.code (bounds_for c.args.context.now k (turns_of x.values)) (range_code k (k + 2) d (is_reversed x.direction) stated)
    c.in_ok-put_bounds.ensures
    (in_words c.put_range.result c.put_bounds.new.code c.put_range.new.code _ _
    (ap (λ f. range_by k f (is_reversed x.direction) c.put_turn_end.new.code) c.in_ok-free.ensures.number
    ∙ range_put k (k + 2) d x.direction stated c.new-turn.result c.push_simple.new.self c.put_all.new.code c.put_turn_end.new.code c.new-turn.ensures
    (c.in_ok-push_simple.ensures.ok ∙ ap (λ s. joined c.new-turn.result (one (op.Move s k))) (c.slot_of.ensures ∙ ap slot_of c.home.ensures))
    (rw c.in_ok-free.ensures.number at c.in_ok-put_all.ensures) (rw c.in_ok-free.ensures.number at c.in_ok-put_turn_end.ensures))
    c.put_range.ensures)

pub put_frame-returns-then-not-has_handlers :
    goal.put_frame-returns-then-not-has_handlers
put_frame-returns-then-not-has_handlers t c =
    let k = c.args.slot in
    let ds = c.block.inside.declarations in
    let hs = c.block.inside.handlers.items in
    let stated = all_for c.args.context.now k c.args.taken (statements_of c.block.inside.statements.items) in
    rw (← c.block.view_is)
    (then_put c.put_all.result c.args.code.now c.put_declarations.new.code c.put_all.new.code (declarations_for c.args.context.now k (map declaration_of ds))
    (guarded_code (handlers_of hs) stated k (handlers_for c.args.context.now k (handlers_of hs)))
    (rw c.as_slice.ensures at c.in_ok-put_declarations.ensures)
    (in_words c.put_all.result c.put_declarations.new.code c.put_all.new.code _ _
    (ap (λ ss. all_for c.args.context.now k c.args.taken (statements_of ss)) c.deref-then-not-has_handlers.ensures.value
    ∙ unguarded hs stated (handlers_for c.args.context.now k (handlers_of hs)) k (sym (c.has_handlers.ensures ∙ ap is_filled c.deref.ensures.value) ∙ c.if-not-has_handlers.true))
    c.put_all.ensures))

pub put_frame-returns :
    goal.put_frame-returns
put_frame-returns t c =
    let k = c.args.slot in
    let ds = c.block.inside.declarations in
    let hs = c.block.inside.handlers.items in
    let stated = all_for c.args.context.now k c.args.taken (statements_of c.block.inside.statements.items) in
    let handled = handlers_for c.args.context.now k (handlers_of hs) in
    rw (← c.block.view_is)
    (then_put c.push.result c.args.code.now c.put_declarations.new.code c.push.new.self (declarations_for c.args.context.now k (map declaration_of ds)) (guarded_code (handlers_of hs) stated k handled)
    (rw c.as_slice.ensures at c.in_ok-put_declarations.ensures)
    (in_words c.push.result c.put_declarations.new.code c.push.new.self _ _
    ((λ s. single (catch
    ((c.in_ok-put_all.ensures ∙ (λ r. joined (c.new-body.ensures r) (all_for c.args.context.now k c.args.taken (statements_of (c.deref-2.ensures.value r))))) s) k
    ((c.in_ok-put_handlers.ensures ∙ (λ r. joined (c.new-handler.ensures r) (handlers_for c.args.context.now k (handlers_of (c.deref-3.ensures.value r))))) s)))
    ∙ guarded hs stated handled k (sym (c.has_handlers.ensures ∙ ap is_filled c.deref.ensures.value) ∙ c.if-not-has_handlers.false))
    c.push.ensures.ok))

pub put_stated-returns : goal.put_stated-returns
put_stated-returns t c =
    let x = c.args.context.now in
    let s = c.args.statement.now in
    in_words c.put_held.result c.args.code.now c.put_held.new.code _ _ (started x c.args.slot c.args.taken s)
    (then_put c.put_held.result c.args.code.now c.put_own_start.new.code c.put_held.new.code (own_start_for x s) (held_for x c.args.slot c.args.taken s)
    (rw c.statement.view_is at c.in_ok-put_own_start.ensures) (rw c.statement.view_is at c.put_held.ensures))

pub put_held-returns-in-Assignment : goal.put_held-returns-in-Assignment
put_held-returns-in-Assignment t c = rw c.in-Assignment.is c.put_assignment.ensures

pub put_held-returns-in-PartAssignment : goal.put_held-returns-in-PartAssignment
put_held-returns-in-PartAssignment t c = rw c.in-PartAssignment.is (rw c.deref.ensures.value at c.put_assignment-in-PartAssignment.ensures)

pub put_held-returns-in-Call : goal.put_held-returns-in-Call
put_held-returns-in-Call t c = rw c.in-Call.is (rw (c.target-target.ensures, c.as_slice.ensures) at c.put_procedure.ensures)

pub put_held-returns-in-If : goal.put_held-returns-in-If
put_held-returns-in-If t c = rw c.in-If.is (rw (c.deref-in-If.ensures.value, c.deref-in-If-2.ensures.value) at c.put_branches.ensures)

pub put_held-returns-in-Loop : goal.put_held-returns-in-Loop
put_held-returns-in-Loop t c = rw c.in-Loop.is (rw c.deref-in-Loop.ensures.value at c.put_loop.ensures)

pub put_held-returns-in-While : goal.put_held-returns-in-While
put_held-returns-in-While t c = rw c.in-While.is (rw c.deref-in-While.ensures.value at c.put_while.ensures)

pub put_held-returns-in-For : goal.put_held-returns-in-For
put_held-returns-in-For t c = rw c.in-For.is (rw c.deref-in-For.ensures.value at c.put_for.ensures)

pub put_held-returns-in-Exit : goal.put_held-returns-in-Exit
put_held-returns-in-Exit t c = rw c.in-Exit.is c.push.ensures.ok

pub put_held-returns-in-ExitWhen : goal.put_held-returns-in-ExitWhen
put_held-returns-in-ExitWhen t c = rw c.in-ExitWhen.is c.put_exit_when.ensures

pub put_held-returns-in-Return : goal.put_held-returns-in-Return
put_held-returns-in-Return t c = rw c.in-Return.is c.push-in-Return.ensures.ok

pub put_held-returns-in-ReturnValue : goal.put_held-returns-in-ReturnValue
put_held-returns-in-ReturnValue t c = rw c.in-ReturnValue.is c.put_result.ensures

pub put_held-returns-in-Raise : goal.put_held-returns-in-Raise
put_held-returns-in-Raise t c = rw c.in-Raise.is c.put_raise.ensures

pub put_held-returns-in-RaiseAgain : goal.put_held-returns-in-RaiseAgain
put_held-returns-in-RaiseAgain t c = rw c.in-RaiseAgain.is c.push_simple.ensures.ok

pub put_held-returns-in-Block : goal.put_held-returns-in-Block
put_held-returns-in-Block t c = rw c.in-Block.is c.put_frame.ensures

pub put_held-returns-in-Null : goal.put_held-returns-in-Null
put_held-returns-in-Null t c = rw c.in-Null.is (sym (joined_nothing c.args.code.now))

pub put_held-returns-in_ok-put_value-in-Case : goal.put_held-returns-in_ok-put_value-in-Case
put_held-returns-in_ok-put_value-in-Case t c =
    let k = c.args.slot in
    rw c.in-Case.is
    (then_put c.put_alternatives.result c.args.code.now c.put_value.new.code c.put_alternatives.new.code
    (expr_for c.args.context.now k c.in-Case.expr) (alternatives_for c.args.context.now k c.args.taken (alternatives_of c.in-Case.alternatives.items))
    c.in_ok-put_value-in-Case.ensures (rw c.deref-in-Case.ensures.value at c.put_alternatives.ensures))

pub put_held-put_loop-requires : goal.put_held-put_loop-requires
put_held-put_loop-requires t c =
    (omega (arith, c.decreases, ap (λ k. stmt_size (statement_at k)) c.in-Loop.is, ap (λ xs. stmts_size (statements_of xs)) c.deref-in-Loop.ensures.value), tt)

pub put_held-put_while-requires : goal.put_held-put_while-requires
put_held-put_while-requires t c =
    (omega (arith, c.decreases, ap (λ k. stmt_size (statement_at k)) c.in-While.is, ap (λ xs. stmts_size (statements_of xs)) c.deref-in-While.ensures.value), tt)

pub put_held-put_for-requires : goal.put_held-put_for-requires
put_held-put_for-requires t c =
    (omega (arith, c.decreases, ap (λ k. stmt_size (statement_at k)) c.in-For.is, ap (λ xs. stmts_size (statements_of xs)) c.deref-in-For.ensures.value), tt)

pub put_held-put_alternatives-requires : goal.put_held-put_alternatives-requires
put_held-put_alternatives-requires t c =
    (omega (arith, c.decreases, ap (λ k. stmt_size (statement_at k)) c.in-Case.is, ap (λ xs. alternatives_size (alternatives_of xs)) c.deref-in-Case.ensures.value), tt)

pub put_handlers-put_handlers-requires : goal.put_handlers-put_handlers-requires
put_handlers-put_handlers-requires t c = grind (arith, common_steps)

pub put_branches-put_all-requires : goal.put_branches-put_all-requires
put_branches-put_all-requires t c = grind (arith, common_steps)

pub put_frame-put_handlers-requires : goal.put_frame-put_handlers-requires
put_frame-put_handlers-requires t c = grind (arith, common_steps)

pub put_alternatives-put_alternatives-requires : goal.put_alternatives-put_alternatives-requires
put_alternatives-put_alternatives-requires t c = grind (arith, common_steps)

pub put_branches-returns : goal.put_branches-returns
put_branches-returns t c = grind (arith, common_steps)

pub put_handlers-put_all-requires : goal.put_handlers-put_all-requires
put_handlers-put_all-requires t c = grind (arith, common_steps)

pub put_frame-put_all-requires-2 : goal.put_frame-put_all-requires-2
put_frame-put_all-requires-2 t c = grind (arith, common_steps)

pub put_frame-put_all-requires : goal.put_frame-put_all-requires
put_frame-put_all-requires t c = grind (arith, common_steps)

pub put_while-returns : goal.put_while-returns
put_while-returns t c = grind (arith, common_steps)

pub put_branches-put_branches-requires : goal.put_branches-put_branches-requires
put_branches-put_branches-requires t c = grind (arith, common_steps)

pub put_alternatives-put_all-requires : goal.put_alternatives-put_all-requires
put_alternatives-put_all-requires t c = grind (arith, common_steps)

pub put_handlers-returns-in_default : goal.put_handlers-returns-in_default
put_handlers-returns-in_default t c = grind (arith, common_steps)

pub put_branches-returns-in_default : goal.put_branches-returns-in_default
put_branches-returns-in_default t c = grind (arith, common_steps)

pub put_loop-returns : goal.put_loop-returns
put_loop-returns t c = grind (arith, common_steps)

pub put_alternatives-returns-in_default : goal.put_alternatives-returns-in_default
put_alternatives-returns-in_default t c = grind (arith, common_steps)

pub put_branches-put_all-requires-2 : goal.put_branches-put_all-requires-2
put_branches-put_all-requires-2 t c = grind (arith, common_steps)

pub put_held-put_branches-requires : goal.put_held-put_branches-requires
put_held-put_branches-requires t c = grind (arith, common_steps)
