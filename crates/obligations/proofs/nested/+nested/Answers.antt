use Rattle.std.proofs.Common.{[], refl, rules, sym, ap, ◌∙◌, arith}
use Rattle.std.proofs.lemmas.Grind.{common_steps}
use Rattle.ada_meaning.specs.Collected.{in_expr, in_parts, in_actuals}
use Rattle.ada_tree.specs.declared.expr.Operand.{Operand}
use Rattle.ada_tree.specs.Sizes.{expr_size, test_size}
use Rattle.ada_tree.specs.View.{label_of, neutral_of, parts_of, actuals_of, expr_at, test_at}
use Rattle.obligations.specs.Entries.{of_nested}
use Rattle.obligations.specs.Operands.{in_operands, in_selector, in_actual}
use Rattle.obligations.specs.Spelled.{with_others, with_test}
use Rattle.ada_tree.proofs.Chains.{operands_size, chain_size, operand_within, expr_positive, tests_size, forms_size, test_within, test_positive, actual_size, actual_within, selector_size, selector_within}
use Rattle.obligations.proofs.Chains.{in_chain, actuals_front, parts_front}
use Rattle.obligations.proofs.Lists.{then_added, same_added, one_more, none_left, nothing_listed, nothing_added, nested_parts}
use Rattle.obligations.proofs.Spelling.{others_behind, spelled_so, whole_decision}
use Rattle.obligations.proofs.nested.+nested.Goals as goal

pub add_labelled-returns : goal.add_labelled-returns
add_labelled-returns t c = λ standing letter.
    let n = c.args.statement in
    let test = c.args.test.now in
    let s = c.add_test.new.spelling in
    same_added c.add_decision.result _ _ _ _
    (whole_decision standing c.args.letter.0 n (label_of c.args.label) test s letter (c.in_ok-add_test.ensures ∙ ap (with_test n test) c.spelling-spelling.ensures))
    c.add_decision.ensures

pub add_test-add_tests-requires : goal.add_test-add_tests-requires
add_test-add_tests-requires t c =
    let first = c.in-ShortCircuit.first.value in
    let others = c.in-ShortCircuit.others.items in
    let is = ap test_size (sym c.test.view_is ∙ ap test_at c.in-ShortCircuit.is) in (
      omega (
        arith,
        c.decreases,
        is,
        forms_size (neutral_of c.in-ShortCircuit.form) first others,
        test_positive first,
        ap
            tests_size c.deref-in-ShortCircuit-2.ensures.value,
      ),
      tt,
    )

pub add_test-returns-in_ok-add_test-in-ShortCircuit : goal.add_test-returns-in_ok-add_test-in-ShortCircuit
add_test-returns-in_ok-add_test-in-ShortCircuit t c =
    let n = c.args.statement in
    let first = c.in-ShortCircuit.first.value in
    let others = c.in-ShortCircuit.others.items in
    let form = neutral_of c.in-ShortCircuit.form in
    rw (← c.test.view_is, c.in-ShortCircuit.is)
    (spelled_so c.add_tests.result _ _ _
    (ap (with_others n form others) (rw c.deref-in-ShortCircuit.ensures at c.in_ok-add_test-in-ShortCircuit.ensures)
    ∙ others_behind n form first others c.args.spelling.now)
    (rw c.deref-in-ShortCircuit-2.ensures.value at c.add_tests.ensures))

pub add_tests-add_test-requires : goal.add_tests-add_test-requires
add_tests-add_test-requires t c = (
  omega (
    arith,
    c.decreases,
    test_within c.args.tests.now c.loop-test.test-index c.test-item.result (omega arith),
    ap
        test_size c.test-item.is,
  ),
  tt,
)

pub add_in_expression-add_in_operands-requires : goal.add_in_expression-add_in_operands-requires
add_in_expression-add_in_operands-requires t c =
    let first = c.in-Operations.first.value in
    let others = c.in-Operations.others.items in
    let is = ap expr_size (sym c.expr.view_is ∙ ap expr_at c.in-Operations.is) in
    (omega (arith, c.decreases, is, chain_size first others, expr_positive first, ap operands_size c.deref-in-Operations-2.ensures.value), tt)

pub add_in_expression-returns-in_ok-add_in_expression-in-Relation : goal.add_in_expression-returns-in_ok-add_in_expression-in-Relation
add_in_expression-returns-in_ok-add_in_expression-in-Relation t c =
    let n = c.args.statement in
    let left = c.in-Relation.left.value in
    let right = c.in-Relation.right.value in
    rw (← c.expr.view_is, c.in-Relation.is)
    (same_added c.add_in_expression-in-Relation.result _ _ _ _ (nested_parts (in_expr n left) (in_expr n right))
    (then_added c.add_in_expression-in-Relation.result _ _ _ (of_nested (in_expr n left)) (of_nested (in_expr n right))
    (rw c.deref-in-Relation.ensures at c.in_ok-add_in_expression-in-Relation.ensures) (rw c.deref-in-Relation-2.ensures at c.add_in_expression-in-Relation.ensures)))

pub add_in_expression-returns-in_ok-add_in_expression-in-Operations : goal.add_in_expression-returns-in_ok-add_in_expression-in-Operations
add_in_expression-returns-in_ok-add_in_expression-in-Operations t c =
    let n = c.args.statement in
    let first = c.in-Operations.first.value in
    let others = c.in-Operations.others.items in
    rw (← c.expr.view_is, c.in-Operations.is)
    (same_added c.add_in_operands.result _ _ _ _ (nested_parts (in_expr n first) (in_operands n others) ∙ ap of_nested (sym (in_chain n first others)))
    (then_added c.add_in_operands.result _ _ _ (of_nested (in_expr n first)) (of_nested (in_operands n others))
    (rw c.deref-in-Operations.ensures at c.in_ok-add_in_expression-in-Operations.ensures) (rw c.deref-in-Operations-2.ensures.value at c.add_in_operands.ensures)))

pub add_in_expression-returns-in-Literal : goal.add_in_expression-returns-in-Literal
add_in_expression-returns-in-Literal t c = nothing_added c.args.listing.now (in_expr c.args.statement c.args.expr.now) (search rules)

pub add_in_expression-returns-in-Literal-2 : goal.add_in_expression-returns-in-Literal-2
add_in_expression-returns-in-Literal-2 t c = nothing_added c.args.listing.now (in_expr c.args.statement c.args.expr.now) (search rules)

pub add_in_expression-returns-in-Literal-3 : goal.add_in_expression-returns-in-Literal-3
add_in_expression-returns-in-Literal-3 t c = nothing_added c.args.listing.now (in_expr c.args.statement c.args.expr.now) (search rules)

pub add_in_operands-add_in_expression-requires : goal.add_in_operands-add_in_expression-requires
add_in_operands-add_in_expression-requires t c = (
  omega (
    arith,
    c.decreases,
    operand_within c.args.operands.now c.loop-operand.operand-index c.operand-item.result (omega arith),
    ap
        (λ (x : Operand). expr_size x.operand) c.operand-item.is,
  ),
  tt,
)

pub add_in_operands-loop-operand-preserved : goal.add_in_operands-loop-operand-preserved
add_in_operands-loop-operand-preserved t c =
    let o = c.operand-item.result in
    let n = c.args.statement in
    one_more (λ os. of_nested (in_operands n os)) (λ (o : Operand). of_nested (in_expr n o.operand)) (λ o os. sym (nested_parts (in_expr n o.operand) (in_operands n os)))
    c.args.operands.now c.loop-operand.operand-index o o _ _ c.loop-operand-test.true c.operand-item.is c.in_ok-add_in_expression.ensures
    ∙ c.loop-operand.invariant

pub add_in_operands-returns : goal.add_in_operands-returns
add_in_operands-returns t c =
    none_left (λ os. of_nested (in_operands c.args.statement os)) nothing_listed
    c.args.operands.now c.loop-operand.operand-index _ _ (omega (arith, c.loop-operand-test.false)) c.loop-operand.invariant

pub add_in_parts-add_in_selector-requires : goal.add_in_parts-add_in_selector-requires
add_in_parts-add_in_selector-requires t c = (
  omega (
    arith,
    c.decreases,
    selector_within c.args.parts.now c.loop-part.part-index c.part-item.result (omega arith),
    ap
        selector_size c.part-item.is,
  ),
  tt,
)

pub add_in_parts-loop-part-preserved : goal.add_in_parts-loop-part-preserved
add_in_parts-loop-part-preserved t c =
    let s = c.part-item.result in
    let n = c.args.statement in
    one_more (λ ss. of_nested (in_parts n (parts_of ss))) (λ s. of_nested (in_selector n s))
    (λ s ss. ap of_nested (parts_front n s ss) ∙ sym (nested_parts (in_selector n s) (in_parts n (parts_of ss))))
    c.args.parts.now c.loop-part.part-index s s _ _ c.loop-part-test.true c.part-item.is c.in_ok-add_in_selector.ensures
    ∙ c.loop-part.invariant

pub add_in_parts-returns : goal.add_in_parts-returns
add_in_parts-returns t c =
    none_left (λ ss. of_nested (in_parts c.args.statement (parts_of ss))) nothing_listed
    c.args.parts.now c.loop-part.part-index _ _ (omega (arith, c.loop-part-test.false)) c.loop-part.invariant

pub add_in_actuals-add_in_actual-requires : goal.add_in_actuals-add_in_actual-requires
add_in_actuals-add_in_actual-requires t c = (
  omega (
    arith,
    c.decreases,
    actual_within c.args.actuals.now c.loop-actual.actual-index c.actual-item.result (omega arith),
    ap
        actual_size c.actual-item.is,
  ),
  tt,
)

pub add_in_actuals-loop-actual-preserved : goal.add_in_actuals-loop-actual-preserved
add_in_actuals-loop-actual-preserved t c =
    let a = c.actual-item.result in
    let n = c.args.statement in
    one_more (λ rest. of_nested (in_actuals n (actuals_of rest))) (λ a. of_nested (in_actual n a))
    (λ a rest. ap of_nested (actuals_front n a rest) ∙ sym (nested_parts (in_actual n a) (in_actuals n (actuals_of rest))))
    c.args.actuals.now c.loop-actual.actual-index a a _ _ c.loop-actual-test.true c.actual-item.is c.in_ok-add_in_actual.ensures
    ∙ c.loop-actual.invariant

pub add_in_actuals-returns : goal.add_in_actuals-returns
add_in_actuals-returns t c =
    none_left (λ rest. of_nested (in_actuals c.args.statement (actuals_of rest))) nothing_listed
    c.args.actuals.now c.loop-actual.actual-index _ _ (omega (arith, c.loop-actual-test.false)) c.loop-actual.invariant

pub add_in_selector-returns-in-Component : goal.add_in_selector-returns-in-Component
add_in_selector-returns-in-Component t c = rw c.in-Component.is (nothing_added c.args.listing.now [] refl)

pub add_in_actual-returns-in-Variable : goal.add_in_actual-returns-in-Variable
add_in_actual-returns-in-Variable t c = rw c.in-Variable.is (nothing_added c.args.listing.now [] refl)

pub add_tests-loop-test-preserved : goal.add_tests-loop-test-preserved
add_tests-loop-test-preserved t c = grind (arith, common_steps)
