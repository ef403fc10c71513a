use Rattle.std.proofs.Common.{max, refl, sym, ap, ◌∙◌, arith}
use Rattle.ada_tree.proofs.Chains.{chain_size, operands_size, operand_within, expr_positive, tests_size, forms_size, test_positive, test_within, actual_size, actual_within, selector_size, selector_within}
use Rattle.ada_tree.specs.declared.expr.Operand.{Operand}
use Rattle.ada_tree.specs.Sizes.{expr_size, test_size}
use Rattle.ada_tree.specs.View.{expr_at, test_at, neutral_of, parts_of}
use Rattle.frame_widths.specs.Chains.{end_of_operands, end_of_selector, end_of_tests}
use Rattle.frame_widths.specs.Ends.{end_of, end_of_parts, end_of_test}
use Rattle.frame_widths.proofs.Behind.{expr_behind}
use Rattle.frame_widths.proofs.Chains.{operands_end, tests_end, selector_end}
use Rattle.frame_widths.proofs.Counted.{all_counted, none_counted, one_counted}
use Rattle.frame_widths.proofs.Kept.{actual_kept, none_kept}
use Rattle.frame_widths.proofs.value.+value.Goals as goal

pub width_of_actuals-width_of_actual-requires : goal.width_of_actuals-width_of_actual-requires
width_of_actuals-width_of_actual-requires t c =
    (omega (arith, c.decreases, actual_within c.args.actuals.now c.loop-actual.actual-index c.actual-item.result (omega arith), ap actual_size c.actual-item.is), tt)

pub width_of_actuals-loop-actual-preserved : goal.width_of_actuals-loop-actual-preserved
width_of_actuals-loop-actual-preserved t c =
    actual_kept c.args.actuals.now c.loop-actual.actual-index c.actual-item.result c.actual-item.result c.loop-actual.count c.loop-actual.kept
    c.width_of_actual.result c.slots_of.result c.max-count.result c.saturating_add-kept.result _ c.loop-actual-test.true c.actual-item.is c.width_of_actual.ensures c.slots_of.ensures
    (c.max-count.ensures ∙ ap (λ n. max c.loop-actual.count n) c.saturating_add.ensures) c.saturating_add-kept.ensures c.loop-actual.invariant

pub width_of_actuals-returns : goal.width_of_actuals-returns
width_of_actuals-returns t c =
    none_kept c.args.actuals.now c.loop-actual.actual-index c.loop-actual.count c.loop-actual.kept c.max.result _ (omega (arith, c.loop-actual-test.false))
    (c.max.ensures ∙ ap (max c.loop-actual.count) c.saturating_add-2.ensures) c.loop-actual.invariant

pub width_of_expr-width_of_operands-requires : goal.width_of_expr-width_of_operands-requires
width_of_expr-width_of_operands-requires t c =
    let first = c.in-Operations.first.value in
    let others = c.in-Operations.others.items in
    let is = ap expr_size (sym c.expr.view_is ∙ ap expr_at c.in-Operations.is) in
    (omega (arith, is, chain_size first others, expr_positive first, ap operands_size c.deref-in-Operations.ensures.value), tt)

pub width_of_expr-returns-in-Operations : goal.width_of_expr-returns-in-Operations
width_of_expr-returns-in-Operations t c =
    let first = c.in-Operations.first.value in
    let others = c.in-Operations.others.items in
    rw (← c.expr.view_is, c.in-Operations.is)
    (omega (
      arith,
      operands_end 0 first others,
      c.max.ensures,
      c.width_of_expr.ensures,
      c.width_of_operands.ensures,
      ap (end_of 0) c.deref.ensures,
      ap (end_of_operands 0) c.deref-in-Operations.ensures.value,
    ))

pub width_of_expr-returns-in-Relation : goal.width_of_expr-returns-in-Relation
width_of_expr-returns-in-Relation t c =
    let left = c.in-Relation.left.value in
    let right = c.in-Relation.right.value in
    rw (← c.expr.view_is, c.in-Relation.is)
    (omega (
      arith,
      expr_behind 1 1 0 right (omega arith),
      c.max-in-Relation.ensures,
      c.saturating_add.ensures,
      c.width_of_expr-in-Relation.ensures,
      c.width_of_expr-in-Relation-2.ensures,
      ap (end_of 0) c.deref-in-Relation.ensures,
      ap (end_of 0) c.deref-in-Relation-2.ensures,
    ))

pub width_of_operands-width_of_expr-requires : goal.width_of_operands-width_of_expr-requires
width_of_operands-width_of_expr-requires t c =
    (omega (arith, c.decreases, operand_within c.args.operands.now c.loop-operand.operand-index c.operand-item.result (omega arith), ap (λ (x : Operand). expr_size x.operand) c.operand-item.is), tt)

pub width_of_operands-loop-operand-preserved : goal.width_of_operands-loop-operand-preserved
width_of_operands-loop-operand-preserved t c =
    one_counted (end_of_operands 0) (λ o. end_of 1 o.operand) (λ x xs. refl) c.args.operands.now c.loop-operand.operand-index c.operand-item.result c.operand-item.result
    c.loop-operand.count c.max-count.result c.loop-operand-test.true c.operand-item.is
    (omega (arith, expr_behind 1 1 0 c.operand-item.result.operand (omega arith), c.max-count.ensures, c.saturating_add.ensures, c.width_of_expr.ensures)) c.loop-operand.invariant

pub width_of_operands-returns : goal.width_of_operands-returns
width_of_operands-returns t c =
    all_counted (end_of_operands 0) c.args.operands.now c.loop-operand.operand-index c.loop-operand.count
    (omega (arith, c.loop-operand-test.false)) c.loop-operand.invariant

pub width_of_parts-loop-selector-init : goal.width_of_parts-loop-selector-init
width_of_parts-loop-selector-init t c =
    none_counted (λ ss. end_of_parts 0 (parts_of ss)) (end_of_selector 0) (λ s ss. selector_end 0 s (parts_of ss)) c.args.selectors.now 1 refl

pub width_of_parts-width_of_selector-requires : goal.width_of_parts-width_of_selector-requires
width_of_parts-width_of_selector-requires t c =
    (omega (arith, c.decreases, selector_within c.args.selectors.now c.loop-selector.selector-index c.selector-item.result (omega arith), ap selector_size c.selector-item.is), tt)

pub width_of_parts-loop-selector-preserved : goal.width_of_parts-loop-selector-preserved
width_of_parts-loop-selector-preserved t c =
    let x = c.selector-item.result in
    let count = c.loop-selector.count in
    one_counted (λ ss. end_of_parts 0 (parts_of ss)) (end_of_selector 0) (λ s ss. selector_end 0 s (parts_of ss))
    c.args.selectors.now c.loop-selector.selector-index x x count c.max-count.result c.loop-selector-test.true c.selector-item.is
    (c.max-count.ensures ∙ ap (max count) c.width_of_selector.ensures) c.loop-selector.invariant

pub width_of_parts-returns : goal.width_of_parts-returns
width_of_parts-returns t c =
    all_counted (λ ss. end_of_parts 0 (parts_of ss)) c.args.selectors.now c.loop-selector.selector-index c.loop-selector.count
    (omega (arith, c.loop-selector-test.false)) c.loop-selector.invariant

pub width_of_selector-returns-in-Element : goal.width_of_selector-returns-in-Element
width_of_selector-returns-in-Element t c =
    rw (c.in-Element.is)
    (omega (arith, expr_behind 1 1 0 c.in-Element.index (omega arith), c.saturating_add.ensures, c.width_of_expr.ensures))

pub width_of_test-width_of_tests-requires : goal.width_of_test-width_of_tests-requires
width_of_test-width_of_tests-requires t c =
    let first = c.in-ShortCircuit.first.value in
    let others = c.in-ShortCircuit.others.items in
    let is = ap test_size (sym c.test.view_is ∙ ap test_at c.in-ShortCircuit.is) in
    (omega (arith, is, forms_size (neutral_of c.in-ShortCircuit.field-0) first others, test_positive first, ap tests_size c.deref-in-ShortCircuit-2.ensures.value), tt)

pub width_of_test-returns-in-ShortCircuit : goal.width_of_test-returns-in-ShortCircuit
width_of_test-returns-in-ShortCircuit t c =
    let first = c.in-ShortCircuit.first.value in
    let others = c.in-ShortCircuit.others.items in
    rw (← c.test.view_is, c.in-ShortCircuit.is)
    (omega (
      arith,
      tests_end 0 (neutral_of c.in-ShortCircuit.field-0) first others,
      c.max.ensures,
      c.width_of_test-in-ShortCircuit.ensures,
      c.width_of_tests.ensures,
      ap (end_of_test 0) c.deref-in-ShortCircuit.ensures,
      ap (end_of_tests 0) c.deref-in-ShortCircuit-2.ensures.value,
    ))

pub width_of_tests-width_of_test-requires : goal.width_of_tests-width_of_test-requires
width_of_tests-width_of_test-requires t c =
    (omega (arith, c.decreases, test_within c.args.tests.now c.loop-test.test-index c.test-item.result (omega arith), ap test_size c.test-item.is), tt)

pub width_of_tests-loop-test-preserved : goal.width_of_tests-loop-test-preserved
width_of_tests-loop-test-preserved t c =
    let x = c.test-item.result in
    let count = c.loop-test.count in
    one_counted (end_of_tests 0) (end_of_test 0) (λ t ts. refl) c.args.tests.now c.loop-test.test-index x x count c.max-count.result c.loop-test-test.true c.test-item.is
    (c.max-count.ensures ∙ ap (max count) c.width_of_test.ensures) c.loop-test.invariant

pub width_of_tests-returns : goal.width_of_tests-returns
width_of_tests-returns t c =
    all_counted (end_of_tests 0) c.args.tests.now c.loop-test.test-index c.loop-test.count
    (omega (arith, c.loop-test-test.false)) c.loop-test.invariant
