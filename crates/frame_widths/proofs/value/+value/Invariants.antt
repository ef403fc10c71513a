use Rattle.std.proofs.Common.{◌≡◌, ◌+◌, ◌*◌, max, drop}
use Rattle.ada_tree.proofs.Chains.{operands_size, tests_size, selector_size, actual_size}
use Rattle.ada_tree.specs.Objects.{capped}
use Rattle.ada_tree.specs.Sizes.{expr_size, test_size, parts_size, actuals_size}
use Rattle.ada_tree.specs.View.{parts_of, actuals_of}
use Rattle.frame_widths.specs.Chains.{end_of_operands, end_of_tests}
use Rattle.frame_widths.specs.Ends.{end_of_actuals, end_of_parts}
use Rattle.frame_widths.proofs.Counted.{Counted}
use Rattle.frame_widths.proofs.value.+value.Given as goal

abbrev pub decreases-width_of_expr : goal.decreases-width_of_expr
decreases-width_of_expr l = 4 * expr_size l.expr.now

abbrev pub decreases-width_of_operands : goal.decreases-width_of_operands
decreases-width_of_operands l = 4 * operands_size l.operands.now + 1

abbrev pub decreases-width_of_selector : goal.decreases-width_of_selector
decreases-width_of_selector l = 4 * selector_size l.selector.now + 1

abbrev pub decreases-width_of_parts : goal.decreases-width_of_parts
decreases-width_of_parts l = 4 * parts_size (parts_of l.selectors.now) + 2

abbrev pub decreases-width_of_actual : goal.decreases-width_of_actual
decreases-width_of_actual l = 4 * actual_size l.actual.now + 3

abbrev pub decreases-width_of_actuals : goal.decreases-width_of_actuals
decreases-width_of_actuals l = 4 * actuals_size (actuals_of l.actuals.now) + 1

abbrev pub decreases-width_of_test : goal.decreases-width_of_test
decreases-width_of_test l = 4 * test_size l.test.now

abbrev pub decreases-width_of_tests : goal.decreases-width_of_tests
decreases-width_of_tests l = 4 * tests_size l.tests.now + 1

abbrev pub invariant-width_of_operands-loop-operand : goal.invariant-width_of_operands-loop-operand
invariant-width_of_operands-loop-operand l = Counted (end_of_operands 0) l.fn.operands l.operand-index l.count

abbrev pub invariant-width_of_parts-loop-selector : goal.invariant-width_of_parts-loop-selector
invariant-width_of_parts-loop-selector l = Counted (λ ss. end_of_parts 0 (parts_of ss)) l.fn.selectors l.selector-index l.count

abbrev pub invariant-width_of_tests-loop-test : goal.invariant-width_of_tests-loop-test
invariant-width_of_tests-loop-test l = Counted (end_of_tests 0) l.fn.tests l.test-index l.count

-- what was counted, and what is left, behind the slots that are kept
abbrev pub invariant-width_of_actuals-loop-actual : goal.invariant-width_of_actuals-loop-actual
invariant-width_of_actuals-loop-actual l =
    max l.count (capped (l.kept + end_of_actuals 0 (actuals_of (drop l.actual-index l.actuals)))) ≡ capped (end_of_actuals 0 (actuals_of l.fn.actuals))
