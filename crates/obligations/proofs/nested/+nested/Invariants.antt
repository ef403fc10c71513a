-- The entries so far, and then those of the rest, are those of all.
use Rattle.std.proofs.Common.{◌≡◌, ◌+◌, ◌*◌, drop}
use Rattle.ada_tree.specs.Sizes.{expr_size, parts_size, actuals_size, test_size}
use Rattle.ada_meaning.specs.Collected.{in_parts, in_actuals}
use Rattle.ada_tree.specs.View.{parts_of, actuals_of, neutral_of}
use Rattle.obligations.specs.Entries.{joined, of_nested}
use Rattle.obligations.specs.Operands.{in_operands}
use Rattle.obligations.specs.Spelled.{with_others}
use Rattle.ada_tree.proofs.Chains.{operands_size, tests_size, actual_size, selector_size}
use Rattle.obligations.proofs.nested.+nested.Given as goal

abbrev pub decreases-add_labelled : goal.decreases-add_labelled
decreases-add_labelled l = 2 * test_size l.test.now + 1

abbrev pub decreases-add_test : goal.decreases-add_test
decreases-add_test l = 2 * test_size l.test.now

abbrev pub decreases-add_tests : goal.decreases-add_tests
decreases-add_tests l = 2 * tests_size l.tests.now + 1

abbrev pub decreases-add_in_expression : goal.decreases-add_in_expression
decreases-add_in_expression l = 2 * expr_size l.expr.now

abbrev pub decreases-add_in_operands : goal.decreases-add_in_operands
decreases-add_in_operands l = 2 * operands_size l.operands.now + 1

abbrev pub decreases-add_in_parts : goal.decreases-add_in_parts
decreases-add_in_parts l = 2 * parts_size (parts_of l.parts.now)

abbrev pub decreases-add_in_selector : goal.decreases-add_in_selector
decreases-add_in_selector l = 2 * selector_size l.selector.now + 1

abbrev pub decreases-add_in_actuals : goal.decreases-add_in_actuals
decreases-add_in_actuals l = 2 * actuals_size (actuals_of l.actuals.now) + 1

abbrev pub decreases-add_in_actual : goal.decreases-add_in_actual
decreases-add_in_actual l = 2 * actual_size l.actual.now + 1

abbrev pub invariant-add_in_parts-loop-part : goal.invariant-add_in_parts-loop-part
invariant-add_in_parts-loop-part l =
    joined l.listing (of_nested (in_parts l.statement (parts_of (drop l.part-index l.parts))))
    ≡ joined l.fn.listing (of_nested (in_parts l.fn.statement (parts_of l.fn.parts)))

abbrev pub invariant-add_in_actuals-loop-actual : goal.invariant-add_in_actuals-loop-actual
invariant-add_in_actuals-loop-actual l =
    joined l.listing (of_nested (in_actuals l.statement (actuals_of (drop l.actual-index l.actuals))))
    ≡ joined l.fn.listing (of_nested (in_actuals l.fn.statement (actuals_of l.fn.actuals)))

abbrev pub invariant-add_in_operands-loop-operand : goal.invariant-add_in_operands-loop-operand
invariant-add_in_operands-loop-operand l =
    joined l.listing (of_nested (in_operands l.statement (drop l.operand-index l.operands))) ≡ joined l.fn.listing (of_nested (in_operands l.fn.statement l.fn.operands))

abbrev pub invariant-add_tests-loop-test : goal.invariant-add_tests-loop-test
invariant-add_tests-loop-test l =
    with_others l.statement (neutral_of l.form) (drop l.test-index l.tests) l.spelling
    ≡ with_others l.fn.statement (neutral_of l.fn.form) l.fn.tests l.fn.spelling
