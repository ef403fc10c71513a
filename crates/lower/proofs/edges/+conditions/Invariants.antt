use Rattle.std.proofs.Common.{◌≡◌, ◌+◌, ◌*◌, drop}
use Rattle.ada_tree.proofs.Chains.{tests_size}
use Rattle.ada_tree.specs.Sizes.{test_size}
use Rattle.lower.specs.Forms.{conditions_in}
use Rattle.lower.proofs.edges.+conditions.Given as goal

abbrev pub decreases-conditions_of : goal.decreases-conditions_of
decreases-conditions_of l = 2 * test_size l.test.now

abbrev pub decreases-conditions_in : goal.decreases-conditions_in
decreases-conditions_in l = 2 * tests_size l.tests.now + 1

-- what was counted and what is left is the whole
abbrev pub invariant-conditions_in-loop-test : goal.invariant-conditions_in-loop-test
invariant-conditions_in-loop-test l = l.count + conditions_in (drop l.test-index l.tests) ≡ conditions_in l.fn.tests
