use Rattle.std.proofs.Common.{◌≡◌, ◌+◌, ◌*◌, drop, sum_by}
use Rattle.ada_meaning.specs.Tree.{conditions_of}
use Rattle.ada_tree.specs.Objects.{capped}
use Rattle.ada_tree.specs.Sizes.{test_size}
use Rattle.ada_tree.proofs.Chains.{tests_size}
use Rattle.ada_phrases.proofs.decisions.+conditions.Given as goal

abbrev pub decreases-conditions : goal.decreases-conditions
decreases-conditions l = 2 * test_size l.test.now

abbrev pub decreases-conditions_in : goal.decreases-conditions_in
decreases-conditions_in l = 2 * tests_size l.tests.now

-- what was counted, and what is left
abbrev pub invariant-conditions_in-loop-test : goal.invariant-conditions_in-loop-test
invariant-conditions_in-loop-test l =
    (capped l.count ≡ l.count) × (capped (l.count + sum_by conditions_of (drop l.test-index l.tests)) ≡ capped (sum_by conditions_of l.tests))
