use Rattle.std.proofs.lemmas.Grind.{common_steps}
use Rattle.std.proofs.Common.{sym, ap, ◌∙◌, arith}
use Rattle.ada_meaning.specs.Tree as tree
use Rattle.ada_tree.proofs.Chains.{tests_size, forms_size, test_within, test_positive}
use Rattle.ada_tree.specs.Sizes.{test_size}
use Rattle.ada_tree.specs.View.{neutral_of, test_at}
use Rattle.lower.specs.Forms.{conditions_in}
use Rattle.lower.proofs.Forms.{form_conditions, count_is}
use Rattle.lower.proofs.edges.+conditions.Goals as goal

pub conditions_in-conditions_of-requires : goal.conditions_in-conditions_of-requires
conditions_in-conditions_of-requires t c =
    (omega (arith, c.decreases, test_within c.args.tests.now c.loop-test.test-index c.test-item.result (omega arith), ap (λ x. test_size x) c.test-item.is), tt)

pub conditions_of-conditions_in-requires : goal.conditions_of-conditions_in-requires
conditions_of-conditions_in-requires t c =
    let first = c.in-ShortCircuit.first.value in
    let others = c.in-ShortCircuit.others.items in
    let is = ap test_size (sym c.test.view_is ∙ ap test_at c.in-ShortCircuit.is) in
    (omega (arith, is, forms_size (neutral_of c.in-ShortCircuit.field-0) first others, test_positive first, ap tests_size c.deref-in-ShortCircuit-2.ensures.value), tt)

pub conditions_of-returns-in_ok-conditions_in-in-ShortCircuit : goal.conditions_of-returns-in_ok-conditions_in-in-ShortCircuit
conditions_of-returns-in_ok-conditions_in-in-ShortCircuit t c =
    let first = c.in-ShortCircuit.first.value in
    let others = c.in-ShortCircuit.others.items in
    rw (← c.test.view_is, c.in-ShortCircuit.is)
    (count_is c.number_after.result _ _ _ c.number_after.ensures.number
    (omega (
      arith,
      form_conditions (neutral_of c.in-ShortCircuit.field-0) first others,
      c.in_ok-conditions_of-in-ShortCircuit.ensures,
      c.in_ok-conditions_in-in-ShortCircuit.ensures,
      ap (λ x. tree.conditions_of x) c.deref-in-ShortCircuit.ensures,
      ap conditions_in c.deref-in-ShortCircuit-2.ensures.value,
    )))

pub conditions_in-loop-test-preserved : goal.conditions_in-loop-test-preserved
conditions_in-loop-test-preserved t c = grind (arith, common_steps)

pub conditions_in-returns : goal.conditions_in-returns
conditions_in-returns t c = grind (arith, common_steps)
