use Rattle.std.proofs.Common.{◌≡◌, ◌+◌, true, sum_by, sym, ap, ◌∙◌, subst, arith}
use Rattle.ada_meaning.specs.Tree.{conditions_of}
use Rattle.ada_tree.specs.Sizes.{test_size}
use Rattle.ada_tree.specs.View.{is_filled, has_forms, neutral_of, test_at}
use Rattle.ada_tree.proofs.Chains.{tests_size, forms_size, test_within, test_positive}
use Rattle.ada_phrases.proofs.Local.{conditions_along, filled_tests}
use Rattle.ada_phrases.proofs.decisions.+conditions.Goals as goal

pub conditions-conditions-requires-in-ShortCircuit : goal.conditions-conditions-requires-in-ShortCircuit
conditions-conditions-requires-in-ShortCircuit t c =
    let a = c.in-ShortCircuit.first.value in
    let us = c.in-ShortCircuit.others.items in
    let filled : is_filled us ≡ true = subst (λ k. has_forms k ≡ true) c.in-ShortCircuit.is c.test.invariant in (
      omega (
        arith,
        c.decreases,
        forms_size (neutral_of c.in-ShortCircuit.field-0) a us,
        filled_tests us filled,
        ap (λ k. test_size (test_at k)) c.in-ShortCircuit.is,
        ap test_size c.test.view_is,
        ap test_size c.deref-in-ShortCircuit.ensures,
      ),
      tt,
    )

pub conditions-conditions_in-requires : goal.conditions-conditions_in-requires
conditions-conditions_in-requires t c =
    let a = c.in-ShortCircuit.first.value in
    let us = c.in-ShortCircuit.others.items in (
      omega (
        arith,
        c.decreases,
        forms_size (neutral_of c.in-ShortCircuit.field-0) a us,
        test_positive a,
        ap (λ k. test_size (test_at k)) c.in-ShortCircuit.is,
        ap test_size c.test.view_is,
        ap tests_size c.deref-in-ShortCircuit-2.ensures.value,
      ),
      tt,
    )

pub conditions-returns-in-ShortCircuit : goal.conditions-returns-in-ShortCircuit
conditions-returns-in-ShortCircuit t c =
    let a = c.in-ShortCircuit.first.value in
    let us = c.in-ShortCircuit.others.items in
    let all : conditions_of c.args.test.now ≡ conditions_of a + sum_by conditions_of us = sym (ap (λ k. conditions_of (test_at k)) (sym c.in-ShortCircuit.is) ∙ ap conditions_of c.test.view_is)
    ∙ conditions_along (neutral_of c.in-ShortCircuit.field-0) a us in
    let one = ap conditions_of c.deref-in-ShortCircuit.ensures in
    let rest = ap (λ xs. sum_by conditions_of xs) c.deref-in-ShortCircuit-2.ensures.value in
    omega (arith, all, one, rest)

pub conditions_in-conditions-requires : goal.conditions_in-conditions-requires
conditions_in-conditions-requires t c =
    (omega (arith, c.decreases, test_within c.args.tests.now c.loop-test.test-index c.test-item.result (omega arith), ap test_size c.test-item.is), tt)
