use Rattle.std.proofs.Common.{ap, ◌∙◌}
use Rattle.ada_meaning.specs.Tree as tree
use Rattle.ada_tree.specs.View.{neutral_of, with_tests}
use Rattle.ada_judged.proofs.Chains.{tests_push}
use Rattle.ada_judged.proofs.Tests.{is_then}
use Rattle.ada_judged.proofs.logic.short_circuit.Goals as goal

pub returns : goal.returns
returns c =
    let n = neutral_of c.args.form in
    let first = c.opened-first.result.0 in
    let others = c.opened-first.result.1.items in
    let same =
    ap (λ us. with_tests n first us) c.in_ok-push.ensures.items
    ∙ (tests_push n first others c.args.right ∙ ap (λ t. tree.operator n t c.args.right) c.opened-first.ensures) in
    is_then c.short_circuit.result _ _ same c.short_circuit.ensures
