use Rattle.std.proofs.Common.{◌≡◌, sym, ap, ◌∙◌}
use Rattle.ada_rules.specs.Plan.{answer_at}
use Rattle.ada_rules.specs.Entities.{key}
use Rattle.ada_rules.specs.Environment.{given}
use Rattle.ada_rules.specs.Expressions.{attribution}
use Rattle.ada_phrases.specs.DenotedView.{denotes}
use Rattle.ada_phrases.proofs.Parts.{answers_as, pair_first, pair_second}
use Rattle.ada_phrases.proofs.suffixes.attributed.Goals as goal

pub returns : goal.returns
returns c k env s h =
    let first = pair_first c.args.prefix c.key.result (c.in_ok-prefix.prefix, c.in_ok-prefix.name) c.in_ok-prefix.ensures in
    let name = pair_second c.args.prefix (λ v. v.items ≡ key c.args.identifier.now) c.key.result (c.in_ok-prefix.prefix, c.in_ok-prefix.name) c.in_ok-prefix.ensures c.key.ensures in
    answers_as (λ x. given (denotes k x) s) _ _ c.attribute_by.result
    (ap (λ d. answer_at c.args.pos (attribution env s (denotes k d) (key c.args.identifier.now)).outcome) (sym first)
    ∙ ap (λ n. answer_at c.args.pos (attribution env s (denotes k c.in_ok-prefix.prefix) n).outcome) (sym (c.as_slice.ensures.value ∙ name)))
    (c.attribute_by.ensures k env s h)
