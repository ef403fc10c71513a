use Rattle.std.proofs.Common.{◌&&◌, sym, ap, ◌∙◌}
use Rattle.ada_meaning.specs.Types.{here}
use Rattle.ada_tree.specs.View.{owner_of}
use Rattle.ada_rules.specs.Subprograms.{same_result}
use Rattle.specifications.specs.Profiles.{results_of}
use Rattle.specifications.proofs.ConformanceLaws.{are_same}
use Rattle.specifications.proofs.ProfileLaws.{both_conform}
use Rattle.specifications.proofs.conformance.conforms.Goals as goal

pub returns-then-same_parameters : goal.returns-then-same_parameters
returns-then-same_parameters c k region =
    let o = owner_of c.args.seen in
    let r = c.args.declared.now in
    let q = c.args.profile.now in
    let same = (λ z. are_same k o (sym c.as_slice.ensures z) (sym c.as_slice-parameters.ensures z)) ∙ sym (c.same_parameters.ensures k) ∙ c.if-same_parameters.true in
    c.same_result.ensures k
    ∙ ap (λ b. b && same_result (results_of k o r.result) (results_of k here q.result)) (sym same)
    ∙ both_conform k o r q region

pub returns-else-same_parameters : goal.returns-else-same_parameters
returns-else-same_parameters c k region =
    let o = owner_of c.args.seen in
    let r = c.args.declared.now in
    let q = c.args.profile.now in
    let same = (λ z. are_same k o (sym c.as_slice.ensures z) (sym c.as_slice-parameters.ensures z)) ∙ sym (c.same_parameters.ensures k) ∙ c.if-same_parameters.false in
    c.if-same_parameters.false
    ∙ ap (λ b. b && same_result (results_of k o r.result) (results_of k here q.result)) (sym same)
    ∙ both_conform k o r q region
