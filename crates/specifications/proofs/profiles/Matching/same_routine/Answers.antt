use Rattle.std.proofs.Common.{◌&&◌, sym, ap, ◌∙◌}
use Rattle.std.proofs.lemmas.Result.{IfOk-weaker}
use Rattle.ada_tree.specs.View.{owner_of}
use Rattle.ada_rules.specs.Instances.{same_results}
use Rattle.specifications.specs.Matches.{formal_result}
use Rattle.specifications.specs.Profiles.{results_of}
use Rattle.specifications.proofs.MatchLaws.{are_kinds, profiles}
use Rattle.specifications.proofs.profiles.Matching.same_routine.Goals as goal

pub returns-then-not-branch : goal.returns-then-not-branch
returns-then-not-branch c known k b =
    let m = c.args.self.now in
    let o = owner_of c.args.formal_seen in
    let p = owner_of c.args.actual_seen in
    let f = c.args.formal.now in
    let r = c.args.actual.now in
    let same = (λ z. are_kinds m k o p (sym c.as_slice.ensures z) (sym c.as_slice-parameters.ensures z))
    ∙ sym (c.in_ok-same_kinds.ensures known k b) ∙ c.if-not-branch.true in
    ap (λ x. x && same_results (formal_result m k o f.result) (results_of k p r.result)) (sym same) ∙ profiles m k o p f r

pub returns : goal.returns
returns c =
    let m = c.args.self.now in
    let o = owner_of c.args.formal_seen in
    let p = owner_of c.args.actual_seen in
    let f = c.args.formal.now in
    let r = c.args.actual.now in
    IfOk-weaker c.same_results.result _ _
    (λ x h known k b.
    let same = (λ z. are_kinds m k o p (sym c.as_slice.ensures z) (sym c.as_slice-parameters.ensures z))
    ∙ sym (c.in_ok-same_kinds.ensures known k b) ∙ c.if-not-branch.false in
    h known k b
    ∙ ap (λ x. x && same_results (formal_result m k o f.result) (results_of k p r.result)) (sym same) ∙ profiles m k o p f r)
    c.same_results.ensures
