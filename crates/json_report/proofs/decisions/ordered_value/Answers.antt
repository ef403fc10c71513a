use Rattle.std.proofs.Common.{◌∙◌, sym, ap, length}
use Rattle.std.proofs.lemmas.Result.{IfOk-weaker}
use Rattle.cov_base.proofs.Edges.{length_graph}
use Rattle.annotated_report.specs.Findings.{expr_of}
use Rattle.json_report.proofs.Shown.{same_told}
use Rattle.json_report.proofs.decisions.ordered_value.Goals as goal

pub asked_conditions-requires-clause-conditions : goal.asked_conditions-requires-clause-conditions
asked_conditions-requires-clause-conditions c =
    let e = expr_of c.args.entry.now in
    c.requires.placed ∙ sym (length_graph e) ∙ sym (ap length (c.in_ok-dec.ensures e c.requires.spelled))

pub returns : goal.returns
returns c =
    let e = expr_of c.args.entry.now in
    let is = c.in_ok-dec.ensures e c.requires.spelled in
    IfOk-weaker c.told_decision.result _ _
    (λ v told. told ∙ same_told c.args.entry.now _ _ _ _ _ _ _ _ (c.outcomes-given.ensures.given_false e is) (c.outcomes-given.ensures.given_true e is)
    c.in_ok-conditions.ensures (c.in_ok-texts.ensures e is))
    c.told_decision.ensures
