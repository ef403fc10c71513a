use Rattle.std.proofs.Common.{◌∙◌, ap, length}
use Rattle.std.proofs.lemmas.Result.{IfOk-weaker}
use Rattle.cov_base.proofs.Edges.{length_graph}
use Rattle.mcdc_verdicts.specs.View.{pair_view}
use Rattle.annotated_report.specs.Findings.{expr_of}
use Rattle.json_report.proofs.Shown.{object_is}
use Rattle.json_report.proofs.conditions.judged_condition.Goals as goal

pub returns : goal.returns
returns c =
    let e = expr_of c.args.entry.now in
    IfOk-weaker c.condition_value.result _ _
    (λ v is. is ∙ object_is c.args.level e c.args.vectors.now c.args.c c.conditions-conditions.result c.args.place (pair_view c.shown_pair-pair.result)
    (c.shown_pair-pair.ensures e c.requires.graph) (c.conditions-conditions.ensures.count ∙ ap length c.requires.graph ∙ length_graph e))
    c.condition_value.ensures
