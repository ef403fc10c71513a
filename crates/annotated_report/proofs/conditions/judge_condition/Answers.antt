use Rattle.std.proofs.Common.{◌++◌, ◌∙◌, ap, length, Bool}
use Rattle.std.proofs.lemmas.Result.{on_ok_weaker}
use Rattle.cov_base.proofs.Edges.{length_graph}
use Rattle.mcdc_verdicts.specs.View.{pair_view}
use Rattle.annotated_report.specs.Findings.{expr_of, pair_finding}
use Rattle.annotated_report.specs.Shown.{pair_line}
use Rattle.annotated_report.specs.Verdicts.{is_covered}
use Rattle.annotated_report.proofs.ShownPairs.{finding_is, line_is}
use Rattle.annotated_report.proofs.conditions.judge_condition.Goals as goal

pub returns-clause-findings : goal.returns-clause-findings
returns-clause-findings c =
    on_ok_weaker c.add_pair.result
    (λ is. finding_is c.args.level (expr_of c.args.entry.now) c.args.vectors.now c.args.c (pair_view c.shown_pair-pair.result) _ _ _ _
    (c.shown_pair-pair.ensures (expr_of c.args.entry.now) c.requires.graph)
    (is ∙ ap (λ (covered : Bool). c.args.found.now.findings.items ++ pair_finding covered c.condition_key-key.result (pair_view c.shown_pair-pair.result)) c.requires.covered
    ∙ ap (λ key. c.args.found.now.findings.items ++ pair_finding (is_covered (expr_of c.args.entry.now) c.args.vectors.now) key (pair_view c.shown_pair-pair.result)) c.condition_key-key.ensures))
    c.add_pair.ensures.findings

pub returns-clause-pairs : goal.returns-clause-pairs
returns-clause-pairs c =
    let e = expr_of c.args.entry.now in
    on_ok_weaker c.add_pair.result
    (λ is. line_is c.args.level e c.args.vectors.now c.args.c (pair_view c.shown_pair-pair.result) c.conditions-conditions.result _ _ _
    (c.shown_pair-pair.ensures e c.requires.graph) (c.conditions-conditions.ensures.count ∙ ap length c.requires.graph ∙ length_graph e)
    (is ∙ ap (λ key. c.args.found.now.pairs.items ++ pair_line c.conditions-conditions.result key (pair_view c.shown_pair-pair.result)) c.condition_key-key.ensures))
    c.add_pair.ensures.pairs
