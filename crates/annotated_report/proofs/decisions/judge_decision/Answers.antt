use Rattle.std.proofs.Common.{◌∙◌, sym, ap, length, arith}
use Rattle.cov_base.proofs.Edges.{length_graph}
use Rattle.annotated_report.specs.Findings.{expr_of}
use Rattle.std.proofs.lemmas.Grind.{common_steps}
use Rattle.annotated_report.proofs.decisions.judge_decision.Goals as goal

pub judge_pairs-requires-clause-conditions : goal.judge_pairs-requires-clause-conditions
judge_pairs-requires-clause-conditions c =
    let e = expr_of c.args.entry.now in
    c.requires.placed ∙ sym (length_graph e) ∙ sym (ap length (c.in_ok-dec.ensures e c.requires.spelled))

pub returns-clause-findings : goal.returns-clause-findings
returns-clause-findings c = grind (arith, common_steps)

pub returns-clause-covered : goal.returns-clause-covered
returns-clause-covered c = grind (arith, common_steps)

pub judge_pairs-requires-clause-vectors : goal.judge_pairs-requires-clause-vectors
judge_pairs-requires-clause-vectors c = grind (arith, common_steps)
