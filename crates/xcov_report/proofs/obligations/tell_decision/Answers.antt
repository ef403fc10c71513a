use Rattle.std.proofs.Common.{◌∙◌, sym, ap, length}
use Rattle.cov_base.proofs.Edges.{length_graph}
use Rattle.annotated_report.specs.Findings.{expr_of}
use Rattle.xcov_report.proofs.obligations.tell_decision.Goals as goal

pub tell_asked_conditions-requires-clause-conditions : goal.tell_asked_conditions-requires-clause-conditions
tell_asked_conditions-requires-clause-conditions c =
    let e = expr_of c.args.entry.now in
    c.requires.placed ∙ sym (length_graph e) ∙ sym (ap length (c.in_ok-dec.ensures e c.requires.spelled))
