use Rattle.std.proofs.Common.{List, sym, ap, subst, ◌∙◌}
use Rattle.std.proofs.lemmas.Result.{IfOk-weaker}
use Rattle.cov_base.specs.declared.event.Vector.{Vector}
use Rattle.cov_base.specs.Graph.{graph}
use Rattle.cov_base.specs.Lists.{Everywhere}
use Rattle.cov_base.specs.Path.{IsPathVector}
use Rattle.annotated_report.specs.Findings.{expr_of}
use Rattle.annotated_report.specs.Members.{AreAlike}
use Rattle.annotated_report.proofs.Alike.{everywhere_within}
use Rattle.json_report.specs.Objects.{decision_object}
use Rattle.json_report.proofs.AlikeEvents.{same_decision}
use Rattle.json_report.proofs.decisions.decision_value.Goals as goal

pub ordered_value-requires-clause-paths : goal.ordered_value-requires-clause-paths
ordered_value-requires-clause-paths c =
    subst (λ (vs : List Vector). Everywhere (IsPathVector (graph (expr_of c.args.entry.now))) vs) (sym c.as_slice.ensures.value)
    (everywhere_within (IsPathVector (graph (expr_of c.args.entry.now))) c.args.vectors.now c.in_ok-ordered.ordered.items c.in_ok-ordered.ensures.0 c.requires.paths)

pub returns : goal.returns
returns c =
    let level = c.args.level in
    let entry = c.args.entry.now in
    let same : AreAlike c.in_ok-ordered.ordered.items c.args.vectors.now = (c.in_ok-ordered.ensures.0, c.in_ok-ordered.ensures.1) in
    IfOk-weaker c.ordered_value.result _ _
    (λ v is. is ∙ ap (λ (vs : List Vector). decision_object level vs entry) c.as_slice.ensures.value
    ∙ same_decision level c.in_ok-ordered.ordered.items c.args.vectors.now entry same)
    c.ordered_value.ensures
