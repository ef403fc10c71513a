use Rattle.std.proofs.Common.{◌<◌, length, ap, ◌∙◌}
use Rattle.object_format.specs.declared.object.Object.{Object}
use Rattle.decision_map.specs.Decisions.{graph_at}
use Rattle.decision_map.proofs.Needed.{IsDecisionAt, kept_at, graph_of_spelled}
use Rattle.decision_map.proofs.map.DecisionMap.graph.Goals as goal

pub returns-clause-spelled : goal.returns-clause-spelled
returns-clause-spelled c entry e is spelled =
    let o = c.self.inside.object.now in
    let d = c.args.decision.0 in
    let within : d < length o.obligations.decisions = rw c.self.view_is c.requires in
    let kept : IsDecisionAt o d c.index.result.now = kept_at o c.self.inside.graphs.items c.self.invariant.decisions d c.index.result.now within c.index.ensures in
    kept.graph ∙ ap (λ (x : Object). graph_at x d) c.self.view_is ∙ graph_of_spelled c.args.self.now d entry e is spelled
