use Rattle.std.proofs.Common.{◌≡◌, ◌<◌, length, ap, sym, ◌∙◌}
use Rattle.object_format.specs.declared.object.Object.{Object}
use Rattle.decision_map.specs.Decisions.{graph_at, is_tree_at}
use Rattle.decision_map.proofs.Trees.{tree_law}
use Rattle.decision_map.proofs.Needed.{IsDecisionAt, kept_at}
use Rattle.decision_map.proofs.map.DecisionMap.is_tree.Goals as goal

pub returns-clause-meaning : goal.returns-clause-meaning
returns-clause-meaning c =
    let o = c.self.inside.object.now in
    let d = c.args.decision.0 in
    let within : d < length o.obligations.decisions = rw c.self.view_is c.requires in
    let kept : IsDecisionAt o d c.index.result.now = kept_at o c.self.inside.graphs.items c.self.invariant.decisions d c.index.result.now within c.index.ensures in
    let exact : c.index.result.now.is_tree ≡ is_tree_at c.args.self.now d = kept.is_tree ∙ ap (λ (x : Object). is_tree_at x d) c.self.view_is in
    let law = tree_law (graph_at c.args.self.now d) in
    (λ is. law.0 (sym exact ∙ is), λ tree. exact ∙ law.1 tree)
