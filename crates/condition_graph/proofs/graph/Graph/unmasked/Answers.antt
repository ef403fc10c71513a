use Rattle.std.proofs.Common.{◌≡◌, Bool, List, map, ap, subst, ◌∙◌}
use Rattle.cov_base.specs.Graph.{Edges, graph}
use Rattle.cov_base.specs.Marks.{bit, marks, outcome}
use Rattle.cov_base.specs.Path.{IsPathVector, walked}
use Rattle.decision_meaning.specs.Turn.{can_turn}
use Rattle.cov_base.proofs.Walks.{walk_law}
use Rattle.decision_meaning.proofs.Turns.{turn_law}
use Rattle.condition_graph.specs.Target.{edges_of, outcome_at}
use Rattle.condition_graph.proofs.graph.Graph.unmasked.Goals as goal

pub returns : goal.returns
returns c e is of_path k =
    let v = c.args.v in
    let the_nodes : map edges_of c.as_slice-nodes.result.now ≡ graph e =
    ap (map edges_of) c.as_slice-nodes.ensures.value ∙ c.self.view_is ∙ is in
    let given : c.end_of_walk.result ≡ outcome e (marks v) =
    c.end_of_walk.ensures
    ∙ ap (λ (nodes : List Edges). outcome_at (walked nodes (bit v.value))) the_nodes
    ∙ ap outcome_at (walk_law e (bit v.value)) in
    c.turning_conditions.ensures k
    ∙ ap (λ (nodes : List Edges). can_turn nodes (marks v) c.end_of_walk.result k) the_nodes
    ∙ ap (λ (b : Bool). can_turn (graph e) (marks v) b k) given
    ∙ turn_law e v k (subst (λ (nodes : List Edges). IsPathVector nodes v) is of_path)
