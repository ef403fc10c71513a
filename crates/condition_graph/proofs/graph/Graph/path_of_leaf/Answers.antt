use Rattle.std.proofs.lemmas.Grind.{common_steps}
use Rattle.std.proofs.Common.{◌≡◌, ◌<◌, ◌∷◌, true, false, List, length, map, ap, sym, subst, arith, ◌∙◌}
use Rattle.cov_base.specs.Graph.{Edges, leaf, graph, next_in}
use Rattle.cov_base.specs.Path.{vector_of, IsVectorOfLeaf}
use Rattle.cov_base.proofs.Edges.{length-nodes}
use Rattle.condition_graph.specs.Target.{edges_of}
use Rattle.condition_graph.specs.Entry.{climbed}
use Rattle.condition_graph.proofs.Climbs.{leaf_climb}
use Rattle.condition_graph.proofs.graph.Graph.path_of_leaf.Goals as goal

pub returns-in-Leaf-clause-path : goal.returns-in-Leaf-clause-path
returns-in-Leaf-clause-path c e is =
    let k = c.args.node.0 in
    let value = c.args.value in
    let the_nodes : map edges_of c.as_slice.result.now ≡ graph e =
    ap (map edges_of) c.as_slice.ensures.value ∙ c.self.view_is ∙ is in
    let within : k < length (graph e) = subst (λ (nodes : List Edges). k < length nodes) is c.requires in
    let leads : next_in (graph e) k value ≡ leaf c.in-Leaf.field-0 =
    sym (c.in-Leaf.ensures ∙ ap (λ (nodes : List Edges). next_in nodes k value) is) in
    let shown : c.vector_by.result ≡ vector_of (record { at_node = k; value = value } ∷ climbed k (graph e) k) =
    c.vector_by.ensures
    ∙ ap (λ (nodes : List Edges). vector_of (record { at_node = k; value = value } ∷ climbed k nodes k)) the_nodes in
    subst (IsVectorOfLeaf (graph e) k value) (sym shown)
    (leaf_climb e k value c.in-Leaf.field-0 (omega (arith, length-nodes e 0 (leaf true) (leaf false))) leads)

pub vector_by-requires-clause-within : goal.vector_by-requires-clause-within
vector_by-requires-clause-within c = grind (arith, common_steps) steps 2000000
