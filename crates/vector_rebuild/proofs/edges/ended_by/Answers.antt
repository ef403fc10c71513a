use Rattle.std.proofs.Common.{Bool, sym, subst, ◌∙◌}
use Rattle.decision_map.specs.Decisions.{expression_at, graph_at}
use Rattle.cov_base.specs.Graph.{IsTree, next_in}
use Rattle.cov_base.specs.Path.{IsVectorOfLeaf, IsOutcome}
use Rattle.object_facts.proofs.Fair.{fair}
use Rattle.object_facts.specs.Object.{facts_of, condition_of}
use Rattle.vector_rebuild.proofs.LeafEdges.{value_at, ends_one, ends_no_leaf}
use Rattle.vector_rebuild.proofs.Known.{known}
use Rattle.vector_rebuild.proofs.edges.ended_by.Goals as goal

pub is_tree-requires : goal.is_tree-requires
is_tree-requires c = (known c.args.map.now c.args.pc c.args.condition c.requires.sound c.requires.role).decision

pub graph-requires : goal.graph-requires
graph-requires c = (known c.args.map.now c.args.pc c.args.condition c.requires.sound c.requires.role).decision

pub path_of_leaf-requires : goal.path_of_leaf-requires
path_of_leaf-requires c = rw c.graph.ensures.exact ((known c.args.map.now c.args.pc c.args.condition c.requires.sound c.requires.role).node)

pub returns-in_err-vector : goal.returns-in_err-vector
returns-in_err-vector c =
    let o = c.args.map.now in
    let tree : IsTree c.graph.result.now = rw c.graph.ensures.exact (c.is_tree.ensures.meaning.0 c.if-not-is_tree.false) in
    let leads : Type 0 = IsOutcome (next_in (graph_at o c.args.condition.decision.0) c.args.condition.condition.0 (value_at (condition_of c.args.condition) c.args.taken)) in
    let never : leads → ⊥ = λ outcome.
    let there : IsOutcome (next_in c.graph.result.now c.args.condition.condition.0 c.value_by-value.result) =
    rw (c.graph.ensures.exact, c.value_by-value.ensures) outcome in
    cc (c.in_err-vector.ensures.exactly.1 (tree, there)) in
    rw c.from_residual.ensures (ends_no_leaf (facts_of o) (condition_of c.args.condition) c.args.taken never)

pub returns : goal.returns
returns c =
    let o = c.args.map.now in
    let leaf = c.in_ok-vector.ensures.path (expression_at o c.args.condition.decision.0) c.graph.ensures.exact in
    ends_one (facts_of o) (fair o c.requires.sound) (condition_of c.args.condition) c.args.taken c.in_ok-vector.vector
    (sym c.is_tree.ensures.exact ∙ c.if-not-is_tree.false)
    (subst (λ (value : Bool). IsVectorOfLeaf (graph_at o c.args.condition.decision.0) c.args.condition.condition.0 value c.in_ok-vector.vector) c.value_by-value.ensures leaf)
