use Rattle.std.proofs.Common.{◌≡◌, ◌≤◌, List, map, ap, sym, subst, arith, ◌∙◌}
use Rattle.cov_base.specs.Expr.{size}
use Rattle.cov_base.specs.Graph.{Edges, graph, leaf, next_in}
use Rattle.cov_base.specs.Marks.{bit}
use Rattle.cov_base.specs.Path.{LeadsTo}
use Rattle.cov_base.specs.declared.event.Vector.{Vector}
use Rattle.condition_graph.specs.Target.{edges_of, place_of}
use Rattle.condition_graph.proofs.Places.{next_of_item, length_of_graph}
use Rattle.condition_graph.proofs.Ways.{walk_starts, walk_on, way_out, way_on, is_at_node, never_at_node, way_ends, found_equal}
use Rattle.condition_graph.proofs.walk.is_path.Goals as goal

pub loop-number-init : goal.loop-number-init
loop-number-init c = (walk_starts (map edges_of c.args.nodes.now), λ e is path ends leads shown. way_out e path ends leads)

pub loop-number-preserved : goal.loop-number-preserved
loop-number-preserved c =
    let nodes = c.args.nodes.now in
    let n = c.loop-number.number in
    let at = place_of c.loop-number.at in
    let to = place_of c.to-at.result in
    let value = c.has-value.result in
    let here = is_at_node at n (sym c.is_node.ensures ∙ c.if-not-is_node.false) in
    let next : to ≡ next_in (map edges_of nodes) n value =
    c.to-at.ensures ∙ next_of_item nodes n value _ c.loop-number-test.true in (
      walk_on (map edges_of nodes) at to n value c.loop-number.taken c.with_step-taken.result c.loop-number.invariant.0 here next c.with_step-taken.ensures,
      λ e is path ends leads shown.
          way_on e path ends n at to value c.loop-number.taken c.with_step-taken.result (c.loop-number.invariant.1 e is path ends leads shown) here
          (c.has-value.ensures ∙ ap (λ (v : Vector). bit v.value n) shown)
          (next ∙ ap (λ (es : List Edges). next_in es n value) is)
          c.with_step-taken.ensures,
    )

pub returns-in-Node-clause-each : goal.returns-in-Node-clause-each
returns-in-Node-clause-each c = λ e is of_path.
    let nodes = c.args.nodes.now in
    let leads : LeadsTo (graph e) of_path.path (leaf of_path.ends) =
    subst (λ (es : List Edges). LeadsTo es of_path.path (leaf of_path.ends)) is of_path.leads in
    let past : size e ≤ c.loop-number.number = omega (arith, length_of_graph nodes e is, c.loop-number-test.false) in
    absurd (never_at_node e of_path.path of_path.ends c.loop-number.number (place_of c.loop-number.at) c.loop-number.taken c.in-Node.field-0.0
    (c.loop-number.invariant.1 e is of_path.path of_path.ends leads of_path.shown) past (ap place_of c.in-Node.is))

pub returns-in-Leaf-clause-each : goal.returns-in-Leaf-clause-each
returns-in-Leaf-clause-each c = λ e is of_path.
    let leads : LeadsTo (graph e) of_path.path (leaf of_path.ends) =
    subst (λ (es : List Edges). LeadsTo es of_path.path (leaf of_path.ends)) is of_path.leads in
    let taken : c.loop-number.taken ≡ c.args.v =
    way_ends e of_path.path of_path.ends c.loop-number.number (place_of c.loop-number.at) c.loop-number.taken c.in-Leaf.field-0
    (c.loop-number.invariant.1 e is of_path.path of_path.ends leads of_path.shown) (ap place_of c.in-Leaf.is)
    ∙ sym of_path.shown in
    c.eq.ensures ∙ found_equal c.loop-number.taken c.args.v taken
