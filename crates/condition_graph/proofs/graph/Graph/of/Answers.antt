use Rattle.std.proofs.Common.{◌≡◌, ℕ, List, map, arith, ap, ◌∙◌}
use Rattle.cov_base.specs.Graph.{graph}
use Rattle.condition_graph.specs.Target.{edges_of}
use Rattle.condition_graph.specs.Reading.{State, read_down, started}
use Rattle.condition_graph.proofs.Places.{length_of_graph}
use Rattle.condition_graph.proofs.Readings.{read_graph}
use Rattle.condition_graph.proofs.graph.Graph.of.Goals as goal

pub returns : goal.returns
returns c e is =
    ap (map edges_of) c.reverse.ensures.items
    ∙ ap (λ (s : State). s.nodes) c.in_ok-reading.ensures
    ∙ ap (λ (bytes : List ℕ). (read_down bytes started).nodes) c.as_slice.ensures
    ∙ read_graph c.args.expr.now.postfix e is

pub invariant_of-result : goal.invariant_of-result
invariant_of-result c =
    let e = c.requires.0 in
    let is = c.requires.1 in
    let the_graph : map edges_of c.reverse.new.self.items ≡ graph e =
    ap (map edges_of) c.reverse.ensures.items
    ∙ ap (λ (s : State). s.nodes) c.in_ok-reading.ensures
    ∙ ap (λ (bytes : List ℕ). (read_down bytes started).nodes) c.as_slice.ensures
    ∙ read_graph c.args.expr.now.postfix e is in
    omega (arith, is.fits, length_of_graph c.reverse.new.self.items e the_graph)
