use Rattle.std.proofs.Common.{◌≡◌, List, map, ap, sym, subst, ◌∙◌}
use Rattle.cov_base.specs.Graph.{Edges}
use Rattle.cov_base.specs.Path.{IsPathVector}
use Rattle.condition_graph.specs.Target.{edges_of}
use Rattle.condition_graph.proofs.graph.Graph.is_path.Goals as goal

pub returns-clause-exact : goal.returns-clause-exact
returns-clause-exact c = λ e is.
    let the_nodes : map edges_of c.as_slice.result.now ≡ c.args.self.now = ap (map edges_of) c.as_slice.ensures.value ∙ c.self.view_is in (
      λ yes. subst (λ (es : List Edges). IsPathVector es c.args.v) the_nodes (c.is_path.ensures.path yes),
      λ of_path. c.is_path.ensures.each e (the_nodes ∙ is) (subst (λ (es : List Edges). IsPathVector es c.args.v) (sym the_nodes) of_path),
    )

pub returns-clause-path : goal.returns-clause-path
returns-clause-path c = λ yes.
    let the_nodes : map edges_of c.as_slice.result.now ≡ c.args.self.now = ap (map edges_of) c.as_slice.ensures.value ∙ c.self.view_is in
    subst (λ (es : List Edges). IsPathVector es c.args.v) the_nodes (c.is_path.ensures.path yes)
