use Rattle.std.proofs.Common.{map, set, ap, ◌∙◌}
use Rattle.std.proofs.lemmas.List.{map-set}
use Rattle.ada_demands.specs.FactViews.{facts_of}
use Rattle.ada_demands.proofs.facts.Instances.set.Goals as goal

pub returns : goal.returns
returns c =
    ap (map facts_of) c.put.ensures
    ∙ (map-set facts_of c.self.inside.facts.items c.index_of.result c.args.facts
    ∙ (λ i. set (c.self.view_is i) (c.index_of.ensures i) (facts_of c.args.facts)))
