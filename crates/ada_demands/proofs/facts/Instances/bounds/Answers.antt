use Rattle.std.proofs.Common.{ap, ◌∙◌}
use Rattle.ada_meaning.specs.Statics.{static_bounds}
use Rattle.ada_tree.specs.View.{scalar_range_of}
use Rattle.ada_demands.proofs.facts.Instances.bounds.Goals as goal

pub returns : goal.returns
returns c = c.bounds.ensures ∙ ap (λ v. static_bounds v c.args.instance (scalar_range_of c.args.range)) c.of.ensures.values
