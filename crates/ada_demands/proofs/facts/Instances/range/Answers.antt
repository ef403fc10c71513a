use Rattle.std.proofs.Common.{ap, ◌∙◌}
use Rattle.ada_meaning.specs.Statics.{static_bounds}
use Rattle.ada_meaning.specs.Types.{between}
use Rattle.ada_tree.specs.View.{static_value_of}
use Rattle.ada_demands.proofs.facts.Instances.range.Goals as goal

pub returns : goal.returns
returns c =
    c.range.ensures
    ∙ ap (λ v. static_bounds v c.args.instance (between (static_value_of c.args.first) (static_value_of c.args.last))) c.of.ensures.values
