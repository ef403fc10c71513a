use Rattle.std.proofs.Common.{ap, ◌∙◌}
use Rattle.ada_meaning.specs.Statics.{static_value}
use Rattle.ada_tree.specs.View.{static_of}
use Rattle.ada_demands.proofs.facts.Instances.number.Goals as goal

pub returns : goal.returns
returns c = c.number.ensures ∙ ap (λ v. static_value v c.args.instance (static_of c.args.value)) c.of.ensures.values
