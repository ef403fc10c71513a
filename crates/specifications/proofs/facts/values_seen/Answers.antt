use Rattle.std.proofs.Common.{sym, ap, ◌∙◌}
use Rattle.ada_tree.specs.View.{owner_of}
use Rattle.ada_rules.specs.Statics.{within}
use Rattle.ada_rules.specs.Types.{range_in}
use Rattle.ada_entities.specs.EntityViews.{routine_by}
use Rattle.ada_entities.specs.RoutineViews.{routine_in}
use Rattle.specifications.proofs.FactLaws.{no_values}
use Rattle.specifications.proofs.facts.values_seen.Goals as goal

pub returns-in-None : goal.returns-in-None
returns-in-None c k =
    ap within (ap range_in (c.integer.ensures k.types))
    ∙ no_values k c.in-Instance.instance c.args.routine.now c.in-None.is
    ∙ ap (λ o. (routine_by k (owner_of o) (routine_in k c.args.routine.now)).values) (sym c.in-Instance.is)
