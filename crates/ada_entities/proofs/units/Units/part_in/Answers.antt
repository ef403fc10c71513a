use Rattle.std.proofs.Common.{sym, ap, ◌∙◌}
use Rattle.ada_rules.specs.Entities as rules
use Rattle.ada_rules.specs.Expressions.{part_of_interface}
use Rattle.ada_entities.specs.UnitViews.{interface_of}
use Rattle.ada_entities.proofs.units.Units.part_in.Goals as goal

pub returns-in-Package : goal.returns-in-Package
returns-in-Package c k actuals w h =
    c.shown.ensures k
    ∙ (ap rules.shown (c.find.ensures k) ∙ ap (λ i. part_of_interface w c.args.name.now (interface_of k actuals i)) (sym c.in-Package.is))

pub returns-in-Instance : goal.returns-in-Instance
returns-in-Instance c k actuals w h =
    c.part_of_instance.ensures k actuals w h
    ∙ ap (λ i. part_of_interface w c.args.name.now (interface_of k actuals i)) (sym c.in-Instance.is)
