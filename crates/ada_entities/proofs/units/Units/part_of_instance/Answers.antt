use Rattle.std.proofs.Common.{sym, ap, ◌∙◌}
use Rattle.ada_rules.specs.Environment.{instance_interface}
use Rattle.ada_rules.specs.Expressions.{part_of_interface}
use Rattle.ada_entities.proofs.units.Units.part_of_instance.Goals as goal

pub returns-in-Some : goal.returns-in-Some
returns-in-Some c k actuals w h =
    let n = c.args.instance in
    c.part_of_generic.ensures k actuals w h
    ∙ ap (λ g. part_of_interface w c.args.name.now (instance_interface g n (actuals n))) (sym c.in-Some.is)
