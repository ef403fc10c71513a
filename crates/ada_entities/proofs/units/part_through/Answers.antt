use Rattle.std.proofs.Common.{sym, ap, ◌∙◌}
use Rattle.ada_rules.specs.Expressions.{part_of_generic}
use Rattle.ada_entities.specs.UnitViews.{interface_of}
use Rattle.ada_entities.proofs.UnitLaws.{part_same}
use Rattle.ada_entities.proofs.units.part_through.Goals as goal

pub returns-in-Generic : goal.returns-in-Generic
returns-in-Generic c k actuals h same =
    let n = c.args.instance in
    let name = c.args.name.now in
    c.part_of_text.ensures k h
    ∙ (sym (part_same n (actuals n) _ same _) ∙ ap (λ i. part_of_generic n (actuals n) name (interface_of k actuals i)) (sym c.in-Generic.is))
