use Rattle.std.proofs.Common.{option_map, sym, ap, ◌∙◌}
use Rattle.std.specs.Option.{option_copied}
use Rattle.ada_rules.specs.Environment.{interface_of}
use Rattle.ada_rules.specs.Instances as rules
use Rattle.ada_entities.specs.EntityViews.{entity_of, region_of}
use Rattle.specifications.proofs.GenericLaws.{generic_there}
use Rattle.specifications.proofs.generics.generic_of.Goals as goal

pub returns-in-Some : goal.returns-in-Some
returns-in-Some c k w h =
    let n = c.in-Unit.unit in
    ap (λ o. option_map (λ x. n) (option_copied o)) (sym c.in-Some.is)
    ∙ generic_there w n (interface_of w n) (region_of k) (option_copied c.formals_of.result) (c.formals_of.ensures k w h)
    ∙ ap (λ x. rules.generic_of w (entity_of k x)) (sym c.in-Unit.is)

pub returns-in-None : goal.returns-in-None
returns-in-None c k w h =
    let n = c.in-Unit.unit in
    ap (λ o. option_map (λ x. n) (option_copied o)) (sym c.in-None.is)
    ∙ generic_there w n (interface_of w n) (region_of k) (option_copied c.formals_of.result) (c.formals_of.ensures k w h)
    ∙ ap (λ x. rules.generic_of w (entity_of k x)) (sym c.in-Unit.is)
