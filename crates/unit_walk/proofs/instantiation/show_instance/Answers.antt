use Rattle.std.proofs.Common.{map, subst}
use Rattle.ada_entities.specs.UnitViews.{GiveSame}
use Rattle.ada_entities.specs.Views.{given_of}
use Rattle.specifications.specs.Actuals.{actual_of}
use Rattle.unit_walk.proofs.ShowingLaws.{shown_behind, instance_seen}
use Rattle.unit_walk.proofs.instantiation.show_instance.Goals as goal

pub returns-clause-shown : goal.returns-clause-shown
returns-clause-shown c =
    instance_seen c.args.symbols.now c.add_instance.new.self c.set_unit.new.self c.args.unit c.args.made.now c.in_ok-types.types
    c.args.number c.in_ok-add_instance.ensures.added c.in_ok-add_instance.ensures.made (c.in_ok-set_unit.ensures tt)
    (λ k. subst (λ xs. GiveSame (map (actual_of k) xs) (map given_of c.in_ok-types.types)) c.as_slice.ensures.value
    (c.in_ok-types.ensures k))

pub returns-clause-added : goal.returns-clause-added
returns-clause-added c =
    shown_behind c.args.symbols.now c.add_instance.new.self c.set_unit.new.self c.args.unit c.args.made.now.generic c.args.number
    c.in_ok-add_instance.ensures.added (c.in_ok-set_unit.ensures tt)
