use Rattle.std.proofs.Common.{ap}
use Rattle.ada_tree.specs.declared.types.Owner.TheVariants as owner
use Rattle.ada_rules.specs.Entities.{routine}
use Rattle.ada_entities.specs.declared.entity.Entity.TheVariants as entity
use Rattle.program_walk.proofs.HideLaws.{then_inside}
use Rattle.program_walk.proofs.InsideLaws.{grows_inside}
use Rattle.specifications.proofs.RoutineLaws.{entered_is, redefined_behind}
use Rattle.specifications.proofs.routines.enter_routine.Goals as goal

pub returns-clause-entered : goal.returns-clause-entered
returns-clause-entered c k b =
    redefined_behind k c.args.symbols.now c.add_routine.new.self c.redefine.new.self c.args.name.now
    (entity.Routine (record { number = c.in_ok-number.number; seen = owner.Here; completion = c.args.completion })) _ c.in_ok-number.ensures.added
    c.in_ok-redefine.ensures.redefined
    (ap routine (entered_is k c.in_ok-number.number c.args.completion c.args.routine (c.in_ok-number.ensures.number k (c.in_ok-redefine.ensures.inside.begins k b))))

pub returns-clause-inside : goal.returns-clause-inside
returns-clause-inside c open_now =
    then_inside _ _ _ (grows_inside _ _ open_now c.in_ok-number.ensures.added) c.in_ok-redefine.ensures.inside
