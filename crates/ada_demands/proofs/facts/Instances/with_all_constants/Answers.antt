use Rattle.std.proofs.Common.{map, ◌∙◌, arith}
use Rattle.ada_tree.specs.Programs.{constant_of}
use Rattle.ada_demands.proofs.ComputingLaws.{one_resolved}
use Rattle.ada_demands.proofs.facts.Instances.with_all_constants.Goals as goal

pub loop-facts-preserved : goal.loop-facts-preserved
loop-facts-preserved c =
    one_resolved c.args.self.now (map constant_of c.args.constants.now) c.as_slice-facts-items.result.now c.loop-facts.facts-index c.facts-item.result
    c.in_ok-with_constants.field-0 c.loop-facts.number c.in_ok-number.number c.loop-facts.resolved c.add.new.self
    (omega arith) c.facts-item.is c.in_ok-number.ensures.number c.in_ok-with_constants.ensures c.in_ok-add.ensures
    ∙ c.loop-facts.invariant
