use Rattle.std.proofs.Common.{◌≡◌, ◌+◌, suc, map, take, arith, sym, ap, ◌∙◌}
use Rattle.ada_tree.specs.Programs.{instance_of}
use Rattle.ada_demands.specs.FactViews.{facts_of}
use Rattle.ada_rules.specs.Legal.{with_values}
use Rattle.typed_program.specs.Instances.{with_values_at}
use Rattle.typed_program.proofs.Valued.{no_values, one_more}
use Rattle.typed_program.proofs.instances.set_all_values.Goals as goal

pub loop-index-init : goal.loop-index-init
loop-index-init c = no_values (map instance_of c.args.instances.now.items)

pub loop-index-preserved : goal.loop-index-preserved
loop-index-preserved c =
    let n = c.loop-index.index in
    let is = map instance_of c.args.instances.now.items in
    let f = c.index-facts-index.result in
    let next : suc n ≡ n + 1 = omega arith in
    c.in_ok-set_values.ensures
    ∙ (ap (with_values_at n (facts_of f)) c.loop-index.invariant
    ∙ (sym (one_more is c.args.facts.now n f (omega arith) c.index-facts-index.is)
    ∙ ap (λ m. with_values is (map facts_of (take m c.args.facts.now))) next))
