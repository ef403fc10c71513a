use Rattle.std.proofs.lemmas.Grind.{common_steps}
use Rattle.std.proofs.Common.{◌≡◌, ◌++◌, append-nil, sym, ◌∙◌, arith}
use Rattle.std.proofs.lemmas.List.{at_drop_all}
use Rattle.ada_library.specs.InstanceNumbering.{next_behind, numbers_from, number_at}
use Rattle.ada_library.proofs.InstanceLaws.{numbered_instances}
use Rattle.ada_library.proofs.instances.InstanceNumbers.new.Goals as goal

pub returns : goal.returns
returns c n =
    let us = c.args.units.now in
    let i = c.loop-unit.unit-index in
    let xs = c.loop-unit.numbers.items in
    let next = c.loop-unit.next in
    let numbers : xs ≡ numbers_from 1 us =
    sym (append-nil xs) ∙ (sym (at_drop_all (λ vs. xs ++ numbers_from next vs) us i (omega arith)) ∙ c.loop-unit.invariant.numbers) in
    let last : next ≡ next_behind 1 us = sym (at_drop_all (next_behind next) us i (omega arith)) ∙ c.loop-unit.invariant.next in
    (λ z. number_at (numbers z) (last z) n) ∙ numbered_instances us n

pub loop-unit-preserved : goal.loop-unit-preserved
loop-unit-preserved c = grind (arith, common_steps)
