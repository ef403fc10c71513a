use Rattle.std.proofs.lemmas.Grind.{common_steps}
use Rattle.std.proofs.Common.{[], ◌∷◌, ◌+◌, drop, get_or, arith, subst}
use Rattle.std.proofs.lemmas.List.{at_drop_more}
use Rattle.ada_rules.specs.Library.{edges, next_ones}
use Rattle.ada_library.proofs.MarkLaws.{MarksRest, next_marked}
use Rattle.ada_library.proofs.SearchLaws.{next_joined}
use Rattle.ada_library.proofs.search.step.Goals as goal

pub loop-unit-preserved : goal.loop-unit-preserved
loop-unit-preserved c =
    let g = c.args.graph.now in
    let us = c.args.units.now in
    let i = c.loop-unit.unit-index in
    let u = get_or us i 0 in
    let rest = drop (i + 1) us in
    let so_far =
    subst (λ both. MarksRest both (next_ones g us) c.args.marks.now c.loop-unit.marks [] c.loop-unit.new.items)
    (at_drop_more (next_ones g) us i 0 (omega arith)) c.loop-unit.invariant in
    next_marked (edges g u) (next_ones g rest) (next_ones g (u ∷ rest)) (next_ones g us) c.args.marks.now c.loop-unit.marks c.mark_named.new.marks
    [] c.loop-unit.new.items c.mark_named.new.new.items (next_joined g u rest) so_far c.in_ok-mark_named.ensures

pub returns : goal.returns
returns c = grind (arith, common_steps)
