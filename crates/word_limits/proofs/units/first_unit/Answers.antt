use Rattle.std.proofs.Common.{◌+◌, ◌∷◌, map, drop, sym, ap, ◌∙◌, arith}
use Rattle.std.specs.Prelude.{reverse}
use Rattle.std.proofs.lemmas.List.{at_drop_more}
use Rattle.ada_rules.specs.Environment.{interface_of}
use Rattle.ada_rules.specs.Limits.{first_unit, words_by}
use Rattle.ada_tree.specs.Programs.{types_of}
use Rattle.word_limits.specs.Capped.{capped, counted_on}
use Rattle.word_limits.specs.Counting.{unit_by}
use Rattle.word_limits.proofs.UnitLaws.{unit_fits, unit_passes}
use Rattle.word_limits.proofs.units.first_unit.Goals as goal

pub loop-index-preserved : goal.loop-index-preserved
loop-index-preserved c w h =
    let us = reverse (map (unit_by (types_of c.args.table.now.types.now)) c.args.found.now) in
    let i = c.loop-index.index in
    let before = c.loop-index.before in
    let units = c.args.units.now in
    let u = c.index-units-index.result in
    let number = c.in_ok-numbered.ensures.number in
    unit_fits w us i before c.in_ok-more.more u (drop (i + 1) units) c.in-Some.all
    (c.in_ok-more.ensures h.k h.actuals w h.interfaces ∙ (λ z. capped (words_by (sym h.facts z) (number z) (interface_of w (number z)) us)))
    (ap (λ m. counted_on m before c.in_ok-more.more) (sym c.most.ensures) ∙ sym c.sum_within.ensures ∙ c.in-Some.is)
    ∙ ap (λ v. first_unit w us i before (v ∷ drop (i + 1) units)) c.index-units-index.is
    ∙ sym (at_drop_more (λ vs. first_unit w us i before vs) units i u (omega arith))
    ∙ c.loop-index.invariant w h

pub returns-in-None : goal.returns-in-None
returns-in-None c w h =
    let us = reverse (map (unit_by (types_of c.args.table.now.types.now)) c.args.found.now) in
    let i = c.loop-index.index in
    let before = c.loop-index.before in
    let units = c.args.units.now in
    let u = c.index-units-index.result in
    let number = c.in_ok-numbered.ensures.number in
    unit_passes w us i before c.in_ok-more.more u (drop (i + 1) units)
    (c.in_ok-more.ensures h.k h.actuals w h.interfaces ∙ (λ z. capped (words_by (sym h.facts z) (number z) (interface_of w (number z)) us)))
    (ap (λ m. counted_on m before c.in_ok-more.more) (sym c.most.ensures) ∙ sym c.sum_within.ensures ∙ c.in-None.is)
    ∙ ap (λ v. first_unit w us i before (v ∷ drop (i + 1) units)) c.index-units-index.is
    ∙ sym (at_drop_more (λ vs. first_unit w us i before vs) units i u (omega arith))
    ∙ c.loop-index.invariant w h
