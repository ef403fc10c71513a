use Rattle.std.proofs.Common.{◌≡◌, map, sym, ap, ◌∙◌}
use Rattle.std.specs.Prelude.{reverse}
use Rattle.ada_rules.specs.Limits.{earlier_of, first_place, first_declared, first_unit, most_words_of_type, most_words_of_subprogram}
use Rattle.ada_tree.specs.Programs.{types_of}
use Rattle.program_walk.specs.States.{types_in}
use Rattle.word_limits.specs.Counting.{subprogram_by, type_by, unit_by}
use Rattle.word_limits.proofs.first.first_excess.Goals as goal

pub returns : goal.returns
returns c k w e h =
    let table = c.in_ok-table.table in
    let facts : table.instances.now ≡ w.instances = c.in_ok-table.ensures.instances ∙ sym h.facts in
    let types : types_of table.types.now ≡ types_in k = ap types_of c.in_ok-table.ensures.types ∙ e in
    let counted = c.first_place-counted.ensures ∙ ap (λ xs. first_place (reverse xs)) c.as_slice.ensures.value in
    let declared = c.in_ok-declared.ensures
    ∙ (λ z. first_declared (facts z) most_words_of_type (reverse (map (type_by (types z)) (c.as_slice-2.ensures.value z)))) in
    let object = c.in_ok-object.ensures
    ∙ (λ z. first_declared (facts z) most_words_of_subprogram (reverse (map (subprogram_by (types z)) (c.as_slice-3.ensures.value z)))) in
    let unit = c.in_ok-unit.ensures w (record { k = h.k; actuals = h.actuals; facts = sym facts; interfaces = h.interfaces })
    ∙ (λ z. first_unit w (reverse (map (unit_by (types z)) (c.as_slice-4.ensures.value z))) 0 0 c.args.units.now) in
    c.earlier-3.ensures
    ∙ ap (λ p. earlier_of c.first_place-counted.result p) (c.earlier-2.ensures ∙ ap (λ p. earlier_of c.in_ok-declared.declared p) c.earlier.ensures)
    ∙ (λ z. earlier_of (counted z) (earlier_of (declared z) (earlier_of (object z) (unit z))))
