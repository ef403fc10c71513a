use Rattle.std.proofs.Common.{sym, ap, ◌∙◌, arith, true, false, ◌≡◌}
use Rattle.ada_rules.specs.Denoted.{field_among}
use Rattle.ada_rules.specs.Entities.{same_name}
use Rattle.ada_entities.specs.Tables.{fields_of}
use Rattle.ada_entities.proofs.LookupLaws.{turn_found, turn_passed}
use Rattle.ada_entities.proofs.table.component_named.Goals as goal

pub returns-then-eq : goal.returns-then-eq
returns-then-eq c k =
    let name = c.args.name.now in
    let cs = c.args.components.now in
    let x = c.index-components-place.result in
    let named : same_name name x.name ≡ true = sym (c.eq.ensures ∙ ap (λ n. same_name name n) c.as_slice.ensures) ∙ c.if-eq.true in
    turn_found k name cs c.loop-place.place x (field_among name 0 (fields_of k cs)) (omega arith) c.index-components-place.is named
    (c.loop-place.invariant k)

pub loop-place-preserved : goal.loop-place-preserved
loop-place-preserved c k =
    let name = c.args.name.now in
    let cs = c.args.components.now in
    let x = c.index-components-place.result in
    let named : same_name name x.name ≡ false = sym (c.eq.ensures ∙ ap (λ n. same_name name n) c.as_slice.ensures) ∙ c.if-eq.false in
    turn_passed k name cs c.loop-place.place x (field_among name 0 (fields_of k cs)) (omega arith) c.index-components-place.is named
    (c.loop-place.invariant k)
