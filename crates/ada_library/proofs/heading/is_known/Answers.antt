use Rattle.std.proofs.Common.{codes, sym, ap, ◌∙◌}
use Rattle.ada_rules.specs.Entities.{same_name}
use Rattle.ada_library.proofs.HeadingLaws.{known_otherwise}
use Rattle.ada_library.proofs.heading.is_known.Goals as goal

pub returns : goal.returns
returns c =
    let lower = c.as_slice-2.ensures.value ∙ c.in_ok-lower.ensures in
    let same = c.as_slice-2.ensures.value ∙ sym c.as_slice.ensures.value in
    let other = ap (λ k. same_name k (codes "test_io")) same ∙ (sym c.is_test_io.ensures ∙ c.if-is_test_io.false) in
    known_otherwise c.args.library.now c.args.number c.args.item.now c.args.name.now c.as_slice-2.result.now c.unit_named.result c.may_name.result
    lower other c.unit_named.ensures c.may_name.ensures
