use Rattle.std.proofs.Common.{arith, ap}
use Rattle.ada_meaning.specs.Tree as tree
use Rattle.ada_tree.specs.View.{composite_by, parts_of, scalar_range_of}
use Rattle.frame_widths.specs.Ends.{end_of_parts}
use Rattle.frame_widths.proofs.Chains.{others_end}
use Rattle.frame_widths.proofs.simple.width_of_value.Goals as goal

pub returns-in-OthersScalar : goal.returns-in-OthersScalar
returns-in-OthersScalar c =
    let i = c.in-OthersScalar.indices in
    rw (c.in-OthersScalar.is)
    (omega (
      arith,
      others_end i (tree.scalar_value (scalar_range_of c.in-OthersScalar.field-1) c.in-OthersScalar.expr),
      c.width_of_indices.ensures,
      c.width_of_expr-in-OthersScalar.ensures,
      c.saturating_add.ensures,
    ))

pub returns-in-OthersComposite : goal.returns-in-OthersComposite
returns-in-OthersComposite c =
    let i = c.in-OthersComposite.indices in
    let ss = c.in-OthersComposite.selectors.items in
    rw (c.in-OthersComposite.is)
    (omega (
      arith,
      others_end i (composite_by c.in-OthersComposite.field-1 c.in-OthersComposite.field-2 c.in-OthersComposite.field-3 ss),
      c.width_of_indices-in-OthersComposite.ensures,
      c.width_of_parts-in-OthersComposite.ensures,
      c.saturating_add-in-OthersComposite.ensures,
      ap (λ xs. end_of_parts 0 (parts_of xs)) c.deref-in-OthersComposite.ensures.value,
    ))
