use Rattle.std.proofs.Common.{arith, sym, ◌∙◌}
use Rattle.ada_tree.specs.View.{value_of}
use Rattle.frame_widths.proofs.Chains.{part_assigned, whole_assigned}
use Rattle.frame_widths.proofs.simple.width_of_assignment.Goals as goal

pub returns-then-has_parts : goal.returns-then-has_parts
returns-then-has_parts c =
    omega (
      arith,
      part_assigned c.args.selectors.now (value_of c.args.value.now) (sym c.has_parts.ensures ∙ c.if-has_parts.true),
      c.width_of_parts.ensures,
      c.width_of_value.ensures,
      c.saturating_add.ensures,
      c.max.ensures,
    )

pub returns-in_default : goal.returns-in_default
returns-in_default c =
    omega (
      arith,
      whole_assigned c.args.selectors.now c.args.value.now (sym c.has_parts.ensures ∙ c.if-has_parts.false) c.in_default.not-Scalar,
      c.width_of_value-in_default.ensures,
      c.saturating_add-in_default.ensures,
    )
