use Rattle.std.proofs.Common.{arith}
use Rattle.frame_widths.proofs.Behind.{expr_behind}
use Rattle.frame_widths.proofs.simple.width_of_range.Goals as goal

pub returns-in-Bounds : goal.returns-in-Bounds
returns-in-Bounds c =
    rw (c.in-Bounds.is)
    (omega (
      arith,
      expr_behind 1 1 0 c.in-Bounds.last (omega arith),
      c.width_of_expr.ensures,
      c.width_of_expr-in-Bounds.ensures,
      c.saturating_add.ensures,
      c.max.ensures,
      c.max-in-Bounds.ensures,
    ))
