use Rattle.std.proofs.Common.{sym, ◌∙◌, arith}
use Rattle.trace_format.proofs.TraceLaws.{closed_of}
use Rattle.trace_format.proofs.view.checked.Goals as goal

pub invariant_of-result : goal.invariant_of-result
invariant_of-result c = (
  c.layers.invariant.0,
  c.layers.invariant.1,
  closed_of c.args.bytes.now c.in_ok-layers.layers _ (λ i. omega (arith, c.type_inv.bytes i)) (sym c.in_ok-layers.ensures) c.layers.view_is
      (sym c.first_failing_at.ensures.first ∙ c.in_default.is)
      (sym c.first_failing_at-2.ensures.first ∙ c.in_default-first_failing_at.is)
      (sym c.first_failing_at-3.ensures.first ∙ c.in_default-first_failing_at-2.is),
)
