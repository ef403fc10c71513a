use Rattle.std.proofs.Common.{sym, ◌∙◌, arith}
use Rattle.trace_format.proofs.ConsolidatedLaws.{sealed_of}
use Rattle.trace_format.proofs.consolidated.view.checked.Goals as goal

pub invariant_of-result : goal.invariant_of-result
invariant_of-result c =
    sealed_of c.args.bytes.now c.in_ok-layers.layers _ (λ i. omega (arith, c.type_inv.bytes i)) (sym c.in_ok-layers.ensures) c.layers.view_is (record {
      runs = sym c.first_failing_at.ensures.first ∙ c.in_default.is;
      starts = sym c.first_failing_at-2.ensures.first ∙ c.in_default-first_failing_at.is;
      vectors = sym c.first_failing_at-3.ensures.first ∙ c.in_default-first_failing_at-2.is;
      flags = sym c.first_failing_at-4.ensures.first ∙ c.in_default-first_failing_at-3.is;
    })
