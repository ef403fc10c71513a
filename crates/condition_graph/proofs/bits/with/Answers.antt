use Rattle.std.proofs.Common.{Bool, cond, eqb, sym, ap, ◌∙◌}
use Rattle.cov_base.specs.Marks.{bit}
use Rattle.condition_graph.proofs.BitLemmas.{bit_with_true, bit_with_false}
use Rattle.condition_graph.proofs.bits.with.Goals as goal

pub returns-then-value : goal.returns-then-value
returns-then-value c k =
    bit_with_true c.args.word c.args.place k c.requires
    ∙ ap (λ (b : Bool). cond (eqb k c.args.place) b (bit c.args.word k)) (sym c.if-value.true)

pub returns-else-value : goal.returns-else-value
returns-else-value c k =
    bit_with_false c.args.word c.args.place k c.ranges.word.fits c.requires
    ∙ ap (λ (b : Bool). cond (eqb k c.args.place) b (bit c.args.word k)) (sym c.if-value.false)
