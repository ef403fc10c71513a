use Rattle.mcdc_verdicts.proofs.Marking.{shifted_bit_only, no_bit_only}
use Rattle.mcdc_verdicts.proofs.order.has_only.Goals as goal

pub returns-then-c-lt32 : goal.returns-then-c-lt32
returns-then-c-lt32 c = shifted_bit_only c.args.word c.args.c.0 c.if-c-lt32.true

pub returns-else-c-lt32 : goal.returns-else-c-lt32
returns-else-c-lt32 c = no_bit_only c.args.word c.args.c.0 c.ranges.word.fits c.if-c-lt32.false
