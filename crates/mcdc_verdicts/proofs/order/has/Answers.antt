use Rattle.std.proofs.Common.{◌≡◌, ◌≤◌, false, nat_lt, sym, ◌∙◌, arith}
use Rattle.std.proofs.lemmas.Bool.Decides.{nat_tests}
use Rattle.mcdc_verdicts.proofs.Marking.{unset_above}
use Rattle.mcdc_verdicts.proofs.order.has.Goals as goal

pub returns-else-c-lt32 : goal.returns-else-c-lt32
returns-else-c-lt32 c =
    let above : 32 ≤ c.args.c.0 = c.if-c-lt32.false in
    let off : nat_lt c.args.c.0 32 ≡ false = grind (arith, nat_tests) in
    off ∙ sym (unset_above c.args.word c.args.c.0 c.ranges.word.fits above)
