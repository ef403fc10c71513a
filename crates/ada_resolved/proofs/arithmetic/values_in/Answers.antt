use Rattle.std.proofs.Common.{◌∙◌, ◌+ℤ◌, ◌-ℤ◌, pos, rules, arith}
use Rattle.std.proofs.lemmas.Int.{ints}
use Rattle.ada_resolved.proofs.Fits.{counted}
use Rattle.ada_resolved.proofs.arithmetic.values_in.Goals as goal

pub returns : goal.returns
returns c =
    c.unwrap_or.ensures
    ∙ counted c.try_from.result _ (c.args.range.last -ℤ c.args.range.first +ℤ pos 1) c.try_from.ensures (search rules) (omega (arith, ints, c.from.ensures, c.from-2.ensures))
