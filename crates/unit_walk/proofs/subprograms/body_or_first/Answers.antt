use Rattle.std.proofs.Common.{unwrap_or, ap, ◌∙◌}
use Rattle.unit_walk.proofs.subprograms.body_or_first.Goals as goal

pub returns : goal.returns
returns c env library named = c.unwrap_or.ensures ∙ ap (λ o. unwrap_or o 0) (c.in_ok-number.ensures env library named)
