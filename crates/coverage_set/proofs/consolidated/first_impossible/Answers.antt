use Rattle.std.proofs.Common.{arith}
use Rattle.std.proofs.lemmas.Grind.{common_steps}
use Rattle.std.proofs.Common.{subst}
use Rattle.std.specs.Prelude.{◌≡◌, ◌↔◌}
use Rattle.cov_base.specs.Lists.{Somewhere}
use Rattle.coverage_set.specs.Consolidated.{decided_in}
use Rattle.coverage_set.proofs.consolidated.first_impossible.Goals as goal

pub is_possible-requires : goal.is_possible-requires
is_possible-requires c = λ d. subst (λ o. Somewhere (λ x. x ≡ d) c.in_ok-decided.decided ↔ Somewhere (λ x. x ≡ d) (decided_in o)) c.object.ensures (c.in_ok-decided.ensures d)

pub loop-at-preserved : goal.loop-at-preserved
loop-at-preserved c = grind (arith, common_steps)

pub returns-then-not-is_possible : goal.returns-then-not-is_possible
returns-then-not-is_possible c = grind (arith, common_steps)
