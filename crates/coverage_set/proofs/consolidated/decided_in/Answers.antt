use Rattle.std.proofs.Common.{◌≡◌, refl, subst, arith}
use Rattle.std.proofs.lemmas.Grind.{common_steps}
use Rattle.std.specs.Prelude.{◌↔◌}
use Rattle.cov_base.specs.Lists.{Somewhere}
use Rattle.coverage_set.specs.Consolidated.{decided_by, decided_in}
use Rattle.coverage_set.proofs.Turns.{none_left}
use Rattle.coverage_set.proofs.consolidated.decided_in.Goals as goal

pub returns : goal.returns
returns c =
    let same = none_left decided_by refl (decided_in c.args.object.now) c.loop-role.decided.items c.as_slice-role-items.result.now c.loop-role.role-index
    c.loop-role-test.false c.loop-role.invariant in
    λ d. subst (λ xs. Somewhere (λ x. x ≡ d) c.of.result ↔ Somewhere (λ x. x ≡ d) xs) same (c.of.ensures d)

pub loop-role-preserved : goal.loop-role-preserved
loop-role-preserved c = grind (arith, common_steps) steps 2000000
