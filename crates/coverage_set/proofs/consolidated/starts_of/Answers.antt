use Rattle.std.proofs.Common.{◌≡◌, map, refl, subst, arith}
use Rattle.std.proofs.lemmas.Grind.{common_steps}
use Rattle.std.specs.Prelude.{◌↔◌}
use Rattle.cov_base.specs.declared.event.Event.TheVariants.{Start}
use Rattle.cov_base.specs.Lists.{Somewhere}
use Rattle.line_table.specs.declared.rows.Row.{Row}
use Rattle.coverage_set.specs.Consolidated.{starts_of}
use Rattle.coverage_set.proofs.Turns.{none_left}
use Rattle.coverage_set.proofs.consolidated.starts_of.Goals as goal

pub returns : goal.returns
returns c =
    let same = none_left (map (λ (row : Row). Start row.statement row.instance)) refl (starts_of c.args.object.now) c.loop-row.starts.items c.as_slice-row-items.result.now c.loop-row.row-index
    c.loop-row-test.false c.loop-row.invariant in
    λ e. subst (λ xs. Somewhere (λ x. x ≡ e) c.of.result ↔ Somewhere (λ x. x ≡ e) xs) same (c.of.ensures e)

pub loop-row-preserved : goal.loop-row-preserved
loop-row-preserved c = grind (arith, common_steps) steps 2000000
