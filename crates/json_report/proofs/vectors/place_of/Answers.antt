use Rattle.std.proofs.Common.{◌<◌, ◌-◌, length, get_or, refl, sym, arith}
use Rattle.std.proofs.lemmas.Option.{slice_get-get_or}
use Rattle.cov_base.specs.declared.event.Vector.{Vector}
use Rattle.cov_base.specs.Expr.{size}
use Rattle.json_report.proofs.Distinctness.{placed_last}
use Rattle.json_report.proofs.vectors.place_of.Goals as goal

pub returns-then-comes_before-clause-place : goal.returns-then-comes_before-clause-place
returns-then-comes_before-clause-place c = λ e is rises.
    let kept = c.args.kept.now in
    let none : Vector = record { seen = 0; value = 0 } in
    let at = length kept - 1 in
    let within : length kept - 1 < length kept = omega (arith, c.if-count-gt0.true) in
    placed_last (size e) c.args.vector (get_or kept at none) kept at (length kept) (omega (arith, c.if-count-gt0.true))
    (slice_get-get_or kept at none within) rises (sym (c.if-comes_before.ensures e is)) refl
