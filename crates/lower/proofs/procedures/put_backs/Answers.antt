use Rattle.std.proofs.Common.{◌+◌, ap, ◌∙◌, refl, arith, drop}
use Rattle.ada_tree.specs.Programs.{target_of}
use Rattle.ada_tree.specs.View.{actuals_of}
use Rattle.lower.specs.Context.{parameters_for}
use Rattle.lower.specs.Procedures.{backs_for}
use Rattle.lower.proofs.Building.{none_left}
use Rattle.lower.proofs.Returned.{one_back}
use Rattle.lower.proofs.procedures.put_backs.Goals as goal

pub loop-place-preserved : goal.loop-place-preserved
loop-place-preserved c =
    let ctx = c.args.context.now in
    let h = c.loop-place.invariant in (
      one_back ctx c.loop-place.at c.in_ok-at.at c.loop-place.place c.loop-place.from (parameters_for ctx (target_of c.args.target)) _ c.args.actuals.now c.index-actuals-place.result c.index-actuals-place.result
          _ _ c.loop-place.code c.put_back.new.code c.loop-place-test.true c.index-actuals-place.is c.signature-signature.ensures c.returned.ensures.mode c.returned.ensures.words h.1
          c.in_ok-put_back.ensures (c.in_ok-at.ensures.number ∙ ap (λ n. c.loop-place.at + n) c.slots_of.ensures)
          ∙ h.0,
      omega (arith, h.1, c.in_ok-from.ensures.number),
    )

pub returns : goal.returns
returns c =
    none_left (λ xs. backs_for c.args.context.now c.loop-place.at c.loop-place.place (drop c.loop-place.place (parameters_for c.args.context.now (target_of c.args.target))) (actuals_of xs)) refl c.args.actuals.now c.loop-place.place _ _
    (omega (arith, c.loop-place-test.false)) c.loop-place.invariant.0
