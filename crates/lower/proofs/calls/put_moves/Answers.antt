use Rattle.std.proofs.Common.{◌≡◌, ◌+◌, ◌-◌, refl, ap, ◌∙◌, arith}
use Rattle.ada_tree.specs.View.{actuals_of}
use Rattle.statement_code.specs.Values.{moves_code}
use Rattle.lower.proofs.Building.{none_left}
use Rattle.lower.proofs.Pieces.{at_least_one, one_moved}
use Rattle.lower.proofs.calls.put_moves.Goals as goal

pub loop-actual-preserved : goal.loop-actual-preserved
loop-actual-preserved c =
    let h = c.loop-actual.invariant in
    let next : c.in_ok-next.next ≡ c.loop-actual.behind + c.slots_of.result = c.in_ok-next.ensures.number in
    let before : c.in_ok-next.next - 1 + 1 ≡ c.in_ok-next.next = omega (arith, next, c.slots_of.ensures, at_least_one c.actual-item.result) in (
      one_moved c.args.width c.loop-actual.behind c.in_ok-next.next c.loop-actual.actual-index c.loop-actual.to c.args.actuals.now c.actual-item.result c.actual-item.result (c.in_ok-next.next - 1)
          c.loop-actual.code c.push_simple.new.self c.loop-actual-test.true c.actual-item.is h.1 (next ∙ ap (λ n. c.loop-actual.behind + n) c.slots_of.ensures) before c.in_ok-push_simple.ensures.ok
          ∙ h.0,
      omega (arith, h.1, c.in_ok-to.ensures.number),
    )

pub returns : goal.returns
returns c =
    none_left (λ xs. moves_code c.args.width c.loop-actual.behind c.loop-actual.actual-index (actuals_of xs)) refl c.args.actuals.now c.loop-actual.actual-index _ _
    (omega (arith, c.loop-actual-test.false)) c.loop-actual.invariant.0
