use Rattle.std.proofs.Common.{◌+◌, map, refl, sym, ap, ◌∙◌, arith, drop}
use Rattle.kernel_ir.specs.Sequence.{joined}
use Rattle.lower.specs.Context.{parameter_for}
use Rattle.lower.specs.Entered.{all_entered_for}
use Rattle.lower.proofs.Building.{none_left}
use Rattle.lower.proofs.Entered.{one_entered}
use Rattle.lower.proofs.bodies.put_parameters.Goals as goal

pub loop-parameter-preserved : goal.loop-parameter-preserved
loop-parameter-preserved c =
    let h = c.loop-parameter.invariant in
    let next = c.in_ok-argument.ensures.number ∙ ap (λ n. n + 1) h.1 in (
      ap (λ n. joined c.put_parameter.new.code (all_entered_for c.args.context.now c.args.slot n (map (parameter_for c.args.context.now c.args.signature.instance) (drop (c.loop-parameter.parameter-index + 1) c.args.signature.parameters.now)))) next
          ∙ one_entered c.args.context.now (parameter_for c.args.context.now c.args.signature.instance) c.args.slot c.loop-parameter.parameter-index c.loop-parameter.argument c.args.signature.parameters.now _ _ _ _
          c.loop-parameter-test.true refl h.1 c.in_ok-put_parameter.ensures
          ∙ ap (λ n. joined c.loop-parameter.code (all_entered_for c.args.context.now c.args.slot n (map (parameter_for c.args.context.now c.args.signature.instance) (drop c.loop-parameter.parameter-index c.args.signature.parameters.now)))) (sym h.1)
          ∙ h.0,
      next,
    )

pub returns : goal.returns
returns c =
    none_left (λ xs. all_entered_for c.args.context.now c.args.slot c.loop-parameter.argument (map (parameter_for c.args.context.now c.args.signature.instance) xs)) refl c.args.signature.parameters.now
    c.loop-parameter.parameter-index _ _ (omega (arith, c.loop-parameter-test.false)) c.loop-parameter.invariant.0
