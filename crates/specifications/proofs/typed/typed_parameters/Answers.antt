use Rattle.std.proofs.Common.{◌++◌, sym, ap, ◌∙◌}
use Rattle.ada_meaning.specs.Types.{here}
use Rattle.ada_rules.specs.Subprograms.{typed_parameters}
use Rattle.specifications.specs.Profiles.{parameters_of}
use Rattle.specifications.specs.Typed.{parameters_there}
use Rattle.specifications.proofs.TypedLaws.{turn_typed, all_typed}
use Rattle.specifications.proofs.typed.typed_parameters.Goals as goal

pub loop-parameter-init : goal.loop-parameter-init
loop-parameter-init c known k b =
    ap (λ ps. parameters_there k ps ++ typed_parameters 0 (parameters_of k here c.args.parameters.now)) c.new-typed.ensures.items

pub loop-parameter-preserved : goal.loop-parameter-preserved
loop-parameter-preserved c known k b =
    turn_typed k c.args.parameters.now c.loop-parameter.parameter-index _ c.loop-parameter.typed.items _ c.loop-parameter.number _
    c.in_ok-subtype.subtype c.loop-parameter-test.true c.parameter-item.is c.in_ok-number.ensures.number (c.in_ok-subtype.ensures known k b)
    c.in_ok-push.ensures.items
    ∙ c.loop-parameter.invariant known k b

pub returns : goal.returns
returns c known k b =
    sym (all_typed k c.args.parameters.now c.loop-parameter.parameter-index c.loop-parameter.typed.items c.loop-parameter.number c.loop-parameter-test.false)
    ∙ c.loop-parameter.invariant known k b
