-- what is left to put, behind what was put, is the whole
use Rattle.std.proofs.Common.{◌≡◌, drop, map}
use Rattle.kernel_ir.specs.Sequence.{joined}
use Rattle.lower.specs.Context.{parameter_for, signature_for}
use Rattle.lower.specs.Entered.{all_entered_for}
use Rattle.lower.proofs.bodies.put_parameters.Given as goal

abbrev pub invariant-loop-parameter : goal.invariant-loop-parameter
invariant-loop-parameter l =
    (joined l.code (all_entered_for l.context l.slot l.argument (map (parameter_for l.context l.fn.signature.instance) (drop l.parameter-index l.fn.signature.parameters.now)))
    ≡ joined l.fn.code (all_entered_for l.fn.context l.fn.slot 0 (signature_for l.fn.context l.fn.signature)))
    × (l.argument ≡ l.parameter-index)
