use Rattle.std.proofs.Common.{◌≡◌, drop}
use Rattle.named_types.specs.Same.{begin_with}
use Rattle.named_types.proofs.parameters.begin_with.Given as goal

abbrev pub invariant-loop-parameter : goal.invariant-loop-parameter
invariant-loop-parameter l = begin_with (drop l.parameter-index l.parameters) l.left ≡ begin_with l.fn.parameters l.fn.objects
