use Rattle.std.proofs.Common.{rules}
use Rattle.ada_resolved.proofs.arithmetic.modulus.Goals as goal

pub returns-then-signs_differ : goal.returns-then-signs_differ
returns-then-signs_differ c = grind rules
