use Rattle.std.proofs.Common.{arith}
use Rattle.std.proofs.lemmas.Grind.{common_steps}
use Rattle.object_format.proofs.checks.field.are_exceptions.Goals as goal

pub returns-then-declared-le-MAX_DECLARED : goal.returns-then-declared-le-MAX_DECLARED
returns-then-declared-le-MAX_DECLARED c = grind (arith, common_steps) steps 2000000

pub returns-else-declared-le-MAX_DECLARED : goal.returns-else-declared-le-MAX_DECLARED
returns-else-declared-le-MAX_DECLARED c = grind (arith, common_steps)
