use Rattle.std.proofs.Common.{arith}
use Rattle.std.proofs.lemmas.Grind.{common_steps}
use Rattle.ada_lexer.proofs.nesting.nested.Goals as goal

pub loop-token-preserved : goal.loop-token-preserved
loop-token-preserved c = grind (arith, common_steps) steps 2000000

pub returns-then-is_too_deep : goal.returns-then-is_too_deep
returns-then-is_too_deep c = grind (arith, common_steps) steps 2000000
