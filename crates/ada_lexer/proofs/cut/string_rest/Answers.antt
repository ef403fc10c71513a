use Rattle.std.proofs.Common.{arith}
use Rattle.std.proofs.lemmas.Grind.{common_steps}
use Rattle.ada_lexer.proofs.cut.string_rest.Goals as goal

pub loop-byte-preserved-in-34-split_first-3 : goal.loop-byte-preserved-in-34-split_first-3
loop-byte-preserved-in-34-split_first-3 c = grind (arith, common_steps) steps 2000000

pub returns-in_default-byte-2-clause-rest : goal.returns-in_default-byte-2-clause-rest
returns-in_default-byte-2-clause-rest c = grind (arith, common_steps) steps 2000000

pub loop-byte-preserved : goal.loop-byte-preserved
loop-byte-preserved c = grind (arith, common_steps) steps 2000000
