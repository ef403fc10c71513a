use Rattle.std.proofs.Common.{arith}
use Rattle.std.proofs.lemmas.Grind.{common_steps}
use Rattle.object_format.specs.Layout.{listed, obligations}
use Rattle.object_format.proofs.layout.parts.ObligationsStored.write.Goals as goal

pub returns-clause-appends : goal.returns-clause-appends
unfolding obligations listed
returns-clause-appends c = grind (arith, common_steps)

pub write-requires-5 : goal.write-requires-5
write-requires-5 c = grind (arith, common_steps)

pub write-requires-4 : goal.write-requires-4
write-requires-4 c = grind (arith, common_steps)

pub returns-clause-fits : goal.returns-clause-fits
unfolding obligations listed
returns-clause-fits c = grind (arith, common_steps)
