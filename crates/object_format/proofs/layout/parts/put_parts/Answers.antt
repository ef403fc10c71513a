use Rattle.std.proofs.Common.{arith}
use Rattle.std.proofs.lemmas.Grind.{common_steps}
use Rattle.object_format.specs.Layout.{to_cover, parts}
use Rattle.object_format.proofs.layout.parts.put_parts.Goals as goal

pub returns-clause-appends : goal.returns-clause-appends
unfolding parts to_cover
returns-clause-appends c = grind (arith, common_steps)

pub put_list-requires-2 : goal.put_list-requires-2
put_list-requires-2 c = grind (arith, common_steps)

pub write-requires-2 : goal.write-requires-2
write-requires-2 c = grind (arith, common_steps)

pub put_list-requires : goal.put_list-requires
put_list-requires c = grind (arith, common_steps)
