-- Shown by computing.
use Rattle.std.proofs.Common.{refl}
use Rattle.ada_meaning.specs.Execution.{deepest}
use Rattle.meaning_examples.specs.Loops.{While, For, ArrayAndCase}

pub while_loops : While
unfolding deepest
while_loops = (refl, refl, refl)

pub for_loops : For
unfolding deepest
for_loops = refl

pub array_and_case : ArrayAndCase
unfolding deepest
array_and_case = (refl, refl, refl)
