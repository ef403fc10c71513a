-- Shown by computing.
use Rattle.std.proofs.Common.{refl}
use Rattle.ada_meaning.specs.Execution.{deepest}
use Rattle.meaning_examples.specs.Generics.{OwnObjects, OwnConstants}

pub own_objects : OwnObjects
unfolding deepest
own_objects = refl

pub own_constants : OwnConstants
unfolding deepest
own_constants = (refl, (record { formals = (refl, tt); constants = refl }, (record { formals = (refl, tt); constants = refl }, tt)), refl)
