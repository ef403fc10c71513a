-- Shown by computing.
use Rattle.std.proofs.Common.{refl}
use Rattle.ada_meaning.specs.Execution.{deepest}
use Rattle.meaning_examples.specs.Decisions.{Returns, AndFirst, OrFirst, Abandoned}

pub returned : Returns
unfolding deepest
returned = refl

pub and_first : AndFirst
unfolding deepest
and_first = (refl, refl, refl, refl)

pub or_first : OrFirst
unfolding deepest
or_first = (refl, refl, refl, refl)

pub abandoned : Abandoned
unfolding deepest
abandoned = (refl, refl, refl)
