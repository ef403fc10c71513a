-- Shown by computing.
use Rattle.std.proofs.Common.{refl}
use Rattle.ada_meaning.specs.Execution.{deepest}
use Rattle.meaning_examples.specs.Parameters.{CopiesBack, OutFirst, BothInstances}

pub copies_back : CopiesBack
unfolding deepest
copies_back = refl

pub out_first : OutFirst
unfolding deepest
out_first = refl

pub both_instances : BothInstances
unfolding deepest
both_instances = (refl, (record { formals = (refl, tt); constants = refl }, (record { formals = (refl, tt); constants = refl }, tt)))
