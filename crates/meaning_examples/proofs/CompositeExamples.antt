-- Shown by computing.
use Rattle.std.proofs.Common.{refl}
use Rattle.ada_meaning.specs.Execution.{deepest}
use Rattle.meaning_examples.specs.Composites.{ByParts, CompositeParameters}

pub by_parts : ByParts
unfolding deepest
by_parts = refl

pub composite_parameters : CompositeParameters
unfolding deepest
composite_parameters = refl
