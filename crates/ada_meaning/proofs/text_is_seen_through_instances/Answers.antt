use Rattle.ada_meaning.proofs.SeenShapes.{seen_exactly, seen_shape}
use Rattle.ada_meaning.proofs.text_is_seen_through_instances.Goals as goal

pub returns : goal.returns
returns c = record { bounds = seen_exactly; shapes = seen_shape }
