use Rattle.ada_meaning.proofs.BodyLaws.{bodies_law}
use Rattle.ada_meaning.proofs.bodies_stand_in_their_generics.Goals as goal

pub returns : goal.returns
returns c = bodies_law
