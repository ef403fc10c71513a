use Rattle.ada_meaning.proofs.FormedLaws.{body_formed, object_typed}
use Rattle.ada_meaning.proofs.well_formed_bodies_see_types.Goals as goal

pub returns-clause-bodies : goal.returns-clause-bodies
returns-clause-bodies c = body_formed

pub returns-clause-objects : goal.returns-clause-objects
returns-clause-objects c = object_typed
