use Rattle.program_walk.proofs.PlaceLaws.{holds_grown, holds_opened, holds_inside, holds_reopened, local_is}
use Rattle.program_walk.proofs.table_laws.places_follow.Goals as goal

pub returns-clause-grown : goal.returns-clause-grown
returns-clause-grown c old new g now own k env h begins = holds_grown now own old new k env h begins g

pub returns-clause-opened : goal.returns-clause-opened
returns-clause-opened c old new g now own k env h begins = holds_opened now own old new k env h begins g

pub returns-clause-inside : goal.returns-clause-inside
returns-clause-inside c old new g now own k env h begins = holds_inside now own old new k env h begins g

pub returns-clause-innermost : goal.returns-clause-innermost
returns-clause-innermost c now own symbols k env h = local_is now own symbols symbols k env h h.units.begins

pub returns-clause-reopened : goal.returns-clause-reopened
returns-clause-reopened c old new r g now own k env h begins = holds_reopened now own old new k env h begins r g
