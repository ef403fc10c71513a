use Rattle.unit_walk.proofs.StandingLaws.{grown, shown}
use Rattle.unit_walk.proofs.laws.walks_stand_before_units.Goals as goal

pub returns-clause-grown : goal.returns-clause-grown
returns-clause-grown c old new rs g = grown old new rs g

pub returns-clause-shown : goal.returns-clause-shown
returns-clause-shown c old new n i g = shown old new n i g
