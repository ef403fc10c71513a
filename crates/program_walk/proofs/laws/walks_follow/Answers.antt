use Rattle.program_walk.proofs.Following.{grown, opened_inside, reopened_inside, changed_inside}
use Rattle.program_walk.proofs.laws.walks_follow.Goals as goal

pub returns-clause-grown : goal.returns-clause-grown
returns-clause-grown c context old new g = grown context old new g

pub returns-clause-opened : goal.returns-clause-opened
returns-clause-opened c context d old new e g = opened_inside context d old new e g

pub returns-clause-inside : goal.returns-clause-inside
returns-clause-inside c context old new g = changed_inside context old new g

pub returns-clause-reopened : goal.returns-clause-reopened
returns-clause-reopened c context d old new r e g = reopened_inside context d old new r e g
