use Rattle.std.proofs.Common.{rules}
use Rattle.coverage_set.proofs.set.least_of.Goals as goal

pub returns-in-Equal : goal.returns-in-Equal
returns-in-Equal g = search rules

pub returns-in-Less : goal.returns-in-Less
returns-in-Less g = search rules

pub returns-in-Greater : goal.returns-in-Greater
returns-in-Greater g = search rules
