use Rattle.generic_expand.proofs.Exceptions.{exceptions_counted}
use Rattle.generic_expand.proofs.Weighing.{copies_within}
use Rattle.generic_expand.proofs.laws.copies_are_within_the_nodes.Goals as goal

pub returns-clause-weight : goal.returns-clause-weight
returns-clause-weight c = copies_within

pub returns-clause-exceptions : goal.returns-clause-exceptions
returns-clause-exceptions c = exceptions_counted
