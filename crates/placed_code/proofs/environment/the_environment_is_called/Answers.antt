use Rattle.placed_code.proofs.Calls.{get_goes, get_at_the_end_goes, put_goes, end_goes}
use Rattle.placed_code.proofs.environment.the_environment_is_called.Goals as goal

pub returns-clause-get : goal.returns-clause-get
returns-clause-get c = get_goes

pub returns-clause-get_at_the_end : goal.returns-clause-get_at_the_end
returns-clause-get_at_the_end c = get_at_the_end_goes

pub returns-clause-put : goal.returns-clause-put
returns-clause-put c = put_goes

pub returns-clause-end : goal.returns-clause-end
returns-clause-end c = end_goes
