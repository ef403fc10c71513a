use Rattle.placed_code.proofs.Steps.{branch_goes, branch_goes_on}
use Rattle.placed_code.proofs.instructions.branches_go.Goals as goal

pub returns-clause-taken : goal.returns-clause-taken
returns-clause-taken c = branch_goes

pub returns-clause-not_taken : goal.returns-clause-not_taken
returns-clause-not_taken c = branch_goes_on
