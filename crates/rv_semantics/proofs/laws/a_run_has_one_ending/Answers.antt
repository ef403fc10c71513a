use Rattle.rv_semantics.proofs.Runs.{stays_over, one_ending, begins_longer, counts_instructions}
use Rattle.rv_semantics.proofs.laws.a_run_has_one_ending.Goals as goal

pub returns-clause-stays : goal.returns-clause-stays
returns-clause-stays c = stays_over

pub returns-clause-one : goal.returns-clause-one
returns-clause-one c = one_ending

pub returns-clause-begins : goal.returns-clause-begins
returns-clause-begins c = begins_longer

pub returns-clause-counts : goal.returns-clause-counts
returns-clause-counts c = counts_instructions
