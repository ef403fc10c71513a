use Rattle.trace_format.proofs.PassingLaws.{block_passes, blocks_rise, entry_passes}
use Rattle.trace_format.proofs.laws.passing.Goals as goal

pub returns-clause-block : goal.returns-clause-block
returns-clause-block c = block_passes

pub returns-clause-rising : goal.returns-clause-rising
returns-clause-rising c = blocks_rise

pub returns-clause-entry : goal.returns-clause-entry
returns-clause-entry c = entry_passes
