use Rattle.user_calls.proofs.GroupingLaws.{coverage_law, consolidation_law}
use Rattle.user_calls.proofs.grouping_of_runs_does_not_matter.Goals as goal

pub returns : goal.returns
returns c = record { coverage = coverage_law; consolidation = consolidation_law }
