use Rattle.commands.proofs.GroupingLaws.{one_consolidation, one_report, it_stands, it_is_taken}
use Rattle.commands.proofs.laws.grouping_does_not_matter.Goals as goal

pub returns : goal.returns
returns c = record { consolidation = one_consolidation; report = one_report; stands = it_stands; taken = it_is_taken }
