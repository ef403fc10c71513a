use Rattle.commands.proofs.RegroupingLaws.{coverage_regrouped, consolidation_regrouped, file_stands}
use Rattle.commands.proofs.grouping.calls_know_no_grouping.Goals as goal

pub returns : goal.returns
returns c = record { coverage = coverage_regrouped; consolidation = consolidation_regrouped; part = file_stands }
