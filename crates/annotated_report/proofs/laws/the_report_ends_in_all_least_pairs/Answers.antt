use Rattle.annotated_report.proofs.PairedEvents.{report_ends_in_pairs}
use Rattle.annotated_report.proofs.laws.the_report_ends_in_all_least_pairs.Goals as goal

pub returns : goal.returns
returns c = report_ends_in_pairs
