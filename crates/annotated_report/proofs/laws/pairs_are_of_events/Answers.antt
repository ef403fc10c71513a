use Rattle.annotated_report.proofs.PairedEvents.{pairs_of_events}
use Rattle.annotated_report.proofs.laws.pairs_are_of_events.Goals as goal

pub returns : goal.returns
returns c = pairs_of_events
