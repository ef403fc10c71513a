use Rattle.json_report.proofs.GivenPairs.{least_of_events}
use Rattle.json_report.proofs.laws.the_pairs_are_the_least_of_the_events.Goals as goal

pub returns : goal.returns
returns c = least_of_events
