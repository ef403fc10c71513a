use Rattle.json_report.proofs.AlikeEvents.{same_text}
use Rattle.json_report.proofs.laws.the_json_depends_on_the_set_of_events.Goals as goal

pub returns : goal.returns
returns c = same_text
