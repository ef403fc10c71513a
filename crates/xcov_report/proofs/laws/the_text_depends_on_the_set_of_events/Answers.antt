use Rattle.xcov_report.proofs.Alike.{same_text}
use Rattle.xcov_report.proofs.laws.the_text_depends_on_the_set_of_events.Goals as goal

pub returns : goal.returns
returns c = same_text
