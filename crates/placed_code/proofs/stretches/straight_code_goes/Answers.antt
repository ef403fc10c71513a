use Rattle.placed_code.proofs.Straights.{straight_goes, straight_arrives}
use Rattle.placed_code.proofs.stretches.straight_code_goes.Goals as goal

pub returns-clause-leads : goal.returns-clause-leads
returns-clause-leads c = straight_goes

pub returns-clause-arrives : goal.returns-clause-arrives
returns-clause-arrives c = straight_arrives
