use Rattle.legal_instances.proofs.OwnValues.{all_actuals}
use Rattle.legal_instances.proofs.actuals_have_their_values.Goals as goal

pub returns : goal.returns
returns c = λ units main p is rise. all_actuals units main p is rise
