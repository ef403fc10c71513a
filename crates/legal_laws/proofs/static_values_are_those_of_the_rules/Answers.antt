use Rattle.legal_laws.proofs.Values.{value_alike}
use Rattle.legal_laws.proofs.static_values_are_those_of_the_rules.Goals as goal

pub returns : goal.returns
returns c = λ p facts has inst e. value_alike p facts has inst e
