use Rattle.legal_laws.proofs.Values.{order_demanded, value_demanded}
use Rattle.legal_laws.proofs.demands_give_values.Goals as goal

pub returns-clause-values : goal.returns-clause-values
returns-clause-values c = λ p facts all inst o h. value_demanded p facts all.0 all.1 inst o h

pub returns-clause-bounds : goal.returns-clause-bounds
returns-clause-bounds c = λ p facts all inst low high h. order_demanded p facts all.0 all.1 inst low high h
