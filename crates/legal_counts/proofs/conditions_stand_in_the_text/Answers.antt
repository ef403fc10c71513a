use Rattle.legal_counts.proofs.ConditionUnits.{conditions_placed}
use Rattle.legal_counts.proofs.conditions_stand_in_the_text.Goals as goal

pub returns-clause-places : goal.returns-clause-places
returns-clause-places c = λ l main p is standard. (conditions_placed l main p is standard).0

pub returns-clause-once : goal.returns-clause-once
returns-clause-once c = λ l main p is standard. (conditions_placed l main p is standard).1
