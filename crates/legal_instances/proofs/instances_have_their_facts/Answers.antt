use Rattle.legal_instances.proofs.LegalInstances.{facts_of_instances, looked_at}
use Rattle.legal_instances.proofs.instances_have_their_facts.Goals as goal

pub returns-clause-facts : goal.returns-clause-facts
returns-clause-facts c = λ standard units main p is rise. facts_of_instances standard units main p is rise

pub returns-clause-looked_at : goal.returns-clause-looked_at
returns-clause-looked_at c = λ standard units main p is rise. looked_at standard units main p is rise
