use Rattle.generic_expand.proofs.Weighing as law
use Rattle.generic_expand.proofs.laws.limits_are_exact.Goals as goal

pub returns-clause-few_instances : goal.returns-clause-few_instances
returns-clause-few_instances c = law.few_instances

pub returns-clause-many_instances : goal.returns-clause-many_instances
returns-clause-many_instances c = law.many_instances

pub returns-clause-few_nodes : goal.returns-clause-few_nodes
returns-clause-few_nodes c = law.few_nodes

pub returns-clause-many_nodes : goal.returns-clause-many_nodes
returns-clause-many_nodes c = law.many_nodes
