use Rattle.legal_counts.proofs.NodesOfUnits.{subprograms_within, few_nodes, few_beside_types, each_few}
use Rattle.legal_counts.proofs.GenericsOfBodies.{generics_are}
use Rattle.legal_counts.proofs.each_node_of_a_body_has_a_token.Goals as goal

pub returns-clause-bodies : goal.returns-clause-bodies
returns-clause-bodies c = λ l main p is standard filled. subprograms_within l main p is standard filled

pub returns-clause-program : goal.returns-clause-program
returns-clause-program c = λ l main p is standard filled. few_nodes l main p is standard filled

pub returns-clause-each : goal.returns-clause-each
returns-clause-each c = λ l main p is standard filled limit few. each_few l main p is standard filled limit few

pub returns-clause-generics : goal.returns-clause-generics
returns-clause-generics c = λ l main p is. generics_are l main p is

pub returns-clause-types : goal.returns-clause-types
returns-clause-types c = λ l main p is standard filled. few_beside_types l main p is standard filled
