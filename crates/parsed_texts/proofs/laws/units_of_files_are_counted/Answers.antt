use Rattle.parsed_texts.proofs.Nodes.{counted_units, few_nodes}
use Rattle.parsed_texts.proofs.laws.units_of_files_are_counted.Goals as goal

pub returns-clause-counted : goal.returns-clause-counted
returns-clause-counted c = counted_units

pub returns-clause-few : goal.returns-clause-few
returns-clause-few c = few_nodes
