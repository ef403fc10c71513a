use Rattle.meaning_examples.proofs.NestedExamples.{inner_abandoned, recursive, as_operand, as_index}
use Rattle.meaning_examples.proofs.nested_decisions.Goals as goal

pub returns : goal.returns
returns c = record { inner_abandoned = inner_abandoned; recursive = recursive; as_operand = as_operand; as_index = as_index }
