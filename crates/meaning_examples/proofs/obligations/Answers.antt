use Rattle.meaning_examples.proofs.ObligedExamples.{of_nested, of_count}
use Rattle.meaning_examples.proofs.obligations.Goals as goal

pub returns : goal.returns
returns c = record { of_nested = of_nested; of_count = of_count }
