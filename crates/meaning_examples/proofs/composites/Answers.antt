use Rattle.meaning_examples.proofs.CompositeExamples.{by_parts, composite_parameters}
use Rattle.meaning_examples.proofs.composites.Goals as goal

pub returns : goal.returns
returns c = record { by_parts = by_parts; composite_parameters = composite_parameters }
