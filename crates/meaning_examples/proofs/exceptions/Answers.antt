use Rattle.meaning_examples.proofs.ExceptionExamples.{unhandled, of_operations, in_declarations, in_handlers}
use Rattle.meaning_examples.proofs.exceptions.Goals as goal

pub returns : goal.returns
returns c = record { unhandled = unhandled; of_operations = of_operations; in_declarations = in_declarations; in_handlers = in_handlers }
