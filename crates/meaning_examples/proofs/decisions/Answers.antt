use Rattle.meaning_examples.proofs.DecisionExamples.{returned, and_first, or_first, abandoned}
use Rattle.meaning_examples.proofs.decisions.Goals as goal

pub returns : goal.returns
returns c = record { returned = returned; and_first = and_first; or_first = or_first; abandoned = abandoned }
