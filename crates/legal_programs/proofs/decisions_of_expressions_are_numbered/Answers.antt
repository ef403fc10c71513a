use Rattle.legal_programs.proofs.DecidedExpressions.{judged_decides}
use Rattle.legal_programs.proofs.decisions_of_expressions_are_numbered.Goals as goal

pub returns : goal.returns
returns c = λ env r s e step is. judged_decides env step is r s e
