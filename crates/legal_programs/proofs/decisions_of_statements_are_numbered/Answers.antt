use Rattle.legal_programs.proofs.DecidedStatements.{all_decide}
use Rattle.legal_programs.proofs.decisions_of_statements_are_numbered.Goals as goal

pub returns : goal.returns
returns c = λ env s q ss step whole. all_decide env s q ss step whole
